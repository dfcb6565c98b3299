use Rattle.std.proofs.Common.{rules, ◌≡◌, true, false}
use Rattle.command_line.specs.Files.{texts}
use Rattle.command_line.proofs.NamesApart.{nowhere, sliced, unfound}
use Rattle.command_line.proofs.apart.+are_new.Goals.{then-not-is_among, else-not-is_among}
use Rattle.command_line.proofs.apart.+are_new.Goals as goal

pub returns-then-not-is_among-2 : goal.returns-then-not-is_among-2
returns-then-not-is_among-2 t c =
    let whole = sliced (texts c.args.read.now) c.args.put.now nowhere c.in-len1-up.len_at_least in
    elim c.if-not-is_among.branch [
      | then-not-is_among w ↦ (
          let unread : c.is_among.result ≡ false = search rules in
          let new : w.is_among-then-not-is_among.result ≡ false = search rules in (
            λ yes. whole.0
                (unfound c.is_among.result c.is_among.ensures unread, (unfound w.is_among-then-not-is_among.result w.is_among-then-not-is_among.ensures new, c.are_new.ensures.0 yes)),
            λ all. c.are_new.ensures.1 ((whole.1 all).1.1),
          ))
      | else-not-is_among w ↦ absurd cc
    ]

pub returns-else-not-is_among-2 : goal.returns-else-not-is_among-2
returns-else-not-is_among-2 t c =
    let whole = sliced (texts c.args.read.now) c.args.put.now nowhere c.in-len1-up.len_at_least in (
      λ yes. absurd cc,
      λ all. elim c.if-not-is_among.branch [
        | then-not-is_among w ↦ (let put : w.is_among-then-not-is_among.result ≡ true = search rules in absurd ((whole.1 all).1.0 (w.is_among-then-not-is_among.ensures.0 put)))
        | else-not-is_among w ↦ (let read : c.is_among.result ≡ true = search rules in absurd ((whole.1 all).0 (c.is_among.ensures.0 read)))
      ],
    )
