-- The entries after the first ones are still those of their records.
use Rattle.std.proofs.Common.{rules, ◌≡◌, ◌++◌, ◌∷◌, [], ◌-◌, ℕ, ap, arith, length}
use Rattle.log_record.specs.declared.record.Entry.{Entry}
use Rattle.log_file.proofs.Joined.{one_kept}
use Rattle.log_file.proofs.entry_list.EntryListRecordList.keep.Goals as goal

pub invariant_of-self-2 : goal.invariant_of-self-2
invariant_of-self-2 c =
    let inside = c.self.inside in
    let list = inside.entries.items in
    let index : c.at-index.result ≡ length list - inside.start = omega (arith, c.at-index.ensures, c.len.ensures, inside.entries.ok.0) in
    let entry : Entry = record { id = record { core = inside.core; index = c.at-index.result }; logged = c.args.logged } in
    let made : entry ≡ record { id = record { core = inside.core; index = length list - inside.start }; logged = c.args.logged } =
    ap (λ (n : ℕ). record { id = record { core = inside.core; index = n }; logged = c.args.logged }) index in
    let pushed : c.push.new.self.items ≡ list ++ entry ∷ [] = search rules in
    one_kept inside.core inside.start list c.push.new.self.items entry c.args.logged c.self.invariant made pushed
