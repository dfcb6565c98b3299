use Rattle.std.proofs.Common.{rules, None}
use Rattle.command_line.proofs.NamesApart.{given_none, given_some}
use Rattle.command_line.proofs.apart.names_of.Goals.{in-Some+in_ok-push, in_default}
use Rattle.command_line.proofs.apart.names_of.Goals as goal

pub loop-file-preserved : goal.loop-file-preserved
loop-file-preserved c =
    elim c.match-file.branch [
      | in-Some+in_ok-push w ↦ given_some c.args.given.now c.loop-file.file-index None w.in-Some.name c.loop-file.names.items c.match-file.names.items c.loop-file-test.true (search rules) c.loop-file.invariant (search rules)
      | in_default w ↦ given_none c.args.given.now c.loop-file.file-index None c.loop-file.names.items c.match-file.names.items c.loop-file-test.true (search rules) c.loop-file.invariant (search rules)
    ]
