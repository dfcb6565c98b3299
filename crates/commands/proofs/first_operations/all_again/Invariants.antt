-- The folder is as it was.
use Rattle.std.proofs.Common.{◌≡◌}
use Rattle.commands.proofs.first_operations.all_again.Given as goal

abbrev pub invariant-loop-name : goal.invariant-loop-name
invariant-loop-name g l = g.F.Folder.files l.folder ≡ g.F.Folder.files l.fn.folder
