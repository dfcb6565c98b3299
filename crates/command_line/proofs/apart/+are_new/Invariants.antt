-- The names that are left become fewer.
use Rattle.std.proofs.Common.{length}
use Rattle.command_line.proofs.apart.+are_new.Given as goal

abbrev pub decreases-are_new : goal.decreases-are_new
decreases-are_new l = length l.put.now
