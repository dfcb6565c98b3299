-- The words of a swap.
use Rattle.std.proofs.Common.{rules}
use Rattle.verdict.proofs.accesses.access_of.Goals as goal

pub returns-in-Swap : goal.returns-in-Swap
returns-in-Swap c = search rules
