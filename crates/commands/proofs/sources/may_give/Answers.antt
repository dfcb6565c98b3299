-- The store that a source names.
use Rattle.std.proofs.Common.{rules}
use Rattle.commands.proofs.sources.may_give.Goals as goal

pub returns-in-Some : goal.returns-in-Some
returns-in-Some c = search rules
