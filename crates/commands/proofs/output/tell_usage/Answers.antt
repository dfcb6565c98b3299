use Rattle.std.specs.Prelude.{codes}
use Rattle.commands.proofs.output.tell_usage.Goals as goal

pub returns-else-ends_with : goal.returns-else-ends_with
returns-else-ends_with g c = (codes "error: these words ask for nothing", c.tell-else-ends_with.ensures)
