use Rattle.std.proofs.Common.{refl, inr}
use Rattle.commands.specs.declared.refusal.Refusal.TheVariants.{OutOfMemory}
use Rattle.commands.proofs.output.refuse.Goals as goal

pub returns-in-Err : goal.returns-in-Err
returns-in-Err g c = (OutOfMemory, inr refl, c.tell-in-Err.ensures, c.status-in-Err.ensures)
