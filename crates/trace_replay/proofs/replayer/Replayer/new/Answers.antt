use Rattle.std.proofs.Common.{refl}
use Rattle.trace_replay.proofs.States.{nothing_performed}
use Rattle.trace_replay.proofs.replayer.Replayer.new.Goals as goal

pub returns : goal.returns
returns c = nothing_performed _ refl c.new.ensures refl
