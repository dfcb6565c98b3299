use Rattle.trace_replay.proofs.Feeding.{same_trace}
use Rattle.trace_replay.proofs.laws.same_trace.Goals as goal

pub returns : goal.returns
returns c = same_trace
