use Rattle.trace_replay.proofs.OneAnswer.{one_answer}
use Rattle.trace_replay.proofs.laws.one_answer.Goals as goal

pub returns : goal.returns
returns c = one_answer
