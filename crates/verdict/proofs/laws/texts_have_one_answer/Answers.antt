use Rattle.verdict.proofs.OneAnswer.{one_answer}
use Rattle.verdict.proofs.laws.texts_have_one_answer.Goals as goal

pub returns : goal.returns
returns c = one_answer
