use Rattle.verdict.proofs.Bridge.{yes_is_sequential}
use Rattle.verdict.proofs.laws.key_order_is_sequential.Goals as goal

pub returns : goal.returns
returns c = yes_is_sequential
