use Rattle.manager_slice.proofs.Refused.{only_owners}
use Rattle.manager_slice.proofs.laws.only_owners_give_back.Goals as goal

pub returns : goal.returns
returns c = only_owners
