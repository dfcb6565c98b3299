use Rattle.line_stamps.specs.KeyOrder.{key_cmp}
use Rattle.line_stamps.proofs.Keys.{key_total}
use Rattle.line_stamps.proofs.Joined.{least_of-append}
use Rattle.line_stamps.proofs.laws.least_of_joined_lists.Goals as goal

pub returns : goal.returns
returns c = least_of-append key_cmp key_total
