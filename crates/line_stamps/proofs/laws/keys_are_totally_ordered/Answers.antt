use Rattle.line_stamps.proofs.Keys.{key_total}
use Rattle.line_stamps.proofs.laws.keys_are_totally_ordered.Goals as goal

pub returns : goal.returns
returns c = key_total
