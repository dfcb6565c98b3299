use Rattle.line_stamps.proofs.Keys.{tied_keys}
use Rattle.line_stamps.proofs.laws.tied_keys_are_one.Goals as goal

pub returns : goal.returns
returns c = tied_keys
