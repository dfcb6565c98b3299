use Rattle.core_program.proofs.Formats.{path-no_swap}
use Rattle.core_program.specs.State.{start}
use Rattle.core_program.proofs.laws.no_swaps_in_format_one.Goals as goal

pub returns : goal.returns
returns c = λ p xs s i addr read stored has h e. path-no_swap p start s xs i addr read stored has h e
