use Rattle.core_program.proofs.Runs.{rests-run, run-path}
use Rattle.core_program.proofs.laws.runs_are_paths.Goals as goal

pub returns : goal.returns
returns c = λ p s t xs program from to. (run-path p s t xs, rests-run p s t xs from to)
