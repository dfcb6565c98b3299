-- Laws of refutations.
use Rattle.std.specs.Prelude.{List}
use Rattle.mem_op.specs.Consistency.{Operation, IsConsistent}
use Rattle.refutation.specs.declared.step.Step.{Step}
use Rattle.refutation.specs.Refuting.{IsRefutation}

-- a trace that has a refutation isn't consistent
abbrev pub RefutationsHold : Type 0
RefutationsHold = (cores : List (List Operation)) (steps : List Step) → IsRefutation cores steps → ¬ IsConsistent cores

-- a trace that isn't consistent has a refutation
abbrev pub Complete : Type 0
Complete = (cores : List (List Operation)) → ¬ IsConsistent cores → (steps : List Step) × IsRefutation cores steps
