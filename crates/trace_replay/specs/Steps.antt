-- Operations in the order in which they are performed, with their ids by counting.
use Rattle.std.specs.Prelude.{◌≡◌, ⊤, ℕ, Bool, ◌==◌, List, [], ◌∷◌, ◌++◌, count_by, fold, map}
use Rattle.mem_op.specs.declared.id.OpId.{OpId}
use Rattle.mem_op.specs.Consistency.{Operation, IsSequentialOrder}
use Rattle.trace.specs.declared.line.TraceLine.{TraceLine}
use Rattle.trace.specs.declared.line.TraceLine.TheVariants.{Nothing, Performs}
use Rattle.trace.specs.Growing.{with_operation}

-- an operation with its id
pub record Step : Type 0 where
  pub id : OpId
  pub operation : Operation

abbrev pub is_of_core : ℕ → Step → Bool
is_of_core core step = step.id.core == core

-- a core's next step: its index is the number of the core's steps before it
abbrev pub next_step : List Step → ℕ → Operation → Step
next_step before core operation = record {
  id = record { core = core; index = count_by (is_of_core core) before };
  operation = operation;
}

-- the index of each of these steps is that number, with the steps of `before` before them all
abbrev pub AreCountedAfter : List Step → List Step → Type 0
AreCountedAfter before [] = ⊤
AreCountedAfter before (step ∷ later) =
    (step.id.index ≡ count_by (is_of_core step.id.core) before) × AreCountedAfter (before ++ step ∷ []) later

abbrev pub operations : List Step → List Operation
operations steps = map (λ step. step.operation) steps

abbrev pub order_of : List Step → List OpId
order_of steps = map (λ step. step.id) steps

-- the operations of each core, with that of one more step
abbrev pub with_step : List (List Operation) → Step → List (List Operation)
with_step cores step = with_operation step.id.core step.operation cores

abbrev pub cores_of : List Step → List (List Operation)
cores_of steps = fold with_step [] steps

-- the order of the steps is a sequential order of their operations
abbrev pub AreInOrder : List Step → Type 0
AreInOrder steps = IsSequentialOrder (cores_of steps) (order_of steps)

-- the steps with that of one more line
abbrev pub with_said : List Step → TraceLine → List Step
with_said steps Nothing = steps
with_said steps (Performs core operation) = steps ++ next_step steps core operation ∷ []

-- the steps that lines tell
abbrev pub steps_of : List TraceLine → List Step
steps_of said = fold with_said [] said
