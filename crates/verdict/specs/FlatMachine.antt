-- The flat machine: one memory of words, all 0 at first, and each core's program at its start.
use Rattle.std.specs.Prelude.{◌≡◌, ℕ, ◌==◌, if◌then◌else◌, List, [], ◌∷◌, ◌++◌, Some, None, slice_get, slice_set, map, unwrap_or, length}
use Rattle.std.specs.List.{filter_map}
use Rattle.mem_op.specs.Consistency.{Operation}
use Rattle.flat_replay.specs.Memory.{IsAnsweredBy, after}
use Rattle.core_program.specs.declared.instruction.Instruction.{Instruction}
use Rattle.core_program.specs.State.{State, start}
use Rattle.core_program.specs.Meaning.{Path}

-- the memory, and the state of each core in its program
pub record Flat : Type 0 where
  pub memory : ℕ → ℕ
  pub states : List State

abbrev pub flat_start : List (List Instruction) → Flat
flat_start programs = record { memory = λ addr. 0; states = map (λ program. start) programs }

-- `FlatRun programs run done flat`: each core of the run, in its order, performs its next memory instruction;
-- `done` has each operation with its core.
pub data FlatRun (programs : List (List Instruction)) : List ℕ → List (ℕ × Operation) → Flat → Type 0 where
  starts : FlatRun programs [] [] (flat_start programs)
  performs : (run : List ℕ) (done : List (ℕ × Operation)) (flat : Flat) (core : ℕ) (program : List Instruction) (s t : State) (operation : Operation) →
      FlatRun programs run done flat → slice_get programs core ≡ Some program → slice_get flat.states core ≡ Some s →
      Path program s (operation ∷ []) t → IsAnsweredBy flat.memory operation →
      FlatRun programs (run ++ core ∷ []) (done ++ (core, operation) ∷ []) (record { memory = after operation flat.memory; states = slice_set flat.states core t })

-- from its state the program comes to its end without a memory instruction
abbrev pub HasEnded : List Instruction → State → Type 0
HasEnded program s = (t : State) × Path program s [] t × (t.position ≡ length program)

-- all programs have ended
abbrev pub IsWhole : List (List Instruction) → Flat → Type 0
IsWhole programs flat =
    (core : ℕ) (program : List Instruction) → slice_get programs core ≡ Some program →
    (s : State) × (slice_get flat.states core ≡ Some s) × HasEnded program s

-- the operations of a core, in their order
abbrev pub performed_by : ℕ → List (ℕ × Operation) → List Operation
performed_by core done = filter_map (λ p. if p.0 == core then Some p.1 else None) done

-- a whole run of the programs performs just these operations of each core, each load and each swap with the word that it read
pub record PerformsAll (programs : List (List Instruction)) (cores : List (List Operation)) (run : List ℕ) : Type 0 where
  pub done : List (ℕ × Operation)
  pub flat : Flat
  pub leads : FlatRun programs run done flat
  pub whole : IsWhole programs flat
  pub each : (core : ℕ) → performed_by core done ≡ unwrap_or (slice_get cores core) []

-- some whole run of the flat machine performs just these operations
abbrev pub RunsFlat : List (List Instruction) → List (List Operation) → Type 0
RunsFlat programs cores = (run : List ℕ) × PerformsAll programs cores run
