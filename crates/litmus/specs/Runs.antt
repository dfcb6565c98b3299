-- Runs of a test: how they come to their ends, and why one has no outcome that counts.
use Rattle.std.specs.Prelude.{◌≡◌, ◌⊎◌, ℕ, ◌+◌, ◌%◌, ◌^◌, List, [], Option, Some, length, map}
use Rattle.std.specs.Option.{option_map}
use Rattle.lease_rule.specs.ConfigParts.{ConfigParts}
use Rattle.core_program.specs.declared.instruction.Instruction.{Instruction}
use Rattle.core_unit.specs.Parts.{UnitParts}
use Rattle.core_machine.specs.Machine.{World}
use Rattle.core_machine.specs.Opening.{opening_parts}
use Rattle.core_machine.specs.Parts.{CoreParts, world}
use Rattle.audit.specs.Runs.{IsRun, StoppedShort}
use Rattle.audit.specs.declared.machine_fault.Cause.TheVariants.{GaveUp, Stopped}
use Rattle.audit.specs.declared.threads_fault.ThreadsFault.{ThreadsFault}
use Rattle.machine.specs.Runs.{IsMachineRun}
use Rattle.simulation.specs.Events.{IsSimulatedByRun}
use Rattle.simulation.specs.Simulating.{IsSimulationFault}
use Rattle.simulation.specs.declared.fault.SimulationFault.{SimulationFault}
use Rattle.statistics.specs.Numbers.{run_numbers}
use Rattle.statistics.specs.declared.numbers.Numbers.{Numbers}
use Rattle.litmus.specs.Parts.{LitmusParts}
use Rattle.litmus.specs.Ends.{GetsYes, IsJudgeCause, ThreadEnd, left, outcome_of}
use Rattle.litmus.specs.declared.run_cause.RunCause.{RunCause}
use Rattle.litmus.specs.declared.run_cause.RunCause.TheVariants as cause

-- ---- a run by a seed

-- A run of the core machine, from the start of the programs: by just the events of the rounds that this seed draws, and of the commands
-- that a seed for stress draws.
abbrev pub IsSeededRun : LitmusParts → ConfigParts → ℕ → Option ℕ → CoreParts → Type 0
IsSeededRun t g seed stress q = IsSimulatedByRun [] (Some seed) stress (opening_parts t.programs g) q

-- the seed of run k
abbrev pub seed_of : ℕ → ℕ → ℕ
seed_of seed k = (seed + k) % 2 ^ 64

-- and that of its commands
abbrev pub stress_of : Option ℕ → ℕ → Option ℕ
stress_of stress k = option_map (λ seed. seed_of seed k) stress

-- ---- a run by threads

-- the units and slices of a whole run of the programs, which is also a run of the core machine
abbrev pub IsThreadRun : LitmusParts → ConfigParts → ThreadEnd → Type 0
IsThreadRun t g end = IsRun t.programs g end.units end.slices × IsMachineRun t.programs g end.units end.slices

-- the fault of a run that didn't end: if it is number 30 or 31, its core has stopped before the end of its program
abbrev pub IsUnendedRun : List (List Instruction) → ThreadsFault → Type 0
IsUnendedRun programs fault = (us : List UnitParts) × (((fault.cause ≡ GaveUp) ⊎ (fault.cause ≡ Stopped)) → StoppedShort programs us fault.core)

-- ---- a run of either kind: `Ran` says where it ended

-- some such run ended with this outcome and these numbers, and its logs get Yes
pub record IsEndOf (E : Type 0) (Ran : E → Type 0) (at : E → World) (numbers : E → Numbers) (t : LitmusParts) (outcome : List ℕ) (n : Numbers) : Type 0 where
  pub end : E
  pub run : Ran end
  pub yes : GetsYes t (at end)
  pub outcome_is : outcome ≡ outcome_of t (at end)
  pub numbers_are : n ≡ numbers end

-- the numbers of a run, where it ended
abbrev pub seeded_numbers : LitmusParts → ConfigParts → CoreParts → Numbers
seeded_numbers t g q = run_numbers (length t.programs) g.slices (map (λ seat. seat.unit) q.seats) q.slices

abbrev pub thread_numbers : LitmusParts → ConfigParts → ThreadEnd → Numbers
thread_numbers t g end = run_numbers (length t.programs) g.slices end.units end.slices

-- the run by this seed
abbrev pub IsSeededEnd : LitmusParts → ConfigParts → ℕ → Option ℕ → List ℕ → Numbers → Type 0
IsSeededEnd t g seed stress outcome n = IsEndOf CoreParts (IsSeededRun t g seed stress) world (seeded_numbers t g) t outcome n

-- a run by threads
abbrev pub IsThreadEnd : LitmusParts → ConfigParts → List ℕ → Numbers → Type 0
IsThreadEnd t g outcome n = IsEndOf ThreadEnd (IsThreadRun t g) left (thread_numbers t g) t outcome n

-- ---- why a run has no outcome that counts

-- The run doesn't end, or its logs don't get Yes. Lack of memory may come instead.
pub data IsCauseOf (E : Type 0) (Ran : E → Type 0) (NotEnded : RunCause → Type 0) (at : E → World) (t : LitmusParts) (why : RunCause) : Type 0 where
  not_ended : NotEnded why → IsCauseOf E Ran NotEnded at t why
  not_yes : (end : E) → Ran end → IsJudgeCause t (at end) why → IsCauseOf E Ran NotEnded at t why
  no_memory : why ≡ cause.OutOfMemory → IsCauseOf E Ran NotEnded at t why

-- the cores don't come to their ends by this seed
abbrev pub IsUnsimulated : LitmusParts → ConfigParts → ℕ → Option ℕ → RunCause → Type 0
IsUnsimulated t g seed stress why =
    (q : CoreParts) × (fault : SimulationFault) × IsSimulationFault [] (Some seed) stress (opening_parts t.programs g) q fault × (why ≡ cause.Simulation fault)

-- nor by threads
abbrev pub IsUnthreaded : LitmusParts → RunCause → Type 0
IsUnthreaded t why = (fault : ThreadsFault) × IsUnendedRun t.programs fault × (why ≡ cause.Threads fault)

-- why the run by this seed has none
abbrev pub IsRunCause : LitmusParts → ConfigParts → ℕ → Option ℕ → RunCause → Type 0
IsRunCause t g seed stress why = IsCauseOf CoreParts (IsSeededRun t g seed stress) (IsUnsimulated t g seed stress) world t why

-- why a run by threads has none
abbrev pub IsThreadCause : LitmusParts → ConfigParts → RunCause → Type 0
IsThreadCause t g why = IsCauseOf ThreadEnd (IsThreadRun t g) (IsUnthreaded t) left t why
