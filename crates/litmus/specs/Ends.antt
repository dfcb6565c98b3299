-- Where a run of a test has ended: its outcome, and what the judge says of its logs.
use Rattle.std.specs.Prelude.{◌≡◌, ℕ, List, length, map, slice_get, None}
use Rattle.std.specs.Option.{option_map_or}
use Rattle.log_record.specs.declared.record.Record.{Record}
use Rattle.core_program.specs.State.{reg}
use Rattle.manager_slice.specs.Parts.{SliceParts}
use Rattle.core_unit.specs.Parts.{UnitParts, core_of}
use Rattle.core_machine.specs.Machine.{World}
use Rattle.core_machine.specs.Works.{logs_below}
use Rattle.audit.specs.Events.{world_of}
use Rattle.verdict.specs.VerdictOf.{run_verdict_of}
use Rattle.verdict.specs.declared.answer.Verdict.TheVariants.{Yes, No}
use Rattle.litmus.specs.Parts.{LitmusParts, ShownParts}
use Rattle.litmus.specs.declared.run_cause.RunCause.{RunCause}
use Rattle.litmus.specs.declared.run_cause.RunCause.TheVariants as cause

-- what threads gave back: the units of the cores and the slices
pub record ThreadEnd : Type 0 where
  pub units : List UnitParts
  pub slices : List SliceParts

-- the machine that they make
abbrev pub left : ThreadEnd → World
left end = world_of (map (λ u. core_of u None) end.units) end.slices

-- the logs of a test's cores
abbrev pub logs_of : LitmusParts → World → List (List Record)
logs_of t w = logs_below w (length t.programs)

-- the word in a shown register
abbrev pub word_in : World → ShownParts → ℕ
word_in w shown = option_map_or (λ u. reg u.state shown.register) (slice_get w.cores shown.core) 0

-- the outcome: the words in all shown registers
abbrev pub outcome_of : LitmusParts → World → List ℕ
outcome_of t w = map (word_in w) t.shown

-- the logs get Yes against the test's programs
abbrev pub GetsYes : LitmusParts → World → Type 0
GetsYes t w = (count : ℕ) × (run_verdict_of t.programs (logs_of t w) ≡ Yes count)

-- the cause is that the logs of the run get No
abbrev pub SaysNo : RunCause → Type 0
SaysNo (cause.No fault) = Unit {0}
SaysNo (cause.Simulation fault) = ⊥
SaysNo (cause.Threads fault) = ⊥
SaysNo cause.OutOfMemory = ⊥

-- Why the logs of a run that has ended don't get Yes: they get No. Lack of memory may come instead, and no other fault of the judge.
abbrev pub IsJudgeCause : LitmusParts → World → RunCause → Type 0
IsJudgeCause t w (cause.No fault) = run_verdict_of t.programs (logs_of t w) ≡ No fault
IsJudgeCause t w (cause.Simulation fault) = ⊥
IsJudgeCause t w (cause.Threads fault) = ⊥
IsJudgeCause t w cause.OutOfMemory = Unit {0}
