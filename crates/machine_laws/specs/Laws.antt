-- The laws of the core machine: what holds after every list of events, with any recalls, evictions, spills and self-increments, and
-- for every configuration.
use Rattle.std.specs.Prelude.{◌≡◌, ℕ, false, List, [], ◌∷◌, length, map, All}
use Rattle.mem_op.specs.Consistency.{IsConsistent}
use Rattle.lease_rule.specs.ConfigParts.{ConfigParts}
use Rattle.log_record.specs.declared.act.Act.TheVariants as act
use Rattle.log_record.specs.declared.record.Record.{Record}
use Rattle.log_record.specs.Entries.{entries, operations_of}
use Rattle.core_program.specs.declared.instruction.Instruction.{Instruction}
use Rattle.core_program.specs.declared.instruction.Instruction.TheVariants as instruction
use Rattle.core_program.specs.Shape.{IsProgram}
use Rattle.verdict.specs.FlatMachine.{RunsFlat}
use Rattle.verdict.specs.declared.answer.Verdict.TheVariants.{Yes}
use Rattle.verdict.specs.VerdictOf.{verdict_of, run_verdict_of}
use Rattle.manager_slice.specs.Parts.{SliceParts}
use Rattle.core_unit.specs.Parts.{UnitParts}
use Rattle.core_machine.specs.Machine.{World, Run, opening}
use Rattle.core_machine.specs.Works.{has_next}
use Rattle.core_machine.specs.declared.event.Event.{Event}
use Rattle.core_machine.specs.declared.event.Event.TheVariants as event
use Rattle.audit.specs.Events.{AreOneMachine}
use Rattle.audit.specs.Lists.{transcripts, histories}
use Rattle.audit.specs.Merges.{HasMerge}
use Rattle.audit.specs.Runs.{IsRun}
use Rattle.machine_laws.specs.Stamps.{HasStamps}
use Rattle.machine_laws.specs.Versions.{HasVersions, AgreeOnVersions}
use Rattle.machine_laws.specs.Swaps.{HasSwaps}
use Rattle.machine_laws.specs.Settled.{settled, view_of}
use Rattle.machine_laws.specs.Hands.{AgreeOnOwners, HandsTell, RepliesFit}

-- some events lead from the start of these programs to w
abbrev pub IsReachedFrom : List (List Instruction) → ConfigParts → World → Type 0
IsReachedFrom programs g w = (events : List Event) × Run g (opening programs g.slices) events w

-- the records of the operations that each core has performed so far
abbrev pub logs_of : World → List (List Record)
logs_of w = map (λ u. u.log) w.cores

-- ---- the invariants

abbrev pub OwnersAgree : Type 0
OwnersAgree = (programs : List (List Instruction)) (g : ConfigParts) (w : World) → IsReachedFrom programs g w → AgreeOnOwners (settled g w)

abbrev pub HandsAlwaysTell : Type 0
HandsAlwaysTell = (programs : List (List Instruction)) (g : ConfigParts) (w : World) → IsReachedFrom programs g w → HandsTell w

abbrev pub RepliesAlwaysFit : Type 0
RepliesAlwaysFit = (programs : List (List Instruction)) (g : ConfigParts) (w : World) → IsReachedFrom programs g w → RepliesFit g w

abbrev pub StampsHold : Type 0
StampsHold = (programs : List (List Instruction)) (g : ConfigParts) (w : World) → IsReachedFrom programs g w → HasStamps (view_of g w)

abbrev pub VersionsHold : Type 0
VersionsHold = (programs : List (List Instruction)) (g : ConfigParts) (w : World) → IsReachedFrom programs g w → HasVersions (view_of g w)

abbrev pub VersionsAgree : Type 0
VersionsAgree = (programs : List (List Instruction)) (g : ConfigParts) (w : World) → IsReachedFrom programs g w → AgreeOnVersions (view_of g w)

abbrev pub SwapsHold : Type 0
SwapsHold = (programs : List (List Instruction)) (g : ConfigParts) (w : World) → IsReachedFrom programs g w → HasSwaps w (view_of g w) (logs_of w)

-- ---- the verdict

-- the logs get Yes, with the number of their records
abbrev pub GetYes : List (List Record) → Type 0
GetYes logs = verdict_of logs ≡ Yes (length (entries logs))

-- they get it against these programs too
abbrev pub GetYesBy : List (List Instruction) → List (List Record) → Type 0
GetYesBy programs logs = run_verdict_of programs logs ≡ Yes (length (entries logs))

-- no core has an operation left
abbrev pub HaveEnded : World → Type 0
HaveEnded w = (c : ℕ) → has_next w c ≡ false

-- the logs made so far get Yes
abbrev pub RunsGetYes : Type 0
RunsGetYes =
    (programs : List (List Instruction)) (g : ConfigParts) (w : World) → IsReachedFrom programs g w → GetYes (logs_of w)

-- so their operations are sequentially consistent, as textbooks have it
abbrev pub RunsAreConsistent : Type 0
RunsAreConsistent =
    (programs : List (List Instruction)) (g : ConfigParts) (w : World) → IsReachedFrom programs g w → IsConsistent (operations_of (logs_of w))

-- if every program has ended, they get Yes against the programs too
abbrev pub EndedRunsGetYes : Type 0
EndedRunsGetYes =
    (programs : List (List Instruction)) (g : ConfigParts) (w : World) → IsReachedFrom programs g w → HaveEnded w →
    GetYesBy programs (logs_of w)

-- so some whole run of the flat machine, one memory and a core at a time, performs just these operations
abbrev pub EndedRunsAreFlat : Type 0
EndedRunsAreFlat =
    (programs : List (List Instruction)) (g : ConfigParts) (w : World) → All IsProgram programs → IsReachedFrom programs g w → HaveEnded w →
    RunsFlat programs (operations_of (logs_of w))

-- ---- of units and slices

abbrev pub unit_logs : List UnitParts → List (List Record)
unit_logs us = map (λ u. u.log) us

-- if the whole lists of the units and slices of one machine have a merge, the units' logs get Yes
abbrev pub MergedLogsGetYes : Type 0
MergedLogsGetYes =
    (g : ConfigParts) (us : List UnitParts) (ss : List SliceParts) → AreOneMachine g us ss → HasMerge (transcripts us) (histories ss) →
    GetYes (unit_logs us)

-- the logs of a whole run of programs get Yes against the programs too
abbrev pub WholeRunsGetYes : Type 0
WholeRunsGetYes =
    (programs : List (List Instruction)) (g : ConfigParts) (us : List UnitParts) (ss : List SliceParts) → IsRun programs g us ss →
    GetYesBy programs (unit_logs us)

-- ---- a run

-- one core, whose program is one store of 7 to address 5
abbrev pub one_store : List (List Instruction)
one_store = (instruction.Store 5 7 ∷ []) ∷ []

-- a configuration with one slice
abbrev pub one_slice : ConfigParts
one_slice = record { slices = 1; lease = 10; period = 100; cache_lines = 64; slice_lines = 64; inbox = 64; turns = 1000 }

-- these events lead from its start to a state with this log: the store is at stamp 1
abbrev pub OneStoreRuns : Type 0
OneStoreRuns =
    (w : World) × Run one_slice (opening one_store 1) (event.Turn 0 ∷ event.Serve 0 ∷ event.Take 0 ∷ event.Turn 0 ∷ []) w ×
    (logs_of w ≡ ((record { value = 7; ts = 1; rank = 0; addr = 5; act = act.Store }) ∷ []) ∷ [])
