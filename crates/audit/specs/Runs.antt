-- What a run of threads ends with.
use Rattle.std.specs.Prelude.{◌≡◌, ◌==◌, ◌<◌, ◌⊎◌, ℕ, if◌then◌else◌, List, [], length, Option, None, Some, slice_get}
use Rattle.std.specs.Option.{option_map_or}
use Rattle.lease_rule.specs.ConfigParts.{ConfigParts}
use Rattle.log_record.specs.declared.record.Record.{Record}
use Rattle.core_program.specs.declared.instruction.Instruction.{Instruction}
use Rattle.core_program.specs.Conforming.{Conforms, Reaches, program_fault}
use Rattle.manager_slice.specs.Parts.{SliceParts}
use Rattle.manager_slice.specs.Replay as slice
use Rattle.core_unit.specs.Kept as kept
use Rattle.core_unit.specs.Laws.{performed_by}
use Rattle.core_unit.specs.Parts.{UnitParts}
use Rattle.audit.specs.declared.fault.AuditFault.{AuditFault}
use Rattle.audit.specs.declared.machine_fault.Cause.{Cause}
use Rattle.audit.specs.declared.machine_fault.Cause.TheVariants as cause
use Rattle.audit.specs.Lists.{transcripts, histories}
use Rattle.audit.specs.Merges.{HasMerge, IsAuditFault}
use Rattle.audit.specs.Pairs.{Agrees}

-- a unit that has run core c's program to its end
pub record HasEnded (programs : List (List Instruction)) (g : ConfigParts) (c : ℕ) (u : UnitParts) : Type 0 where
  pub core : u.core ≡ c
  pub program : slice_get programs c ≡ Some u.program
  pub config : u.config ≡ g
  pub replays : kept.Replays u
  pub hand : u.hand ≡ None
  pub ended : u.state.position ≡ length u.program
  pub conforms : Conforms u.program (performed_by u)

-- slice number n
pub record IsNumbered (g : ConfigParts) (n : ℕ) (s : SliceParts) : Type 0 where
  pub number : s.number ≡ n
  pub config : s.config ≡ g
  pub replays : slice.Replays s

abbrev pub AllEnded : List (List Instruction) → ConfigParts → List UnitParts → Type 0
AllEnded programs g us = (c : ℕ) (u : UnitParts) → slice_get us c ≡ Some u → HasEnded programs g c u

abbrev pub AllNumbered : ConfigParts → List SliceParts → Type 0
AllNumbered g ss = (n : ℕ) (s : SliceParts) → slice_get ss n ≡ Some s → IsNumbered g n s

-- These are the units and slices of a whole run of the programs: each has a state that is the replay of its own list, each
-- program has ended, and the lists have one order.
pub record IsRun (programs : List (List Instruction)) (g : ConfigParts) (us : List UnitParts) (ss : List SliceParts) : Type 0 where
  pub cores : length us ≡ length programs
  pub count : length ss ≡ g.slices
  pub units : AllEnded programs g us
  pub slices : AllNumbered g ss
  pub agree : Agrees (transcripts us) (histories ss)
  pub merge : HasMerge (transcripts us) (histories ss)

-- a unit of this core and its program, whose log is a proper front of the program's operations: the log's PROGRAM fault is its length
pub record IsShort (programs : List (List Instruction)) (core : ℕ) (u : UnitParts) : Type 0 where
  pub is_core : u.core ≡ core
  pub program : slice_get programs core ≡ Some u.program
  pub replays : kept.Replays u
  pub reaches : Reaches u.program (performed_by u) u.state
  pub proper : program_fault u.program (performed_by u) ≡ Some (length u.log)

-- the core's unit is such a unit
pub record StoppedShort (programs : List (List Instruction)) (us : List UnitParts) (core : ℕ) : Type 0 where
  pub unit : UnitParts
  pub stands : slice_get us core ≡ Some unit
  pub short : IsShort programs core unit

-- the log of a unit of this core, whose transcript replays
pub record IsUnitLog (core : ℕ) (log : List Record) : Type 0 where
  pub unit : UnitParts
  pub is_core : unit.core ≡ core
  pub replays : kept.Replays unit
  pub log_is : log ≡ unit.log

-- the log that is kept of core c: that of the unit at its place if that unit is core c's, or else none
abbrev pub kept_log : List UnitParts → ℕ → List Record
kept_log us c = option_map_or (λ u. if u.core == c then u.log else []) (slice_get us c) []

-- ---- what a run of threads ends with

-- Core c may report this fault. No core reports 33, and it reports 30 or 31 only if its unit has stopped before the program's end.
pub record MayReport (programs : List (List Instruction)) (us : List UnitParts) (c : ℕ) (met_cause : Cause) : Type 0 where
  pub own : (fault : AuditFault) → met_cause ≡ cause.Audit fault → ⊥
  pub short : (met_cause ≡ cause.GaveUp) ⊎ (met_cause ≡ cause.Stopped) → StoppedShort programs us c

-- core c's thread met this fault, and the core may report it
pub record Reports (programs : List (List Instruction)) (us : List UnitParts) (faults : List (Option Cause)) (c : ℕ) (met_cause : Cause) : Type 0 where
  pub met : slice_get faults c ≡ Some (Some met_cause)
  pub may : MayReport programs us c met_cause

-- no core below c has a fault to report
abbrev pub NoneReportsBelow : List (List Instruction) → List UnitParts → List (Option Cause) → ℕ → Type 0
NoneReportsBelow programs us faults c = (d : ℕ) (found : Cause) → d < c → Reports programs us faults d found → ⊥

-- no core has one
abbrev pub NoneReports : List (List Instruction) → List UnitParts → List (Option Cause) → Type 0
NoneReports programs us faults = NoneReportsBelow programs us faults (length faults)

-- the least core that has one
pub record IsFirstReport (programs : List (List Instruction)) (us : List UnitParts) (faults : List (Option Cause)) (c : ℕ) (found : Cause) : Type 0 where
  pub reports : Reports programs us faults c found
  pub before : NoneReportsBelow programs us faults c

-- ---- 33

-- units and slices as a whole run of the programs leaves them, whatever their lists say of each other
pub record AreWhole (programs : List (List Instruction)) (g : ConfigParts) (us : List UnitParts) (ss : List SliceParts) : Type 0 where
  pub cores : length us ≡ length programs
  pub count : length ss ≡ g.slices
  pub units : AllEnded programs g us
  pub slices : AllNumbered g ss

-- Why they aren't those of a whole run. A difference of cores, programs, numbers, configurations, hands or ends has no place, so
-- core, slice and place are 0; if there is no such difference, it is the fault that the audit finds in their lists.
abbrev pub IsRunFault : List (List Instruction) → ConfigParts → List UnitParts → List SliceParts → AuditFault → Type 0
IsRunFault programs g us ss fault =
    ((AreWhole programs g us ss → ⊥) × (fault ≡ record { core = 0; slice = 0; place = 0 }))
    ⊎ (AreWhole programs g us ss × IsAuditFault (transcripts us) (histories ss) fault.core fault.slice fault.place)

-- core c's cause is 33, for this reason
abbrev pub RefusesRun : List (List Instruction) → ConfigParts → List UnitParts → List SliceParts → ℕ → Cause → Type 0
RefusesRun programs g us ss c (cause.Audit fault) = (c ≡ fault.core) × IsRunFault programs g us ss fault
RefusesRun programs g us ss c cause.GaveUp = ⊥
RefusesRun programs g us ss c cause.Stopped = ⊥
RefusesRun programs g us ss c cause.Spawn = ⊥
RefusesRun programs g us ss c (cause.Unit fault) = ⊥
RefusesRun programs g us ss c (cause.Slice fault) = ⊥
RefusesRun programs g us ss c cause.OutOfMemory = ⊥
