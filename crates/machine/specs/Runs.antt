-- The events of a run of threads, and the slices that are left if a run is cut short.
use Rattle.std.specs.Prelude.{◌≡◌, ◌⊎◌, ℕ, All, List, [], length, map, None}
use Rattle.lease_rule.specs.ConfigParts.{ConfigParts}
use Rattle.core_program.specs.declared.instruction.Instruction.{Instruction}
use Rattle.manager_slice.specs.Parts.{SliceParts}
use Rattle.manager_slice.specs.Replay.{Replays}
use Rattle.core_unit.specs.Parts.{UnitParts, core_of}
use Rattle.core_machine.specs.Machine.{opening}
use Rattle.audit.specs.Events.{IsRunOf, world_of}
use Rattle.audit.specs.Lists.{transcripts, histories}
use Rattle.audit.specs.Merges.{Move, IsMerge}
use Rattle.audit.specs.declared.machine_fault.Cause.{Cause}
use Rattle.audit.specs.declared.machine_fault.Cause.TheVariants.{OutOfMemory}

-- One order of all entries of these units and slices, and events of the core machine that are read off it: they lead from the
-- start of the programs to the states of just these units and slices.
pub record IsMachineRun (programs : List (List Instruction)) (g : ConfigParts) (us : List UnitParts) (ss : List SliceParts) : Type 0 where
  pub order : List Move
  pub merges : IsMerge (transcripts us) (histories ss) order
  pub run : IsRunOf g (opening programs g.slices) order (world_of (map (λ u. core_of u None) us) ss)

-- n slices, each with a state that is the replay of its history
pub record AreSlices (n : ℕ) (ss : List SliceParts) : Type 0 where
  pub count : length ss ≡ n
  pub replays : All Replays ss

-- memory was refused outside the cores' runs, and no unit and no slice is left
pub record IsNothingLeft (cause : Cause) (us : List UnitParts) (ss : List SliceParts) : Type 0 where
  pub refused : cause ≡ OutOfMemory
  pub units : us ≡ []
  pub slices : ss ≡ []

-- what is left if this cause cuts a run short: all n slices, or nothing if memory was refused outside the cores' runs
abbrev pub AreSlicesLeft : ℕ → Cause → List UnitParts → List SliceParts → Type 0
AreSlicesLeft n cause us ss = AreSlices n ss ⊎ IsNothingLeft cause us ss
