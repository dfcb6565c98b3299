-- What a run of programs in threads leaves at a fault.
use Rattle.std.specs.Prelude.{◌≡◌, ◌⊎◌, ℕ, List, [], length}
use Rattle.command_line.specs.declared.request.Run.{Run}
use Rattle.core_program.specs.declared.instruction.Instruction.{Instruction}
use Rattle.manager_slice.specs.Parts.{SliceParts}
use Rattle.core_unit.specs.Parts.{UnitParts}
use Rattle.audit.specs.Runs.{IsUnitLog, StoppedShort, kept_log}
use Rattle.audit.specs.declared.machine_fault.Cause.TheVariants.{GaveUp, Stopped}
use Rattle.machine.specs.Runs.{AreSlicesLeft}
use Rattle.audit.specs.declared.threads_fault.ThreadsFault.{ThreadsFault}
use Rattle.host_files.specs.Files.{Files}
use Rattle.commands.specs.Numbers.{AreLeftAsFar, numbers_of}
use Rattle.commands.specs.Programmed.{Programmed, log_format}

-- What a run of n slices left when it stopped with this fault. Each log is that of a unit of its core whose transcript replays, or is empty. All n
-- slices are left, with histories that replay, or neither slices nor units if memory was refused. If the fault is number 30 or 31, its core has
-- stopped before the end of its program.
pub record AreLeftShort (programs : List (List Instruction)) (n : ℕ) (fault : ThreadsFault) (us : List UnitParts) (ss : List SliceParts) : Type 0 where
  pub logs : (c : ℕ) → IsUnitLog c (kept_log us c) ⊎ (kept_log us c ≡ [])
  pub slices : AreSlicesLeft n fault.cause us ss
  pub short : ((fault.cause ≡ GaveUp) ⊎ (fault.cause ≡ Stopped)) → StoppedShort programs us fault.core

-- the folder has the logs, and then the numbers, of what the run left at this fault, as far as they could be written
abbrev pub LeavesRun : Files → Files → Run → ThreadsFault → Type 0
LeavesRun old new asked fault =
    Programmed old.told asked.limits asked.programs.now (λ set. (us : List UnitParts) × (ss : List SliceParts)
    × AreLeftShort set.programs asked.limits.slices fault us ss
    × AreLeftAsFar (log_format set.format) old new asked.out.now (length set.programs) (kept_log us) asked.statistics (numbers_of (length set.programs) asked.limits.slices us ss))
