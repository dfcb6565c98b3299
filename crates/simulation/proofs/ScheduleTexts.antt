-- The text of a schedule is that of no other, and has one fault at most.
use Rattle.std.proofs.Common.{◌≡◌, ℕ, List, refl, ap}
use Rattle.simulation.specs.declared.command.Command.{Command}
use Rattle.simulation.specs.declared.schedule_fault.ScheduleFault.{ScheduleFault}
use Rattle.simulation.specs.declared.schedule_fault.ScheduleFault.TheVariants.{BadScheduleLine, OutOfMemory}
use Rattle.simulation.specs.Schedules.{Spells, IsFault}
use Rattle.simulation.specs.CommandTexts.{command_text, Fits}
use Rattle.simulation.specs.ScheduleLaws.{AtMostOneFault, SpelledIsRead}
use Rattle.simulation.specs.inner.CommandReading.{command_of}
use Rattle.simulation.proofs.CommandTexts.{command_takes, command_again, command_no_lf}
use Rattle.text_lines.proofs.Items.{AreLines, IsReading, are_lines, bad_once, none_bad, spelled_once}

pub reading : (cores : ℕ) → IsReading command_text (Fits cores) (command_of cores)
reading cores = record { takes = command_takes cores; again = command_again cores; no_lf = command_no_lf }

lines : (cores : ℕ) → AreLines command_text (Fits cores)
lines cores = are_lines (reading cores)

no_fault : (cores : ℕ) (bytes : List ℕ) (commands : List Command) (fault : ScheduleFault) → Spells cores bytes commands → IsFault cores bytes fault
    → fault ≡ OutOfMemory
no_fault cores bytes commands (BadScheduleLine k) spells bad = absurd (none_bad (lines cores) bytes commands k spells bad)
no_fault cores bytes commands OutOfMemory spells bad = refl

pub spelled : SpelledIsRead
spelled = record { one_schedule = λ cores. spelled_once (lines cores); no_fault = no_fault }

pub at_most_one : AtMostOneFault
at_most_one cores bytes (BadScheduleLine j) (BadScheduleLine k) a b f g = ap (λ (n : ℕ). BadScheduleLine n) (bad_once (lines cores) bytes j k a b)
at_most_one cores bytes OutOfMemory other a b f g = absurd (f refl)
at_most_one cores bytes (BadScheduleLine j) OutOfMemory a b f g = absurd (g refl)
