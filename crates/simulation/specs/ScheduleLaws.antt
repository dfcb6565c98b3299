-- Laws of the texts of schedules.
use Rattle.std.specs.Prelude.{◌≡◌, ◌≢◌, ℕ, List}
use Rattle.simulation.specs.declared.command.Command.{Command}
use Rattle.simulation.specs.declared.schedule_fault.ScheduleFault.{ScheduleFault}
use Rattle.simulation.specs.declared.schedule_fault.ScheduleFault.TheVariants.{OutOfMemory}
use Rattle.simulation.specs.Schedules.{Spells, IsFault}

-- the text of a schedule is that of no other, and it has no fault: reading it gives that schedule
pub record SpelledIsRead : Type 0 where
  pub one_schedule : (cores : ℕ) (bytes : List ℕ) (p q : List Command) → Spells cores bytes p → Spells cores bytes q → p ≡ q
  pub no_fault : (cores : ℕ) (bytes : List ℕ) (commands : List Command) (fault : ScheduleFault) → Spells cores bytes commands
      → IsFault cores bytes fault → fault ≡ OutOfMemory

-- bytes have one fault at most, lack of memory aside
abbrev pub AtMostOneFault : Type 0
AtMostOneFault =
    (cores : ℕ) (bytes : List ℕ) (f g : ScheduleFault) → IsFault cores bytes f → IsFault cores bytes g → f ≢ OutOfMemory → g ≢ OutOfMemory → f ≡ g
