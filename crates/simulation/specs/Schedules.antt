-- What the bytes of a schedule say, for a number of cores.
use Rattle.std.specs.Prelude.{ℕ, List}
use Rattle.simulation.specs.declared.command.Command.{Command}
use Rattle.simulation.specs.declared.schedule_fault.ScheduleFault.{ScheduleFault}
use Rattle.simulation.specs.declared.schedule_fault.ScheduleFault.TheVariants.{BadScheduleLine, OutOfMemory}
use Rattle.simulation.specs.CommandTexts.{command_text, Fits}
use Rattle.text_lines.specs.Items.{SpellsItems, ItemInFront, NoItemInFront, IsFirstBad}

-- the bytes are the text of these commands
abbrev pub Spells : ℕ → List ℕ → List Command → Type 0
Spells cores bytes commands = SpellsItems command_text (Fits cores) bytes commands

-- the bytes begin with a command's line, and these come after it
abbrev pub CommandInFront : ℕ → Command → List ℕ → List ℕ → Type 0
CommandInFront cores command bytes rest = ItemInFront command_text (Fits cores) command bytes rest

-- the bytes don't begin with a command's line
abbrev pub NoCommandInFront : ℕ → List ℕ → Type 0
NoCommandInFront cores bytes = NoItemInFront command_text (Fits cores) bytes

-- Why bytes aren't a schedule: the first line that isn't a command's. Lack of memory may come instead of a schedule and of a bad line.
abbrev pub IsFault : ℕ → List ℕ → ScheduleFault → Type 0
IsFault cores bytes (BadScheduleLine k) = IsFirstBad command_text (Fits cores) bytes k
IsFault cores bytes OutOfMemory = Unit {0}
