-- The table of a run: a line for each event, in their order, that begins with the event's number and the command of a schedule that makes it.
use Rattle.std.specs.Prelude.{◌≡◌, ℕ, ◌+◌, List, [], ◌∷◌, ◌++◌, length}
use Rattle.csv.specs.Writing.{default_writer, row_text}
use Rattle.decimal_text.specs.Numbers.{numeral}
use Rattle.core_machine.specs.Parts.{CoreParts}
use Rattle.core_machine.specs.declared.event.Event.{Event}
use Rattle.core_machine.specs.declared.event.Event.TheVariants as event
use Rattle.tardis_core.specs.Keeping.{LeadTo}
use Rattle.simulation.specs.CommandTexts.{command_text}
use Rattle.simulation.specs.declared.command.Command.{Command}
use Rattle.simulation.specs.declared.command.Command.TheVariants as command

-- the command that makes the event; a recall comes to the owner that it names
abbrev pub command_of : Event → Command
command_of (event.Turn c) = command.Turn c
command_of (event.Serve c) = command.Serve c
command_of (event.Take c) = command.Take c
command_of (event.Recall c x) = command.Recall x
command_of (event.Evict c a) = command.Evict c a
command_of (event.Spill a) = command.Spill a
command_of (event.Increment c) = command.Bump c

-- the cells begin with this number and the event's command; what came of it stands in the others
abbrev pub AreCellsOf : ℕ → Event → List (List ℕ) → Type 0
AreCellsOf number e cells = (told : List (List ℕ)) × (cells ≡ numeral number ∷ command_text (command_of e) ∷ told)

-- the lines of these events, numbered from 1
pub data AreLines : List Event → List ℕ → Type 0 where
  no_line : AreLines [] []
  one_more : (events : List Event) (lines : List ℕ) (e : Event) (cells : List (List ℕ)) → AreLines events lines → AreCellsOf (length events + 1) e cells →
      AreLines (events ++ e ∷ []) (lines ++ row_text default_writer cells)

-- the table of all events that lead from the start of the machine's programs to the machine, under a first line with the names of its columns
pub record IsTable (p : CoreParts) (bytes : List ℕ) : Type 0 where
  pub events : List Event
  pub lead : LeadTo events p
  pub names : List (List ℕ)
  pub lines : List ℕ
  pub are : AreLines events lines
  pub text : bytes ≡ row_text default_writer names ++ lines
