-- The programs in a file.
use Rattle.std.specs.Prelude.{ℕ, List, Option}
use Rattle.core_program.specs.Answers.{SpellsSet}
use Rattle.core_program.specs.SetParts.{SetParts}
use Rattle.log_file.specs.Devices.{Tells}

-- this is the set of programs in the file of this name
abbrev pub AreProgramsIn : (List ℕ → Option (List ℕ)) → List ℕ → SetParts → Type 0
AreProgramsIn told name set = (text : List ℕ) × Tells (told name) text × SpellsSet text set
