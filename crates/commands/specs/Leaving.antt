-- What the judge says of the logs that a run leaves in the folder.
use Rattle.std.specs.Prelude.{◌≡◌, ℕ, List, length, Option, Some, Ok, slice_get}
use Rattle.core_program.specs.SetParts.{SetParts}
use Rattle.log_file.specs.Devices.{Tells}
use Rattle.verdict.specs.Judgement.{IsRunAnswerTo}
use Rattle.verdict.specs.declared.answer.Verdict.TheVariants.{Yes}
use Rattle.commands.specs.Logs.{log_name}
use Rattle.commands.specs.Programs.{AreProgramsIn}

-- text c is what the folder tells under the name of core c's log
abbrev pub AreLogTexts : (List ℕ → Option (List ℕ)) → List ℕ → List (List ℕ) → Type 0
AreLogTexts told out texts = (c : ℕ) (text : List ℕ) → slice_get texts c ≡ Some text → Tells (told (log_name out c)) text

-- The folder has a text under the name of a log for each program in the file of this name, and the judge answers Yes to these texts against these
-- programs. The folder told `told` before, and tells `told'` after.
abbrev pub LeavesYes : (List ℕ → Option (List ℕ)) → (List ℕ → Option (List ℕ)) → List ℕ → List ℕ → Type 0
LeavesYes told told' name out =
    (set : SetParts) × AreProgramsIn told name set × (texts : List (List ℕ)) × (length texts ≡ length set.programs)
    × AreLogTexts told' out texts × (count : ℕ) × IsRunAnswerTo set.programs texts (Ok (Yes count))
