-- The logs in files, or why there are none. `told` gives what the folder tells of the file of each name.
use Rattle.std.specs.Prelude.{◌≡◌, ◌<◌, ⊤, ℕ, List, length, Option, Some, IfSome}
use Rattle.std.specs.Borrow.{Bor}
use Rattle.std.specs.List.{AllZip, HoldsAt}
use Rattle.log_file.specs.Devices.{Tells}
use Rattle.log_file.specs.Sets.{SpellSet}
use Rattle.log_record.specs.declared.record.Record.{Record}
use Rattle.verdict.specs.Counts.{IsInRange, IsOutOfRange}
use Rattle.verdict.specs.declared.judge_fault.Count.TheVariants.{Files as FileCount}
use Rattle.verdict.specs.declared.judge_fault.JudgeFault.{JudgeFault}
use Rattle.verdict.specs.declared.judge_fault.JudgeFault.TheVariants.{BadConfig, Read, OutOfMemory}
use Rattle.host_files.specs.Files.{Files, IsFirstRefused}

-- these are sources of the files of these names: each tells the bytes that the folder tells, if it tells any
abbrev pub AreSourcesOf : {S : Type 0} → (List ℕ → Option (List ℕ)) → (S → Option (List ℕ)) → List S → List (Bor (List ℕ)) → Type 0
AreSourcesOf told remaining sources names = AllZip (λ source name. IfSome (told name.now) (λ bytes. remaining source ≡ Some bytes)) sources names

-- these are the texts of the files; a file of which the folder tells nothing may have any text
abbrev pub AreTextsOf : (List ℕ → Option (List ℕ)) → List (Bor (List ℕ)) → List (List ℕ) → Type 0
AreTextsOf told names texts = AllZip (λ name text. Tells (told name.now) text) names texts

-- the texts of the files spell logs of which this holds
abbrev pub Spelled : (List ℕ → Option (List ℕ)) → List (Bor (List ℕ)) → (List (List Record) → Type 0) → Type 0
Spelled told names Holds =
    (texts : List (List ℕ)) × AreTextsOf told names texts × ((logs : List (List Record)) × SpellSet texts logs × Holds logs)

-- ---- why there are none

-- this is the number of one of the names, and its file can't be read
abbrev pub IsUnreadAt : (List ℕ → Type 0) → List (Bor (List ℕ)) → ℕ → Type 0
IsUnreadAt unread names file = (file < length names) × HoldsAt (λ name. unread name.now) names file

-- the files aren't 1 to 64, or this one was the first that the folder refused, or memory ran out
abbrev pub IsOpenFault : Files → Files → List (Bor (List ℕ)) → JudgeFault → Type 0
IsOpenFault old new names (BadConfig FileCount) = (new ≡ old) × IsOutOfRange (length names)
IsOpenFault old new names (Read file) = IsInRange (length names) × IsUnreadAt (IsFirstRefused old new) names file
IsOpenFault old new names OutOfMemory = ⊤
IsOpenFault old new names other = ⊥
