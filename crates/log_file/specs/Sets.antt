-- A set of logs, one text a core: its logs, or its first fault.
use Rattle.std.specs.Prelude.{◌≡◌, ℕ, ◌+◌, ◌<◌, List, [], ◌∷◌, length, map, Option, Some, Result, Ok, Err, slice_get, slice_index_or}
use Rattle.std.specs.List.{AllZip}
use Rattle.log_record.specs.declared.record.Record.{Record}
use Rattle.log_file.specs.declared.fault.FormatFault.{FormatFault}
use Rattle.log_file.specs.declared.fault.LogFault.{LogFault}
use Rattle.log_file.specs.declared.fault.LogFault.TheVariants.{At, OutOfMemory, Read}
use Rattle.log_file.specs.declared.fault.SetFault.{SetFault}
use Rattle.log_file.specs.Devices.{Failed, Tells}
use Rattle.log_file.specs.Log.{Spells, IsFirstFault}

-- the texts spell the logs of cores core, core + 1, .. of `cores`
abbrev pub SpellFrom : ℕ → ℕ → List (List ℕ) → List (List Record) → Type 0
SpellFrom core cores [] [] = Unit {0}
SpellFrom core cores [] (log ∷ logs) = ⊥
SpellFrom core cores (text ∷ texts) [] = ⊥
SpellFrom core cores (text ∷ texts) (log ∷ logs) = Spells core cores text log × SpellFrom (core + 1) cores texts logs

-- text k spells log k, the log of core k
abbrev pub SpellSet : List (List ℕ) → List (List Record) → Type 0
SpellSet texts logs = SpellFrom 0 (length texts) texts logs

abbrev pub text_at : List (List ℕ) → ℕ → List ℕ
text_at texts k = slice_index_or texts k []

-- the texts before this one spell their logs
abbrev pub SpellBefore : List (List ℕ) → ℕ → Type 0
SpellBefore texts file = (k : ℕ) → k < file → (log : List Record) × Spells k (length texts) (text_at texts k) log

-- the first fault of the first file that has one
pub record IsFirstOfSet (texts : List (List ℕ)) (file line : ℕ) (f : FormatFault) : Type 0 where
  pub there : file < length texts
  pub before : SpellBefore texts file
  pub first : IsFirstFault file (length texts) (text_at texts file) line f

-- the first fault of the set; lack of memory or a failed read may come instead, at a file with only faultless texts before it
abbrev pub IsSetFault : List (List ℕ) → ℕ → LogFault → Type 0
IsSetFault texts file (At line f) = IsFirstOfSet texts file line f
IsSetFault texts file OutOfMemory = (file < length texts) × SpellBefore texts file
IsSetFault texts file Read = (file < length texts) × SpellBefore texts file

-- the logs that the texts spell, or the first fault of the set
abbrev pub IsSetAnswer : List (List ℕ) → Result (List (List Record)) SetFault → Type 0
IsSetAnswer texts (Ok logs) = SpellSet texts logs
IsSetAnswer texts (Err e) = IsSetFault texts e.file e.fault

-- ---- the readers

-- the texts are those that the readers tell
abbrev pub TellEach : {S : Type 0} → (S → Option (List ℕ)) → List S → List (List ℕ) → Type 0
TellEach remaining readers texts = AllZip (λ s text. Tells (remaining s) text) readers texts

-- the reader of this file failed
abbrev pub ReaderFailed : {S : Type 0} → (S → ℕ) → List S → List S → ℕ → Type 0
ReaderFailed {S} failed old new file =
    (before : S) × ((after : S)
    × (slice_get old file ≡ Some before) × (slice_get new file ≡ Some after) × Failed (failed before) (failed after))

-- no reader failed: each counts as many failures as before
abbrev pub NoneFailed : {S : Type 0} → (S → ℕ) → List S → List S → Type 0
NoneFailed failed old new = map failed new ≡ map failed old

-- the answer is a failed read
abbrev pub IsReadFault : {T : Type 0} → Result T SetFault → Type 0
IsReadFault (Ok set) = ⊥
IsReadFault (Err e) = e.fault ≡ Read
