-- What is known of a folder.
use Rattle.std.specs.Prelude.{◌≡◌, ◌⊎◌, ◌∷◌, ◌++◌, [], ℕ, List, Bool, Option, Some, Result, Err, IfSome, IsTrue}
use Rattle.log_file.specs.Devices.{Failed}
use Rattle.log_file.specs.declared.device_fault.ReadFault.{ReadFault}
use Rattle.log_file.specs.declared.device_fault.ReadFault.TheVariants.{Read}

-- What the folder tells of each file: its bytes, or nothing. The names of the files that it may refuse to open, and of those that it has refused, in
-- their order. How many puts have failed: at most 18,446,744,073,709,551,615 are counted.
pub record Files : Type 0 where
  pub told : List ℕ → Option (List ℕ)
  pub may_refuse : List ℕ → Bool
  pub refused : List (List ℕ)
  pub failed : ℕ

-- the same, after it refused the file of this name
abbrev pub refusing : Files → List ℕ → Files
refusing files name = record { told = files.told; may_refuse = files.may_refuse; refused = files.refused ++ name ∷ []; failed = files.failed }

-- the file of this name is opened: number 28 comes only if the folder may refuse the file, and then it has; otherwise all is as it was
abbrev pub IsOpened : {S : Type 0} → List ℕ → Result S ReadFault → Files → Files → Type 0
IsOpened name (Err Read) old new = IsTrue (old.may_refuse name) × (new ≡ refusing old name)
IsOpened name result old new = new ≡ old

-- files are opened and read: one file may have been refused, and all else is as it was
abbrev pub IsOnlyRead : Files → Files → Type 0
IsOnlyRead old new = (new ≡ old) ⊎ ((name : List ℕ) × (new ≡ refusing old name))

-- the first file that was refused is that of this name
abbrev pub IsFirstRefused : Files → Files → List ℕ → Type 0
IsFirstRefused old new name = IsTrue (old.may_refuse name) × ((later : List (List ℕ)) × (new.refused ≡ old.refused ++ name ∷ later))

-- a source of the file of this name failed a read
abbrev pub HasFailedRead : {S : Type 0} → (S → Option (List ℕ)) → (S → ℕ) → Files → List ℕ → Type 0
HasFailedRead {S} remaining failed files name =
    (before : S) × (after : S) × IfSome (files.told name) (λ bytes. remaining before ≡ Some bytes) × Failed (failed before) (failed after)

-- the file of this name was refused, before any other, or a source of it failed a read
abbrev pub IsUnread : {S : Type 0} → (S → Option (List ℕ)) → (S → ℕ) → Files → Files → List ℕ → Type 0
IsUnread remaining failed old new name = IsFirstRefused old new name ⊎ HasFailedRead remaining failed old name

-- the folder tells what it told before of each name that isn't put
abbrev pub KeepsFiles : (List ℕ → Option (List ℕ)) → (List ℕ → Option (List ℕ)) → (List ℕ → Type 0) → Type 0
KeepsFiles told told' IsPut = (name : List ℕ) → ¬ (IsPut name) → told' name ≡ told name
