-- The logs that the folder tells, all of one format. `made` gives the log of each core.
use Rattle.std.specs.Prelude.{◌≡◌, ◌≢◌, ◌⊎◌, ℕ, ◌+◌, ◌<◌, List, Option}
use Rattle.log_file.specs.Devices.{Failed, Tells}
use Rattle.log_file.specs.Log.{SpellsIn}
use Rattle.log_record.specs.declared.format.Format.{Format}
use Rattle.log_record.specs.declared.record.Record.{Record}
use Rattle.host_files.specs.Files.{Files}
pub use Rattle.command_line.specs.RunFiles.{log_name}

-- the folder tells the log of core c of `cores` under its name, spelled in this format
abbrev pub TellsLog : Format → (List ℕ → Option (List ℕ)) → List ℕ → ℕ → (ℕ → List Record) → ℕ → Type 0
TellsLog format told out cores made c = (text : List ℕ) × Tells (told (log_name out c)) text × SpellsIn format c cores text (made c)

-- the same for the logs of the first n cores
abbrev pub TellsFirst : Format → (List ℕ → Option (List ℕ)) → List ℕ → ℕ → (ℕ → List Record) → ℕ → Type 0
TellsFirst format told out cores made n = (c : ℕ) → c < n → TellsLog format told out cores made c

-- the folder tells what it told before of each name that none of the first n logs has
abbrev pub KeepsOthers : (List ℕ → Option (List ℕ)) → (List ℕ → Option (List ℕ)) → List ℕ → ℕ → Type 0
KeepsOthers told told' out n = (name : List ℕ) → ((c : ℕ) → c < n → name ≢ log_name out c) → told' name ≡ told name

-- the logs of the first n cores were put, and nothing else
pub record ArePutFirst (format : Format) (told told' : List ℕ → Option (List ℕ)) (out : List ℕ) (cores : ℕ) (made : ℕ → List Record) (n : ℕ) : Type 0 where
  pub logs : TellsFirst format told' out cores made n
  pub others : KeepsOthers told told' out n

-- the logs of all cores were put, and nothing else, and no put failed
abbrev pub ArePut : Format → Files → Files → List ℕ → ℕ → (ℕ → List Record) → Type 0
ArePut format old new out cores made = ArePutFirst format old.told new.told out cores made cores × (new.failed ≡ old.failed)

-- the put of core c's log failed: the logs before it were put, and nothing else changed but what may stand under its name
pub record ArePutUpTo (format : Format) (old new : Files) (out : List ℕ) (cores : ℕ) (made : ℕ → List Record) (c : ℕ) : Type 0 where
  pub core : c < cores
  pub logs : TellsFirst format new.told out cores made c
  pub others : KeepsOthers old.told new.told out (c + 1)
  pub failed : Failed old.failed new.failed

-- memory ran out before the put of core c's log: the logs before it were put, nothing else, and no put failed
pub record ArePutBefore (format : Format) (old new : Files) (out : List ℕ) (cores : ℕ) (made : ℕ → List Record) (c : ℕ) : Type 0 where
  pub core : c < cores
  pub put : ArePutFirst format old.told new.told out cores made c
  pub quiet : new.failed ≡ old.failed

-- the logs of all cores were put, or those before one whose put failed or for which memory ran out
abbrev pub ArePutAsFar : Format → Files → Files → List ℕ → ℕ → (ℕ → List Record) → Type 0
ArePutAsFar format old new out cores made =
    ArePut format old new out cores made
    ⊎ (((c : ℕ) × ArePutUpTo format old new out cores made c) ⊎ ((c : ℕ) × ArePutBefore format old new out cores made c))
