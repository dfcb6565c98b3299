-- A file that is put if a name was given for it. The folder was `old` before and is `new` after.
use Rattle.std.specs.Prelude.{◌≡◌, ⊤, ℕ, List, Option, None, Some}
use Rattle.std.specs.Borrow.{Bor}
use Rattle.log_file.specs.Devices.{Failed, Tells}
use Rattle.host_files.specs.Files.{Files, KeepsFiles}

-- this is the name that was given for the file
abbrev pub IsNameOf : Option (Bor (List ℕ)) → List ℕ → Type 0
IsNameOf None name = ⊥
IsNameOf (Some given) name = name ≡ given.now

-- a file of these bytes was put under this name, and nothing else
pub record Puts (old new : Files) (name bytes : List ℕ) : Type 0 where
  pub told : Tells (new.told name) bytes
  pub others : KeepsFiles old.told new.told (λ other. other ≡ name)
  pub quiet : new.failed ≡ old.failed

-- the bytes were put if a name was given, and else nothing was
abbrev pub PutsAt : Files → Files → Option (Bor (List ℕ)) → List ℕ → Type 0
PutsAt old new None bytes = new ≡ old
PutsAt old new (Some name) bytes = Puts old new name.now bytes

-- the same with bytes of which this holds
abbrev pub PutsSuchAt : Files → Files → Option (Bor (List ℕ)) → (List ℕ → Type 0) → Type 0
PutsSuchAt old new None Holds = new ≡ old
PutsSuchAt old new (Some name) Holds = (bytes : List ℕ) × Holds bytes × Puts old new name.now bytes

-- the put under the name that was given failed, and nothing else changed
abbrev pub FailsPutAt : Files → Files → Option (Bor (List ℕ)) → Type 0
FailsPutAt old new None = ⊥
FailsPutAt old new (Some name) = Failed old.failed new.failed × KeepsFiles old.told new.told (λ other. other ≡ name.now)

-- the file of the name that was given, if one was, has bytes of which this holds
abbrev pub HoldsAt : (List ℕ → Option (List ℕ)) → Option (Bor (List ℕ)) → (List ℕ → Type 0) → Type 0
HoldsAt told None Holds = ⊤
HoldsAt told (Some name) Holds = (bytes : List ℕ) × Tells (told name.now) bytes × Holds bytes
