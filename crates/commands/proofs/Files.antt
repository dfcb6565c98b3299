-- Folders that were only read.
use Rattle.std.proofs.Common.{◌≡◌, ◌∙◌, ◌++◌, ◌∷◌, [], ℕ, List, ap, append_assoc, subst, inl, inr}
use Rattle.std.specs.Prelude.{Option, IsTrue}
use Rattle.host_files.specs.Files.{Files, IsFirstRefused, IsOnlyRead, KeepsFiles, refusing}

-- a file was refused, by a folder that was as it had been
pub first_refused : (old now new : Files) (name : List ℕ) → now ≡ old → IsTrue (now.may_refuse name) × (new ≡ refusing now name) → IsFirstRefused old new name
first_refused old now new name same (may, is) =
    subst (λ (files : Files). IsFirstRefused files new name) same (may, ([], ap (λ (files : Files). files.refused) is))

-- and it is the first still after another
pub still_first : (old middle new : Files) (name other : List ℕ) → IsFirstRefused old middle name → new ≡ refusing middle other → IsFirstRefused old new name
still_first old middle new name other (may, (later, more)) is = (
  may,
  (later ++ other ∷ [], ap (λ (files : Files). files.refused) is ∙ ap (λ (names : List (List ℕ)). names ++ other ∷ []) more ∙ append_assoc old.refused (name ∷ later) (other ∷ [])),
)

-- what the folder tells of its files stays
pub keeps_told : (old new : Files) → IsOnlyRead old new → new.told ≡ old.told
keeps_told old new (inl is) = ap (λ (files : Files). files.told) is
keeps_told old new (inr (name, is)) = ap (λ (files : Files). files.told) is

-- a folder that was only read after it was left as it was
pub only_read_after : (old now new : Files) → now ≡ old → IsOnlyRead now new → IsOnlyRead old new
only_read_after old now new is read = subst (λ (files : Files). IsOnlyRead files new) is read

-- whatever may be put
pub keeps_files : (old new : Files) (IsPut : List ℕ → Type 0) → IsOnlyRead old new → KeepsFiles old.told new.told IsPut
keeps_files old new IsPut read name none = ap (λ (told : List ℕ → Option (List ℕ)). told name) (keeps_told old new read)

-- and those that are put after it was only read
pub keeps_after : (old now new : Files) (IsPut : List ℕ → Type 0) → IsOnlyRead old now → KeepsFiles now.told new.told IsPut → KeepsFiles old.told new.told IsPut
keeps_after old now new IsPut read keeps = subst (λ (told : List ℕ → Option (List ℕ)). KeepsFiles told new.told IsPut) (keeps_told old now read) keeps
