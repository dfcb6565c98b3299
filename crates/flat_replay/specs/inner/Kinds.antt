-- Operations as parts of fixed sizes.
use Rattle.std.specs.Prelude.{◌≡◌, ℕ, refl}
use Rattle.mem_op.specs.Consistency.{Operation, Loaded, Stored, Swapped, word_answered, word_left}
use Rattle.flat_replay.specs.Accesses.{address_of}
use Rattle.flat_replay.specs.declared.access.Kind.{Kind}
use Rattle.flat_replay.specs.declared.access.Kind.TheVariants.{Load, Store, Swap}

abbrev pub access_by : Kind → ℕ → ℕ → ℕ → Operation
access_by Load addr read stored = Loaded addr read
access_by Store addr read stored = Stored addr stored
access_by Swap addr read stored = Swapped addr read stored

abbrev pub kind_of : Operation → Kind
kind_of (Loaded a v) = Load
kind_of (Stored a v) = Store
kind_of (Swapped a r v) = Swap

-- a load has the word that it read in both parts, and a store the word that it stored
pub record IsFlat (kind : Kind) (addr read stored : ℕ) : Type 0 where
  pub same_read : word_answered (access_by kind addr read stored) ≡ read
  pub same_stored : word_left (access_by kind addr read stored) ≡ stored

-- the kind and the address aren't lost
pub kind_of-access_by : (kind : Kind) (addr read stored : ℕ) → kind_of (access_by kind addr read stored) ≡ kind
kind_of-access_by Load addr read stored = refl
kind_of-access_by Store addr read stored = refl
kind_of-access_by Swap addr read stored = refl

pub address_of-access_by : (kind : Kind) (addr read stored : ℕ) → address_of (access_by kind addr read stored) ≡ addr
address_of-access_by Load addr read stored = refl
address_of-access_by Store addr read stored = refl
address_of-access_by Swap addr read stored = refl
