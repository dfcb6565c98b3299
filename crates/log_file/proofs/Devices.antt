-- Bytes that devices give and take, one piece after another.
use Rattle.std.proofs.Common.{ℕ, List, [], ◌++◌, Option, None, Some, arith, append_assoc, append-nil}
use Rattle.std.specs.Io.KnownBytes.{Consumes, IsAtEnd, Appends}
use Rattle.log_file.specs.Devices.{Tells}

-- ---- sources

-- the bytes that a source tells
abbrev pub told : Option (List ℕ) → List ℕ
told None = []
told (Some bytes) = bytes

pub tells_told : (o : Option (List ℕ)) → Tells o (told o)
tells_told o = grind arith

pub consumes_more : (old mid new : Option (List ℕ)) (a b : List ℕ) → Consumes old mid a → Consumes mid new b
    → Consumes old new (a ++ b)
consumes_more old mid new a b p q = grind (arith, append_assoc)

-- what a source tells where the last bytes that were read of it are to come yet
abbrev pub untold : List ℕ → Option (List ℕ) → Option (List ℕ)
untold last None = None
untold last (Some told) = Some (last ++ told)

pub consumes_told : (old new : Option (List ℕ)) (a : List ℕ) → Consumes old new a → Tells old (a ++ told new)
consumes_told old new a p = grind arith

pub consumes_end : (old new : Option (List ℕ)) (a : List ℕ) → Consumes old new a → IsAtEnd new → Tells old a
consumes_end old new a p end = grind (arith, append-nil)

-- ---- sinks

pub appends_more : (old mid new : Option (List ℕ)) (a b : List ℕ) → Appends old mid a → Appends mid new b
    → Appends old new (a ++ b)
appends_more old mid new a b p q = grind (arith, append_assoc)
