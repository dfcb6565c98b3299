-- Where the logs in a buffer end.
use Rattle.std.proofs.Common.{◌≡◌, ℕ, suc, ◌≤◌, List, [], ◌∷◌, length, refl, ap, arith}
use Rattle.tardis_c.specs.Parts.{AreEndsFrom, parts_from}

-- no log begins past the buffer's end
pub ends_within : (from many : ℕ) (ends : List ℕ) → AreEndsFrom from many ends → from ≤ many
ends_within from many [] h = omega (arith, h)
ends_within from many (end ∷ ends) h = omega (arith, h.0, ends_within end many ends h.1)

pub parts_many : {X : Type 0} → (from : ℕ) (buffer : List X) (ends : List ℕ) → length (parts_from from buffer ends) ≡ length ends
parts_many from buffer [] = refl
parts_many from buffer (end ∷ ends) = ap (λ n. suc n) (parts_many end buffer ends)
