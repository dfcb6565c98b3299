-- What an eviction leaves of the other lines in memory.
use Rattle.std.proofs.Common.{◌≡◌, ◌≢◌, ℕ, false, refl, arith}
use Rattle.std.specs.Ordering.{eq_by_cmp, nat_cmp}
use Rattle.std.specs.Cmp.{nat_cmp_total}
use Rattle.std.specs.FinMap as map
use Rattle.std.specs.FinMap.{FinMap, get-insert}
use Rattle.memory_stamp.specs.Memory.{word_at}
use Rattle.memory_stamp.specs.StoredParts.{StoredParts}

untied : (a v : ℕ) → a ≢ v → eq_by_cmp nat_cmp a v ≡ false
untied a v n = grind arith

-- the word of another address stays
pub word_at-insert : (words : FinMap nat_cmp StoredParts) (v a : ℕ) (w : StoredParts) → a ≢ v → word_at (map.insert words v w) a ≡ word_at words a
word_at-insert words v a w n = rw (get-insert nat_cmp_total words v w a, untied a v n) refl
