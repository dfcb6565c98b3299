-- Look-ups in maps of which one entry was put or removed.
use Rattle.std.proofs.Common.{◌≡◌, ◌≢◌, ℕ, true, false, refl, arith}
use Rattle.std.specs.Prelude.{Option, Some, None}
use Rattle.std.specs.Ordering.{nat_cmp, eq_by_cmp}
use Rattle.std.specs.FinMap as map
use Rattle.std.specs.FinMap.{FinMap, get-insert, get-remove}
use Rattle.std.specs.Cmp.{nat_cmp_total}
use Rattle.private_cache.specs.CacheParts.{Lines}
use Rattle.private_cache.specs.Table.{put}
use Rattle.private_cache.specs.declared.held.Held.{Held}

tie : (a b : ℕ) → a ≡ b → eq_by_cmp nat_cmp a b ≡ true
tie a b e = grind arith

no_tie : (a b : ℕ) → a ≢ b → eq_by_cmp nat_cmp a b ≡ false
no_tie a b n = grind arith

pub get-insert_same : {X : Type 0} (m : FinMap nat_cmp X) (k : ℕ) (v : X) → map.get (map.insert m k v) k ≡ Some v
get-insert_same m k v = rw (get-insert nat_cmp_total m k v k, tie k k refl) refl

pub get-insert_other : {X : Type 0} (m : FinMap nat_cmp X) (k q : ℕ) (v : X) → q ≢ k → map.get (map.insert m k v) q ≡ map.get m q
get-insert_other m k q v n = rw (get-insert nat_cmp_total m k v q, no_tie q k n) refl

pub get-remove_same : {X : Type 0} (m : FinMap nat_cmp X) (k : ℕ) → map.get (map.remove m k) k ≡ None
get-remove_same m k = rw (get-remove nat_cmp_total m k k, tie k k refl) refl

pub get-remove_other : {X : Type 0} (m : FinMap nat_cmp X) (k q : ℕ) → q ≢ k → map.get (map.remove m k) q ≡ map.get m q
get-remove_other m k q n = rw (get-remove nat_cmp_total m k q, no_tie q k n) refl

pub get-put_same : (m : Lines) (k : ℕ) (h : Option Held) → map.get (put m k h) k ≡ h
get-put_same m k None = get-remove_same m k
get-put_same m k (Some h) = get-insert_same m k h

pub get-put_other : (m : Lines) (k q : ℕ) (h : Option Held) → q ≢ k → map.get (put m k h) q ≡ map.get m q
get-put_other m k q None n = get-remove_other m k q n
get-put_other m k q (Some h) n = get-insert_other m k q h n
