-- What holds of the first of things that have places, one place after the other.
use Rattle.std.specs.Prelude.{◌≡◌, ℕ, ◌+◌, ◌<◌, ◌≤◌, List, Option, Some, None, length, slice_get}
use Rattle.std.specs.Global.{Vec}
use Rattle.std.proofs.Common.{rules, ap, arith, get_or}
use Rattle.std.proofs.lemmas.Bool.{cases_lt}
use Rattle.std.proofs.lemmas.Option.{none-some, same_Some, slice_get-map, slice_get-get_or, slice_get_within}
use Rattle.mem_op.specs.declared.id.OpId.{OpId}
use Rattle.mem_op.specs.Consistency.{Operation, operation_at}
use Rattle.flat_replay.specs.Accesses.{operation_lists}
use Rattle.trace.proofs.Growth.{length_lists}
use Rattle.refutation.proofs.Settled.{core-of}

module _ {A : Type 0} (P : ℕ → A → Type 0) (at : ℕ → Option A) where
  abbrev pub First : ℕ → Type 0
  First n = (k : ℕ) (x : A) → k < n → at k ≡ Some x → P k x

  pub first_more : {n : ℕ} (x : A) → at n ≡ Some x → First n → P n x → First (n + 1)
  first_more {n} x here first holds k y below there = search (rules, cases_lt, same_Some)

  -- nothing is there
  pub first-skip : {n : ℕ} → at n ≡ None → First n → First (n + 1)
  first-skip {n} none first k y below there = search (rules, cases_lt, none-some)

-- ---- the cores of a trace

-- the operations of a core
pub core_at : (cores : List (Vec Operation)) (n : ℕ) {trace : List (List Operation)} {core : Vec Operation} → operation_lists cores ≡ trace → core ≡ get_or cores n core
    → n < length cores → slice_get trace n ≡ Some core.items
core_at cores n {trace} {core} same is l = search (rules, slice_get-map, slice_get-get_or)

-- no core is after the last
pub cores-all : (cores : List (Vec Operation)) (n : ℕ) {trace : List (List Operation)} → operation_lists cores ≡ trace → length cores ≤ n → length trace ≤ n
cores-all cores n same l = let size = ap length same in omega (arith, size, length_lists cores)

-- what holds of each operation of the first cores, where these are all
pub all-cores : (P : OpId → Operation → Type 0) (cores : List (List Operation)) (n : ℕ) → length cores ≤ n
    → First (λ core ys. (index : ℕ) (y : Operation) → slice_get ys index ≡ Some y → P (record { core = core; index = index }) y) (slice_get cores) n
    → (id : OpId) (y : Operation) → operation_at cores id ≡ Some y → P id y
all-cores P cores n l first id y there =
    let own = core-of cores id y there in
    let within = slice_get_within cores id.core own.0 own.1 in
    first id.core own.0 (omega arith) own.1 id.index y own.2
