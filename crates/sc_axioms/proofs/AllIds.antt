-- The ids of all operations of a trace, each once.
use Rattle.std.specs.Prelude.{◌≡◌, ◌≢◌, ℕ, zero, suc, ◌+◌, List, [], ◌∷◌, ◌++◌, Option, Some, slice_get, option_and_then}
use Rattle.std.proofs.Common.{sym, ap, subst, refl, inl, inr, arith}
use Rattle.mem_op.specs.declared.id.OpId.{OpId}
use Rattle.mem_op.specs.Consistency.{Operation, operation_at}
use Rattle.line_stamps.specs.Ordered.{In, EachPair}
use Rattle.line_stamps.proofs.Ids.{same_id}
use Rattle.line_stamps.proofs.Ordered.{In-append, In-append_left, In-append_right}

-- a core's, from an index on
abbrev own_ids : ℕ → ℕ → List Operation → List OpId
own_ids c i [] = []
own_ids c i (y ∷ ys) = record { core = c; index = i } ∷ own_ids c (suc i) ys

abbrev ids_from : ℕ → List (List Operation) → List OpId
ids_from c [] = []
ids_from c (ys ∷ cores) = own_ids c 0 ys ++ ids_from (suc c) cores

abbrev pub all_ids : List (List Operation) → List OpId
all_ids cores = ids_from 0 cores

abbrev at_index : ℕ → Option (List Operation) → Option Operation
at_index i o = option_and_then (λ (ys : List Operation). slice_get ys i) o

-- ---- only operations' ids

own-there : (id : OpId) (c i : ℕ) (ys : List Operation) → In id (own_ids c i ys) → (k : ℕ) × (y : Operation) × (id.core ≡ c) × (id.index ≡ i + k) × (slice_get ys k ≡ Some y)
own-there id c i [] h = absurd h
own-there id c i (y ∷ ys) (inl e) = (0, y, sym (ap (λ (x : OpId). x.core) e), (let same : i ≡ id.index = ap (λ (x : OpId). x.index) e in omega arith), refl)
own-there id c i (y ∷ ys) (inr h) = let t = own-there id c (suc i) ys h in (suc t.0, t.1, t.2, (let is : id.index ≡ suc i + t.0 = t.3 in omega arith), t.4)

ids-there : (id : OpId) (c : ℕ) (cores : List (List Operation)) → In id (ids_from c cores) → (k : ℕ) × (y : Operation) × (id.core ≡ c + k) × (at_index id.index (slice_get cores k) ≡ Some y)
ids-there id c [] h = absurd h
ids-there id c (ys ∷ cores) h = elim (In-append id (own_ids c 0 ys) (ids_from (suc c) cores) h) [
  | inl p ↦ (let t = own-there id c 0 ys p in (0, t.1, (let is : id.core ≡ c = t.2 in omega arith), subst (λ j. slice_get ys j ≡ Some t.1) (let is : id.index ≡ 0 + t.0 = t.3 in omega arith) t.4))
  | inr p ↦ (let t = ids-there id (suc c) cores p in (suc t.0, t.1, (let is : id.core ≡ suc c + t.0 = t.2 in omega arith), t.3))
]

pub all-there : (cores : List (List Operation)) (id : OpId) → In id (all_ids cores) → (y : Operation) × (operation_at cores id ≡ Some y)
all-there cores id h = let t = ids-there id 0 cores h in (t.1, subst (λ k. at_index id.index (slice_get cores k) ≡ Some t.1) (let is : id.core ≡ 0 + t.0 = t.2 in omega arith) t.3)

-- ---- each of them

own-has : (id : OpId) (y : Operation) (c i k : ℕ) (ys : List Operation) → id.core ≡ c → id.index ≡ i + k → slice_get ys k ≡ Some y → In id (own_ids c i ys)
own-has id y c i k [] p q h = cc
own-has id y c i zero (x ∷ ys) p q h = inl (same_id (record { core = c; index = i }) id (sym p) (omega arith))
own-has id y c i (suc k) (x ∷ ys) p q h = inr (own-has id y c (suc i) k ys p (omega arith) h)

ids-have : (id : OpId) (y : Operation) (c k : ℕ) (cores : List (List Operation)) → id.core ≡ c + k → at_index id.index (slice_get cores k) ≡ Some y → In id (ids_from c cores)
ids-have id y c k [] p h = cc
ids-have id y c zero (ys ∷ cores) p h = In-append_left id (own_ids c 0 ys) (ids_from (suc c) cores) (own-has id y c 0 id.index ys (omega arith) (omega arith) h)
ids-have id y c (suc k) (ys ∷ cores) p h = In-append_right id (own_ids c 0 ys) (ids_from (suc c) cores) (ids-have id y (suc c) k cores (omega arith) h)

pub there-all : (cores : List (List Operation)) (id : OpId) (y : Operation) → operation_at cores id ≡ Some y → In id (all_ids cores)
there-all cores id y there = ids-have id y 0 id.core cores (omega arith) there

-- ---- none twice

own-apart : (c i : ℕ) (ys : List Operation) → EachPair ◌≢◌ (own_ids c i ys)
own-apart c i [] = tt
own-apart c i (y ∷ ys) = (
  λ id p e. (let t = own-there id c (suc i) ys p in let same : i ≡ id.index = ap (λ (x : OpId). x.index) e in let is : id.index ≡ suc i + t.0 = t.3 in omega arith),
  own-apart c (suc i) ys,
)

append-apart : (xs ys : List OpId) → ((x y : OpId) → In x xs → In y ys → x ≢ y) → EachPair ◌≢◌ xs → EachPair ◌≢◌ ys → EachPair ◌≢◌ (xs ++ ys)
append-apart [] ys cross p q = q
append-apart (x ∷ xs) ys cross p q = (
  λ y h. elim (In-append y xs ys h) [ inl own ↦ p.0 y own | inr other ↦ cross x y (inl refl) other ],
  append-apart xs ys (λ a b s t. cross a b (inr s) t) p.1 q,
)

ids-apart : (c : ℕ) (cores : List (List Operation)) → EachPair ◌≢◌ (ids_from c cores)
ids-apart c [] = tt
ids-apart c (ys ∷ cores) = append-apart (own_ids c 0 ys) (ids_from (suc c) cores) cross (own-apart c 0 ys) (ids-apart (suc c) cores)
  where
    cross : (a b : OpId) → In a (own_ids c 0 ys) → In b (ids_from (suc c) cores) → a ≢ b
    cross a b p q e =
        let same : a.core ≡ b.core = ap (λ (x : OpId). x.core) e in
        let here : a.core ≡ c = (own-there a c 0 ys p).2 in
        let t = ids-there b (suc c) cores q in
        let there : b.core ≡ suc c + t.0 = t.2 in
        omega arith

pub all-apart : (cores : List (List Operation)) → EachPair ◌≢◌ (all_ids cores)
all-apart cores = ids-apart 0 cores
