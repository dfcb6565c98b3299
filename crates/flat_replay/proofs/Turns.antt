-- Orders in which the ids of each core stand in turn, from index 0 on.
use Rattle.std.specs.Prelude.{◌≡◌, ℕ, zero, suc, ◌+◌, ◌<◌, ◌≤◌, Bool, true, false, ◌==◌, ◌&&◌, if◌then◌else◌, List, [], ◌∷◌, ◌++◌, refl, Option, Some, None, is_some, option_and_then, slice_get, slice_index, slice_set, unwrap_or, length, count_by, nat_le, nat_lt}
use Rattle.std.specs.List.{filter_map, cons_option, range_with_len}
use Rattle.std.proofs.Common.{sym, ◌∙◌, ap, subst, inl, inr, arith, get_or}
use Rattle.std.proofs.lemmas.Bool.{cases_order, eqb-true, eq-eqb, ne_eqb}
use Rattle.std.proofs.lemmas.Bool.Decides.{nat_tests}
use Rattle.std.proofs.lemmas.List.{append-nil, get_or-set_same, get_or-set_other, map-id}
use Rattle.std.proofs.lemmas.List.Elements.{filter_map-append}
use Rattle.std.proofs.lemmas.List.FromFn.{map-range_with_len_more}
use Rattle.std.proofs.lemmas.List.Sums.{sum_by-cons}
use Rattle.std.proofs.lemmas.Option.{cond_some, slice_get_cases, slice_get_within}
use Rattle.mem_op.specs.declared.id.OpId.{OpId}
use Rattle.mem_op.specs.Consistency.{Operation, is_same_id, operation_at, IsSerialOrder, KeepsProgramOrder}
use Rattle.line_stamps.specs.Ordered.{In, EachPair}
use Rattle.line_stamps.proofs.Ordered.{AllPairs-from_each, In-filter_map, filter_map-In, place_of}
use Rattle.line_stamps.proofs.Ids.{one_if, same_id, count_none}
use Rattle.flat_replay.specs.Accesses.{own_operations}

-- the indices of a core's ids
abbrev pub indices : ℕ → List OpId → List ℕ
indices core ids = filter_map (λ id. if id.core == core then Some id.index else None) ids

-- of each core so many ids, in turn
abbrev pub InTurn : (ℕ → ℕ) → List OpId → Type 0
InTurn number ids = (core : ℕ) → indices core ids ≡ range_with_len 0 (number core)

abbrev pub number_of : List (List Operation) → ℕ → ℕ
number_of cores core = length (own_operations cores core)

-- ids of one core in program order
abbrev InOrder : OpId → OpId → Type 0
InOrder a b = a.core ≡ b.core → a.index < b.index

program_order : (ids : List OpId) → KeepsProgramOrder ids → EachPair InOrder ids
program_order [] h = tt
program_order (id ∷ ids) h = (first, program_order ids (λ i j d p q. h (suc i) (suc j) d (omega arith) (omega arith)))
  where
    first : (x : OpId) → In x ids → InOrder id x
    first x p = let t = place_of x ids p in subst (InOrder id) (t.2 x) (h 0 (suc t.0) x (omega arith) (let below : t.0 < length ids = t.1 in omega arith))

-- ---- ranges

in_range : (from n j : ℕ) → In j (range_with_len from n) → (from ≤ j) × (j < from + n)
in_range from zero j p = absurd p
in_range from (suc n) j (inl e) = (omega arith, omega arith)
in_range from (suc n) j (inr p) = let l = in_range (from + 1) n j p in (omega arith, omega arith)

range-ascends : (from n : ℕ) → EachPair ◌<◌ (range_with_len from n)
range-ascends from zero = tt
range-ascends from (suc n) = (λ j p. (let l = in_range (from + 1) n j p in omega arith), range-ascends (from + 1) n)

-- ---- counts

abbrev count_of : ℕ → List ℕ → ℕ
count_of i js = count_by (λ j. i == j) js

count-cons : (i j : ℕ) (js : List ℕ) → count_of i (j ∷ js) ≡ one_if (i == j) + count_of i js
count-cons i j js = sum_by-cons (λ k. one_if (i == k)) j js

-- a range has each of its numbers once
count-range : (i from n : ℕ) → count_of i (range_with_len from n) ≡ one_if (nat_le from i && nat_lt i (from + n))
count-range i from zero = grind (arith, nat_tests)
count-range i from (suc n) =
    let later = count-range i (from + 1) n in
    let first = count-cons i from (range_with_len (from + 1) n) in
    grind (arith, nat_tests)

-- lists that ascend are one where they have each number as often
same_ascending : (js ks : List ℕ) → EachPair ◌<◌ js → EachPair ◌<◌ ks → ((i : ℕ) → count_of i js ≡ count_of i ks) → js ≡ ks
same_ascending [] [] up also same = refl
same_ascending [] (k ∷ ks) up also same = absurd (let s = same k in let one = count-cons k k ks in grind (arith, nat_tests))
same_ascending (j ∷ js) [] up also same = absurd (let s = same j in let one = count-cons j j js in grind (arith, nat_tests))
same_ascending (j ∷ js) (k ∷ ks) up also same = elim (cases_order j k) [
  | inl e ↦ (let rest : js ≡ ks = same_ascending js ks up.1 also.1 (λ i. (let s = same i in let a = count-cons i j js in let b = count-cons i k ks in grind arith)) in cc)
  | inr apart ↦ absurd (elim apart [ inl l ↦ lower j k js ks l also (same j) | inr l ↦ lower k j ks js l up (sym (same k)) ])
]
  where
    lower : (j k : ℕ) (js ks : List ℕ) → j < k → EachPair ◌<◌ (k ∷ ks) → count_of j (j ∷ js) ≡ count_of j (k ∷ ks) → ⊥
    lower j k js ks l up same =
        let one = count-cons j j js in
        let none = count_none (λ x. j == x) (k ∷ ks) (λ x p. ne_eqb j x (λ e. elim p [ inl q ↦ omega arith | inr q ↦ (let m = up.0 x q in omega arith) ])) in
        grind (arith, nat_tests)

-- ---- an id and its index

id_in : (core : ℕ) (ids : List OpId) (j : ℕ) → In j (indices core ids) → In (record { core = core; index = j }) ids
id_in core ids j p =
    let found = filter_map-In (λ (id : OpId). if id.core == core then Some id.index else None) ids j p in
    let is = cond_some (found.0.core == core) found.0.index j found.2 in
    subst (λ (id : OpId). In id ids) (same_id found.0 (record { core = core; index = j }) (eqb-true found.0.core core is.0) is.1) found.1

index_in : (id : OpId) (ids : List OpId) → In id ids → In id.index (indices id.core ids)
index_in id ids p =
    In-filter_map (λ (x : OpId). if x.core == id.core then Some x.index else None) ids id id.index p
    (ap (λ b. if b then Some id.index else None) (eq-eqb id.core id.core refl))

-- the index of an id in turn is below its core's number
pub index_below : (number : ℕ → ℕ) (ids : List OpId) (id : OpId) → InTurn number ids → In id ids → id.index < number id.core
index_below number ids id turn p =
    let l = in_range 0 (number id.core) id.index (subst (In id.index) (turn id.core) (index_in id ids p)) in
    omega arith

-- ---- program order

indices-ascend : (core : ℕ) (ids : List OpId) → EachPair InOrder ids → EachPair ◌<◌ (indices core ids)
indices-ascend core [] h = tt
indices-ascend core (id ∷ ids) h = go (id.core == core) refl (indices-ascend core ids h.1)
  where
    go : (b : Bool) → (id.core == core) ≡ b → EachPair ◌<◌ (indices core ids) → EachPair ◌<◌ (cons_option (if b then Some id.index else None) (indices core ids))
    go true here rest = (λ j p. h.0 (record { core = core; index = j }) (id_in core ids j p) (eqb-true id.core core here), rest)
    go false here rest = rest

in_order : (ids : List OpId) → ((core : ℕ) → EachPair ◌<◌ (indices core ids)) → EachPair InOrder ids
in_order [] up = tt
in_order (id ∷ ids) up = (first, in_order ids (λ core. later core (id.core == core) (up core)))
  where
    later : (core : ℕ) (b : Bool) → EachPair ◌<◌ (cons_option (if b then Some id.index else None) (indices core ids)) → EachPair ◌<◌ (indices core ids)
    later core true h = h.1
    later core false h = h

    first : (x : OpId) → In x ids → id.core ≡ x.core → id.index < x.index
    first x p same =
        let here = subst (λ b. EachPair ◌<◌ (cons_option (if b then Some id.index else None) (indices x.core ids))) (eq-eqb id.core x.core same) (up x.core) in
        here.0 x.index (index_in x ids p)

-- ---- serial orders that keep program order

pub at_core : (cores : List (List Operation)) (id : OpId) → operation_at cores id ≡ slice_get (own_operations cores id.core) id.index
at_core cores id = go (slice_get cores id.core)
  where
    go : (o : Option (List Operation)) → option_and_then (λ (ops : List Operation). slice_get ops id.index) o ≡ slice_get (unwrap_or o []) id.index
    go None = refl
    go (Some ops) = refl

is_there : (cores : List (List Operation)) (id : OpId) → is_some (operation_at cores id) ≡ nat_lt id.index (number_of cores id.core)
is_there cores id = grind (arith, nat_tests, at_core, slice_get_cases)

count-there : (cores : List (List Operation)) (id : OpId) → count_of id.index (range_with_len 0 (number_of cores id.core)) ≡ one_if (is_some (operation_at cores id))
count-there cores id =
    let there = is_there cores id in
    let all = count-range id.index 0 (number_of cores id.core) in
    grind (arith, nat_tests)

-- an id stands among ids as often as its index does among its core's
count-indices : (id : OpId) (ids : List OpId) → count_by (is_same_id id) ids ≡ count_of id.index (indices id.core ids)
count-indices id [] = refl
count-indices id (x ∷ ids) =
    let later = count-indices id ids in
    let all : count_by (is_same_id id) (x ∷ ids) ≡ one_if (is_same_id id x) + count_by (is_same_id id) ids = sum_by-cons (λ y. one_if (is_same_id id y)) x ids in
    let here : count_of id.index (x.index ∷ indices id.core ids) ≡ one_if (id.index == x.index) + count_of id.index (indices id.core ids) = count-cons id.index x.index (indices id.core ids) in
    grind (arith, nat_tests)

pub in_turn : (cores : List (List Operation)) (order : List OpId) → IsSerialOrder cores order → KeepsProgramOrder order → InTurn (number_of cores) order
in_turn cores order serial program core =
    same_ascending (indices core order) (range_with_len 0 (number_of cores core)) (indices-ascend core order (program_order order program)) (range-ascends 0 (number_of cores core)) (λ i.
    let id : OpId = record { core = core; index = i } in
    sym (count-indices id order) ∙ serial id ∙ sym (count-there cores id))

pub from_turn : (cores : List (List Operation)) (order : List OpId) → InTurn (number_of cores) order → IsSerialOrder cores order × KeepsProgramOrder order
from_turn cores order turn = (
  λ id. count-indices id order ∙ ap (count_of id.index) (turn id.core) ∙ count-there cores id,
  AllPairs-from_each InOrder order (in_order order (λ core. subst (EachPair ◌<◌) (sym (turn core)) (range-ascends 0 (number_of cores core)))),
)

-- ---- one id after another

-- of an id that stands in turn, the index is the number of those before it of its core
pub index_of : (number : ℕ → ℕ) (before rest : List OpId) (id : OpId) → InTurn number (before ++ id ∷ rest) → length (indices id.core before) ≡ id.index
index_of number before rest id all =
    let whole = all id.core in
    let e : indices id.core before ++ id.index ∷ indices id.core rest ≡ range_with_len 0 (number id.core) = grind (arith, nat_tests, filter_map-append) in
    let is = at_place 0 (number id.core) id.index (indices id.core before) (indices id.core rest) e in
    omega arith
  where
    at_place : (from m j : ℕ) (is js : List ℕ) → is ++ j ∷ js ≡ range_with_len from m → j ≡ from + length is
    at_place from (suc m) j [] js e = let first : j ≡ from = cc in omega arith
    at_place from (suc m) j (i ∷ is) js e =
        let later : is ++ j ∷ js ≡ range_with_len (from + 1) m = cc in
        let there = at_place (from + 1) m j is js later in
        omega arith
    at_place from zero j [] js e = absurd cc
    at_place from zero j (i ∷ is) js e = absurd cc

-- one more id in turn
pub in_turn-more : (next : List ℕ) (before : List OpId) (id : OpId) → InTurn (slice_index next) before → id.core < length next → id.index ≡ slice_index next id.core → InTurn (slice_index (slice_set next id.core (id.index + 1))) (before ++ id ∷ [])
in_turn-more next before id turn within is core =
    let so_far = turn core in
    let more = map-range_with_len_more (λ i. i) 0 id.index id.index (omega arith) in
    grind (arith, nat_tests, filter_map-append, append-nil, map-id, get_or-set_same, get_or-set_other)

-- the core of an operation that is there is below their number
pub within_cores : (cores : List (List Operation)) (id : OpId) (y : Operation) → Some y ≡ operation_at cores id → id.core < length cores
within_cores cores id y there = go (slice_get cores id.core) refl there
  where
    go : (o : Option (List Operation)) → slice_get cores id.core ≡ o → Some y ≡ option_and_then (λ (ops : List Operation). slice_get ops id.index) o → id.core < length cores
    go None is there = absurd cc
    go (Some ops) is there = slice_get_within cores id.core ops is
