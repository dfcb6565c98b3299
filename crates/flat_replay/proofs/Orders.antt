-- Ids that come one after the other, by what a replay keeps; and that those of a sequential order do.
use Rattle.std.proofs.Common.{◌≡◌, ◌∙◌, ◌+◌, ap, sym, subst, refl, ℕ, List, [], ◌∷◌, ◌++◌, None, Some, arith, inl, inr, length, take, get_or, vec_len}
use Rattle.std.specs.Prelude.{◌==◌, ◌↔◌, count_by, drop, map, slice_get, slice_index}
use Rattle.std.specs.Global.{Vec}
use Rattle.std.proofs.lemmas.Bool.{cases_lt}
use Rattle.std.proofs.lemmas.Bool.Decides.{nat_tests}
use Rattle.std.proofs.lemmas.List.{drop_more, take-append-drop, take_all}
use Rattle.std.proofs.lemmas.List.FromFn.{length-range_with_len}
use Rattle.std.proofs.lemmas.List.Sums.{sum_by-cons}
use Rattle.std.proofs.lemmas.Option.{get_or_from_slice_get, none-some, slice_get-get_or, slice_get_within}
use Rattle.mem_op.specs.declared.id.OpId.{OpId}
use Rattle.mem_op.specs.Consistency.{Operation, Stored, GivesFlatAnswers, IsSequentialOrder, last_value, operation_at}
use Rattle.line_stamps.proofs.Ids.{one_if}
use Rattle.line_stamps.proofs.Ordered.{In-append_right}
use Rattle.flat_replay.specs.Accesses.{operation_lists, own_operations}
use Rattle.flat_replay.specs.Memory.{IsAnsweredBy}
use Rattle.flat_replay.specs.Orders.{ComeInOrder, ComesNext, IsFirstWrongPlace}
use Rattle.flat_replay.proofs.Flat.{answered, flat_at_middle}
use Rattle.flat_replay.proofs.Replaying.{Replayed, done, done-append, replayed-all}
use Rattle.flat_replay.proofs.Turns.{InTurn, at_core, in_turn, index_below, index_of, indices, number_of}

-- ---- in turn

abbrev own_count : ℕ → List OpId → ℕ
own_count core ids = count_by (λ (other : OpId). other.core == core) ids

count_is : (core : ℕ) (ids : List OpId) → own_count core ids ≡ length (indices core ids)
count_is core [] = refl
count_is core (id ∷ ids) =
    let later = count_is core ids in
    let all : own_count core (id ∷ ids) ≡ one_if (id.core == core) + own_count core ids = sum_by-cons (λ (x : OpId). one_if (x.core == core)) id ids in
    grind (arith, nat_tests)

-- as many ids of a core as were replayed
turn_is : (next : ℕ → ℕ) (core : ℕ) (ids : List OpId) → InTurn next ids → own_count core ids ≡ next core
turn_is next core ids turn = count_is core ids ∙ ap length (turn core) ∙ length-range_with_len 0 (next core)

-- ---- the next id

pub comes_next : (cores : List (List Operation)) (ids : List OpId) (next : List ℕ) (memory : ℕ → ℕ) (id : OpId) (y : Operation) → Replayed cores ids next memory
    → Some y ≡ operation_at cores id → id.index ≡ slice_index next id.core → IsAnsweredBy memory y → ComesNext cores ids id
comes_next cores ids next memory id y h there turn answers = record {
  operation = y;
  there = sym there;
  in_turn = turn_is (slice_index next) id.core ids h.turn ∙ sym turn;
  answered = answered y memory (λ addr. last_value addr (done cores ids)) h.words answers;
}

pub next_index : (cores : List (List Operation)) (ids : List OpId) (next : List ℕ) (memory : ℕ → ℕ) (id : OpId) → Replayed cores ids next memory
    → ComesNext cores ids id → id.index ≡ slice_index next id.core
next_index cores ids next memory id h comes = sym comes.in_turn ∙ turn_is (slice_index next) id.core ids h.turn

pub next_answered : (cores : List (List Operation)) (ids : List OpId) (next : List ℕ) (memory : ℕ → ℕ) (id : OpId) (y : Operation) → Replayed cores ids next memory
    → Some y ≡ operation_at cores id → ComesNext cores ids id → IsAnsweredBy memory y
next_answered cores ids next memory id y h there comes =
    let same : comes.operation ≡ y = (let both : Some comes.operation ≡ Some y = sym comes.there ∙ sym there in cc) in
    subst (IsAnsweredBy memory) same (answered comes.operation (λ addr. last_value addr (done cores ids)) memory (λ addr. sym (h.words addr)) comes.answered)

pub next_there : (cores : List (List Operation)) (ids : List OpId) (id : OpId) → None ≡ operation_at cores id → ComesNext cores ids id → ⊥
next_there cores ids id none comes = none-some comes.operation (none ∙ comes.there)

-- ---- one more

pub come_more : (cores : List (List Operation)) (ids : List OpId) (k : ℕ) → ComeInOrder cores ids k
    → ((id : OpId) → slice_get ids k ≡ Some id → ComesNext cores (take k ids) id) → ComeInOrder cores ids (k + 1)
come_more cores ids k so_far here j id below at =
    elim (cases_lt j k) [
      | inl earlier ↦ so_far j id earlier at
      | inr above ↦
          let same : k ≡ j = omega arith in
          subst (λ (i : ℕ). ComesNext cores (take i ids) id) same (here id (ap (slice_get ids) same ∙ at))
    ]

-- ---- the end

-- all ids were replayed: they are a sequential order exactly where all operations of each core were
pub ended : (cores : List (List Operation)) (ids : List OpId) (place : ℕ) (next : List ℕ) (memory : ℕ → ℕ) → place ≡ length ids → Replayed cores (take place ids) next memory
    → length next ≡ length cores → (next ≡ map length cores) ↔ IsSequentialOrder cores ids
ended cores ids place next memory end replayed many =
    replayed-all cores ids next memory (subst (λ (done : List OpId). Replayed cores done next memory) (take_all place ids (omega (arith, end))) replayed) many

-- ---- sequential orders

-- each id of a sequential order can come next after those before it
comes : (cores : List (List Operation)) (before rest : List OpId) (id : OpId) → IsSequentialOrder cores (before ++ id ∷ rest) → ComesNext cores before id
comes cores before rest id s =
    let turn = in_turn cores (before ++ id ∷ rest) s.serial s.program in
    let below = index_below (number_of cores) (before ++ id ∷ rest) id turn (In-append_right id before (id ∷ rest) (inl refl)) in
    let y = get_or (own_operations cores id.core) id.index (Stored 0 0) in
    let there : operation_at cores id ≡ Some y = at_core cores id ∙ slice_get-get_or (own_operations cores id.core) id.index (Stored 0 0) below in
    record {
      operation = y;
      there = there;
      in_turn = count_is id.core before ∙ index_of (number_of cores) before rest id turn;
      answered = flat_at_middle (done cores before) y (done cores rest) (subst GivesFlatAnswers (done-append cores before id rest y (sym there)) s.flat);
    }

-- so it goes wrong nowhere
pub goes_wrong : (cores : List (List Operation)) (ids : List OpId) (place : ℕ) → IsFirstWrongPlace cores ids place → ¬ (IsSequentialOrder cores ids)
goes_wrong cores ids place (inl w) s =
    let below = slice_get_within ids place w.id w.there in
    let split : ids ≡ take place ids ++ w.id ∷ drop (place + 1) ids =
    sym (take-append-drop place ids)
    ∙ ap (λ rest. take place ids ++ rest) (drop_more ids place w.id below ∙ ap (λ x. x ∷ drop (place + 1) ids) (get_or_from_slice_get ids place w.id w.id w.there)) in
    w.wrong (comes cores (take place ids) (drop (place + 1) ids) w.id (subst (IsSequentialOrder cores) split s))
goes_wrong cores ids place (inr w) s = w.2 s

-- ---- lengths

pub lengths_are : (cores : List (Vec Operation)) → map vec_len cores ≡ map length (operation_lists cores)
lengths_are [] = refl
lengths_are (core ∷ cores) = ap (λ n. n ∷ map vec_len cores) core.ok.0 ∙ ap (λ rest. length core.items ∷ rest) (lengths_are cores)
