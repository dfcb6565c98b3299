-- Steps whose ids are counted are in a sequential order exactly where they have their flat answers.
use Rattle.std.specs.Prelude.{◌≡◌, ℕ, zero, suc, ◌+◌, Bool, true, false, ◌==◌, if◌then◌else◌, List, [], ◌∷◌, ◌++◌, refl, Some, None, length, count_by, fold, slice_get}
use Rattle.std.specs.List.{filter_map, cons_option, range_with_len}
use Rattle.std.proofs.Common.{sym, ◌∙◌, ap, subst, arith, append_assoc, append-nil}
use Rattle.std.proofs.lemmas.Bool.{eqb-true, eq-eqb}
use Rattle.std.proofs.lemmas.Bool.Decides.{nat_tests}
use Rattle.std.proofs.lemmas.List.{map-append}
use Rattle.std.proofs.lemmas.List.Elements.{filter_map-append}
use Rattle.std.proofs.lemmas.List.Sums.{sum_by-cons, sum_by_push}
use Rattle.mem_op.specs.Consistency.{Operation, operation_at, GivesFlatAnswers}
use Rattle.trace.specs.Growing.{with_operation}
use Rattle.flat_replay.specs.Accesses.{own_operations}
use Rattle.flat_replay.proofs.Flat.{IsAnsweredBehind, flat_push, flat_at_middle}
use Rattle.flat_replay.proofs.Turns.{indices, at_core, from_turn}
use Rattle.trace_replay.specs.Steps.{Step, is_of_core, next_step, AreCountedAfter, operations, order_of, with_step, cores_of, AreInOrder}

-- ---- the operations of each core

abbrev own_of : ℕ → List Step → List Operation
own_of core steps = filter_map (λ (step : Step). if is_of_core core step then Some step.operation else None) steps

-- the operations of a core after one more of another, or of its own
own_with : (core k : ℕ) (operation : Operation) (cores : List (List Operation))
    → own_operations (with_operation core operation cores) k ≡ own_operations cores k ++ (if core == k then operation ∷ [] else [])
own_with zero zero operation [] = refl
own_with zero (suc k) operation [] = grind (arith, nat_tests)
own_with (suc core) zero operation [] = grind (arith, nat_tests)
own_with (suc core) (suc k) operation [] = let later = own_with core k operation [] in grind (arith, nat_tests)
own_with zero zero operation (own ∷ others) = refl
own_with zero (suc k) operation (own ∷ others) = grind (arith, nat_tests, append-nil)
own_with (suc core) zero operation (own ∷ others) = grind (arith, nat_tests, append-nil)
own_with (suc core) (suc k) operation (own ∷ others) = let later = own_with core k operation others in grind (arith, nat_tests)

own_fold : (k : ℕ) (cores : List (List Operation)) (steps : List Step)
    → own_operations (fold with_step cores steps) k ≡ own_operations cores k ++ own_of k steps
own_fold k cores [] = sym (append-nil (own_operations cores k))
own_fold k cores (step ∷ steps) =
    own_fold k (with_step cores step) steps
    ∙ ap (λ own. own ++ own_of k steps) (own_with step.id.core k step.operation cores)
    ∙ go (step.id.core == k)
  where
    go : (b : Bool) → (own_operations cores k ++ (if b then step.operation ∷ [] else [])) ++ own_of k steps
        ≡ own_operations cores k ++ cons_option (if b then Some step.operation else None) (own_of k steps)
    go true = append_assoc (own_operations cores k) (step.operation ∷ []) (own_of k steps)
    go false = ap (λ own. own ++ own_of k steps) (append-nil (own_operations cores k))

own_is : (steps : List Step) (k : ℕ) → own_operations (cores_of steps) k ≡ own_of k steps
own_is steps k = own_fold k [] steps

-- how many steps a core has, with one step before or after others
count_cons : (core : ℕ) (step : Step) (steps : List Step) (b : Bool) → is_of_core core step ≡ b
    → count_by (is_of_core core) (step ∷ steps) ≡ (if b then 1 else 0) + count_by (is_of_core core) steps
count_cons core step steps b is =
    sum_by-cons (λ (s : Step). if is_of_core core s then 1 else 0) step steps ∙ ap (λ t. (if t then 1 else 0) + count_by (is_of_core core) steps) is

pub count_push : (core : ℕ) (steps : List Step) (step : Step) (b : Bool) → is_of_core core step ≡ b
    → count_by (is_of_core core) (steps ++ step ∷ []) ≡ count_by (is_of_core core) steps + (if b then 1 else 0)
count_push core steps step b is =
    sum_by_push (λ (s : Step). if is_of_core core s then 1 else 0) steps step ∙ ap (λ t. count_by (is_of_core core) steps + (if t then 1 else 0)) is

number-own : (core : ℕ) (steps : List Step) → length (own_of core steps) ≡ count_by (is_of_core core) steps
number-own core [] = refl
number-own core (step ∷ steps) = go (is_of_core core step) refl (number-own core steps)
  where
    go : (b : Bool) → is_of_core core step ≡ b → length (own_of core steps) ≡ count_by (is_of_core core) steps
        → length (cons_option (if b then Some step.operation else None) (own_of core steps)) ≡ count_by (is_of_core core) (step ∷ steps)
    go true is later = omega (arith, later, count_cons core step steps true is)
    go false is later = omega (arith, later, count_cons core step steps false is)

-- ---- ids in turn

in_turn_after : (core : ℕ) (before later : List Step) → AreCountedAfter before later
    → indices core (order_of later) ≡ range_with_len (count_by (is_of_core core) before) (count_by (is_of_core core) later)
in_turn_after core before [] are = refl
in_turn_after core before (step ∷ later) are =
    go (is_of_core core step) refl (in_turn_after core (before ++ step ∷ []) later are.1)
  where
    go : (b : Bool) → is_of_core core step ≡ b
        → indices core (order_of later) ≡ range_with_len (count_by (is_of_core core) (before ++ step ∷ [])) (count_by (is_of_core core) later)
        → cons_option (if b then Some step.id.index else None) (indices core (order_of later))
        ≡ range_with_len (count_by (is_of_core core) before) (count_by (is_of_core core) (step ∷ later))
    go true is rest =
        ap (λ js. step.id.index ∷ js) rest
        ∙ ap (λ i. i ∷ range_with_len (count_by (is_of_core core) (before ++ step ∷ [])) (count_by (is_of_core core) later))
        (are.0 ∙ ap (λ c. count_by (is_of_core c) before) (eqb-true step.id.core core is))
        ∙ ap (λ from. count_by (is_of_core core) before ∷ range_with_len from (count_by (is_of_core core) later)) (count_push core before step true is)
        ∙ ap (range_with_len (count_by (is_of_core core) before)) (let all = count_cons core step later true is in let n : suc (count_by (is_of_core core) later) ≡ count_by (is_of_core core) (step ∷ later) = omega arith in n)
    go false is rest =
        rest
        ∙ ap (λ from. range_with_len from (count_by (is_of_core core) later)) (let more = count_push core before step false is in let n : count_by (is_of_core core) (before ++ step ∷ []) ≡ count_by (is_of_core core) before = omega arith in n)
        ∙ ap (range_with_len (count_by (is_of_core core) before)) (let all = count_cons core step later false is in let n : count_by (is_of_core core) later ≡ count_by (is_of_core core) (step ∷ later) = omega arith in n)

-- ---- each id is that of its operation

at_ids : (cores : List (List Operation)) (before later : List Step) → AreCountedAfter before later
    → ((core : ℕ) → own_operations cores core ≡ own_of core (before ++ later))
    → filter_map (operation_at cores) (order_of later) ≡ operations later
at_ids cores before [] are own = refl
at_ids cores before (step ∷ later) are own =
    ap (λ here. cons_option here (filter_map (operation_at cores) (order_of later))) here
    ∙ ap (λ rest. step.operation ∷ rest) (at_ids cores (before ++ step ∷ []) later are.1 (λ core. own core ∙ ap (own_of core) (sym (append_assoc before (step ∷ []) later))))
  where
    get_behind : (xs : List Operation) (y : Operation) (ys : List Operation) → slice_get (xs ++ y ∷ ys) (length xs) ≡ Some y
    get_behind [] y ys = refl
    get_behind (x ∷ xs) y ys = get_behind xs y ys

    own_here : own_of step.id.core (before ++ step ∷ later) ≡ own_of step.id.core before ++ step.operation ∷ own_of step.id.core later
    own_here =
        filter_map-append (λ (s : Step). if is_of_core step.id.core s then Some s.operation else None) before (step ∷ later)
        ∙ ap (λ b. own_of step.id.core before ++ cons_option (if b then Some step.operation else None) (own_of step.id.core later)) (eq-eqb step.id.core step.id.core refl)

    here : operation_at cores step.id ≡ Some step.operation
    here =
        at_core cores step.id
        ∙ ap (λ (operations : List Operation). slice_get operations step.id.index) (own step.id.core ∙ own_here)
        ∙ ap (slice_get (own_of step.id.core before ++ step.operation ∷ own_of step.id.core later)) (are.0 ∙ sym (number-own step.id.core before))
        ∙ get_behind (own_of step.id.core before) step.operation (own_of step.id.core later)

-- ---- sequential orders

pub in_order : (steps : List Step) → AreCountedAfter [] steps → GivesFlatAnswers (operations steps) → AreInOrder steps
in_order steps are flat =
    let turn = from_turn (cores_of steps) (order_of steps) (λ core.
    in_turn_after core [] steps are ∙ ap (range_with_len 0) (sym (number-own core steps) ∙ ap length (sym (own_is steps core)))) in
    record {
      serial = turn.0;
      program = turn.1;
      flat = subst GivesFlatAnswers (sym (at_ids (cores_of steps) [] steps are (own_is steps))) flat;
    }

pub flat_of : (steps : List Step) → AreCountedAfter [] steps → AreInOrder steps → GivesFlatAnswers (operations steps)
flat_of steps are order = subst GivesFlatAnswers (at_ids (cores_of steps) [] steps are (own_is steps)) order.flat

-- ---- one step more

pub counted_push : (before steps : List Step) (core : ℕ) (operation : Operation) → AreCountedAfter before steps
    → AreCountedAfter before (steps ++ next_step (before ++ steps) core operation ∷ [])
counted_push before [] core operation are = (ap (λ (bs : List Step). count_by (is_of_core core) bs) (append-nil before), tt)
counted_push before (step ∷ steps) core operation are = (
  are.0,
  subst (λ (bs : List Step). AreCountedAfter (before ++ step ∷ []) (steps ++ next_step bs core operation ∷ []))
      (append_assoc before (step ∷ []) steps) (counted_push (before ++ step ∷ []) steps core operation are.1),
)

operations-push : (steps : List Step) (step : Step) → operations (steps ++ step ∷ []) ≡ operations steps ++ step.operation ∷ []
operations-push steps step = map-append (λ (s : Step). s.operation) steps (step ∷ [])

pub order_push : (steps : List Step) (core : ℕ) (operation : Operation) → AreCountedAfter [] steps → AreInOrder steps
    → IsAnsweredBehind (operations steps) operation → AreInOrder (steps ++ next_step steps core operation ∷ [])
order_push steps core operation are order answered =
    in_order (steps ++ next_step steps core operation ∷ []) (counted_push [] steps core operation are)
    (subst GivesFlatAnswers (sym (operations-push steps (next_step steps core operation))) (flat_push (operations steps) operation (flat_of steps are order) answered))

pub answered_last : (steps : List Step) (core : ℕ) (operation : Operation) → AreCountedAfter [] steps
    → AreInOrder (steps ++ next_step steps core operation ∷ []) → IsAnsweredBehind (operations steps) operation
answered_last steps core operation are order =
    flat_at_middle (operations steps) operation []
    (subst GivesFlatAnswers (operations-push steps (next_step steps core operation))
    (flat_of (steps ++ next_step steps core operation ∷ []) (counted_push [] steps core operation are) order))
