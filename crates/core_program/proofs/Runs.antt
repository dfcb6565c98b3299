-- Runs are paths between states at rest: what the functions compute is what the relation allows.
use Rattle.std.specs.Prelude.{◌≡◌, ◌+◌, ◌≤◌, Bool, true, false, ◌==◌, if◌then◌else◌, List, [], ◌∷◌, ◌++◌, length, Some, None, IsSome, option_and_then, slice_get, refl}
use Rattle.std.proofs.Common.{◌∙◌, ap, subst, arith, length-append}
use Rattle.std.proofs.lemmas.Bool.{eq-eqb, ne_eqb}
use Rattle.mem_op.specs.Consistency.{Operation, Loaded, Stored, Swapped, word_answered}
use Rattle.core_program.specs.declared.instruction.Instruction.{Instruction}
use Rattle.core_program.specs.declared.instruction.Instruction.TheVariants.{Load, Store, StoreRegister, Add, SkipIfZero, Swap}
use Rattle.core_program.specs.State.{State, start, reg, further}
use Rattle.core_program.specs.Shape.{IsProgram}
use Rattle.core_program.specs.Meaning.{Path, stays, loads, stores, stores_register, swaps, adds, skips, goes_on}
use Rattle.core_program.specs.Running.{op_of, is_issued, issued, after, next_op, IsAtRest, at_rest, answered, run_from, start_of, state_after}
use Rattle.core_program.specs.Conforming.{Reaches}
use Rattle.core_program.proofs.Rests.{at_rest-moves, at_rest-waits, at_rest-stays, at_rest-rests, leads_inside}
use Rattle.core_program.proofs.Paths.{path-join, at_rest-path, answered-is, answered-path, answered-rests, issued_op, op_issued}

-- ---- runs

pub run_from-append : (p : List Instruction) (s : State) (xs ys : List Operation) → run_from p s (xs ++ ys) ≡ option_and_then (λ t. run_from p t ys) (run_from p s xs)
run_from-append p s [] ys = refl
run_from-append p s (x ∷ xs) ys = go (is_issued (next_op p s) x) (run_from-append p (answered p (word_answered x) s) xs ys)
  where
    go : (b : Bool) → run_from p (answered p (word_answered x) s) (xs ++ ys) ≡ option_and_then (λ t. run_from p t ys) (run_from p (answered p (word_answered x) s) xs) →
        (if b then run_from p (answered p (word_answered x) s) (xs ++ ys) else None) ≡ option_and_then (λ t. run_from p t ys) (if b then run_from p (answered p (word_answered x) s) xs else None)
    go true behind = behind
    go false behind = refl

-- a run of the operation that is next
pub run_from-next : (p : List Instruction) (s : State) (x : Operation) (xs : List Operation) → next_op p s ≡ Some (op_of x) → run_from p s (x ∷ xs) ≡ run_from p (answered p (word_answered x) s) xs
run_from-next p s x xs e =
    let is : is_issued (next_op p s) x ≡ true = ap (λ o. is_issued o x) e ∙ op_issued x in
    ap (λ b. if b then run_from p (answered p (word_answered x) s) xs else None) is

-- a run, and then the operation that is next
pub run_from-snoc : (p : List Instruction) (s t : State) (xs : List Operation) (x : Operation) → run_from p s xs ≡ Some t → next_op p t ≡ Some (op_of x) → run_from p s (xs ++ x ∷ []) ≡ Some (answered p (word_answered x) t)
run_from-snoc p s t xs x run next = run_from-append p s xs (x ∷ []) ∙ ap (option_and_then (λ u. run_from p u (x ∷ []))) run ∙ run_from-next p t x [] next

-- ---- runs are paths

pub run-path : (p : List Instruction) (s t : State) (xs : List Operation) → run_from p s xs ≡ Some t → Path p s xs t
run-path p s t [] h = let same : s ≡ t = cc in subst (λ u. Path p s [] u) same stays
run-path p s t (x ∷ xs) h = go (is_issued (next_op p s) x) refl h (run-path p (answered p (word_answered x) s) t xs)
  where
    go : (b : Bool) → is_issued (next_op p s) x ≡ b → (if b then run_from p (answered p (word_answered x) s) xs else None) ≡ Some t →
        (run_from p (answered p (word_answered x) s) xs ≡ Some t → Path p (answered p (word_answered x) s) xs t) → Path p s (x ∷ xs) t
    go true is h behind = path-join p s (answered p (word_answered x) s) t (x ∷ []) xs (answered-path p s s [] x stays (issued_op (next_op p s) x is)) (behind h)
    go false is h behind = cc

pub run-rests : (p : List Instruction) (s t : State) (xs : List Operation) → IsProgram p → IsAtRest p s → run_from p s xs ≡ Some t → IsAtRest p t
run-rests p s t [] program rests h = let same : s ≡ t = cc in subst (IsAtRest p) same rests
run-rests p s t (x ∷ xs) program rests h =
    go (is_issued (next_op p s) x) refl h
    (λ some. run-rests p (answered p (word_answered x) s) t xs program (answered-rests p s (word_answered x) program some))
  where
    go : (b : Bool) → is_issued (next_op p s) x ≡ b → (if b then run_from p (answered p (word_answered x) s) xs else None) ≡ Some t →
        (IsSome (next_op p s) → run_from p (answered p (word_answered x) s) xs ≡ Some t → IsAtRest p t) → IsAtRest p t
    go true is h behind = behind (let next = issued_op (next_op p s) x is in cc) h
    go false is h behind = cc

-- ---- paths are runs

-- along an operation
performs : (p : List Instruction) (s t : State) (done : List Operation) (i : Instruction) (x : Operation) →
    run_from p (at_rest p s) done ≡ Some (at_rest p t) → slice_get p t.position ≡ Some i → issued i t ≡ Some (op_of x) → run_from p (at_rest p s) (done ++ x ∷ []) ≡ Some (at_rest p (after i (word_answered x) t))
performs p s t done i x run e issues =
    let next : next_op p t ≡ Some (op_of x) = ap (option_and_then (λ j. issued j t)) e ∙ issues in
    let here : at_rest p t ≡ t = at_rest-waits p t (cc) in
    run_from-snoc p (at_rest p s) t done x (run ∙ ap (λ u. Some u) here) next
    ∙ ap (λ u. Some u) (answered-is p t (word_answered x) i e)

-- along an instruction that touches no memory
moves : (p : List Instruction) (s t : State) (done : List Operation) (i : Instruction) →
    run_from p (at_rest p s) done ≡ Some (at_rest p t) → slice_get p t.position ≡ Some i → issued i t ≡ None → run_from p (at_rest p s) done ≡ Some (at_rest p (after i 0 t))
moves p s t done i run e silent = run ∙ ap (λ u. Some u) (at_rest-moves p t i e silent)

-- a path leads where the run leads that starts where the core comes to rest
pub path-run : (p : List Instruction) (s t : State) (xs : List Operation) → Path p s xs t → run_from p (at_rest p s) xs ≡ Some (at_rest p t)
path-run p s t xs stays = refl
path-run p s t xs (loads done v to addr value h e) = performs p s v done (Load to addr) (Loaded addr value) (path-run p s v done h) e refl
path-run p s t xs (stores done v addr value h e) = performs p s v done (Store addr value) (Stored addr value) (path-run p s v done h) e refl
path-run p s t xs (stores_register done v addr from h e) = performs p s v done (StoreRegister addr from) (Stored addr (reg v from)) (path-run p s v done h) e refl
path-run p s t xs (swaps done v to addr value read h e) = performs p s v done (Swap to addr value) (Swapped addr read value) (path-run p s v done h) e refl
path-run p s t xs (adds done v to from value h e) = moves p s v done (Add to from value) (path-run p s v done h) e refl
path-run p s t xs (skips done v tested skip h e is_zero) =
    let lead : after (SkipIfZero tested skip) 0 v ≡ further (1 + skip) v = ap (λ b. further (if b then 1 + skip else 1) v) (eq-eqb (reg v tested) 0 is_zero) in
    moves p s v done (SkipIfZero tested skip) (path-run p s v done h) e refl ∙ ap (λ u. Some (at_rest p u)) lead
path-run p s t xs (goes_on done v tested skip h e other) =
    let lead : after (SkipIfZero tested skip) 0 v ≡ further 1 v = ap (λ b. further (if b then 1 + skip else 1) v) (ne_eqb (reg v tested) 0 other) in
    moves p s v done (SkipIfZero tested skip) (path-run p s v done h) e refl ∙ ap (λ u. Some (at_rest p u)) lead

-- between states at rest
pub rests-run : (p : List Instruction) (s t : State) (xs : List Operation) → IsAtRest p s → IsAtRest p t → Path p s xs t → run_from p s xs ≡ Some t
rests-run p s t xs from to h =
    subst (λ u. run_from p u xs ≡ Some t) (at_rest-stays p s from) (path-run p s t xs h ∙ ap (λ u. Some u) (at_rest-stays p t to))

-- ---- from the start

pub state_after-reached : (p : List Instruction) (xs : List Operation) (t : State) → Reaches p xs t → IsAtRest p t → state_after p xs ≡ Some t
state_after-reached p xs t h rests = path-run p start t xs h ∙ ap (λ u. Some u) (at_rest-stays p t rests)

pub state_after-reaches : (p : List Instruction) (xs : List Operation) (t : State) → state_after p xs ≡ Some t → Reaches p xs t
state_after-reaches p xs t h = path-join p start (start_of p) t [] xs (at_rest-path p start start [] stays) (run-path p (start_of p) t xs h)

pub start_of-rests : (p : List Instruction) → IsProgram p → IsAtRest p (start_of p)
start_of-rests p program = at_rest-rests p start program (omega arith)

pub state_after-rests : (p : List Instruction) (xs : List Operation) (t : State) → IsProgram p → state_after p xs ≡ Some t → IsAtRest p t
state_after-rests p xs t program h = run-rests p (start_of p) t xs program (start_of-rests p program) h

-- the state after one more operation
pub state_after-snoc : (p : List Instruction) (xs : List Operation) (x : Operation) (t : State) → state_after p xs ≡ Some t → next_op p t ≡ Some (op_of x) → state_after p (xs ++ x ∷ []) ≡ Some (answered p (word_answered x) t)
state_after-snoc p xs x t h next = run_from-snoc p (start_of p) t xs x h next

-- ---- how many operations

snoc_length : (xs : List Operation) (x : Operation) → length (xs ++ x ∷ []) ≡ length xs + 1
snoc_length xs x = omega (arith, length-append xs (x ∷ []))

-- each operation takes the core at least one further
pub path-length : (p : List Instruction) (s t : State) (xs : List Operation) → Path p s xs t → s.position + length xs ≤ t.position
path-length p s t xs stays = omega arith
path-length p s t xs (loads done v to addr value h e) = omega (arith, path-length p s v done h, snoc_length done (Loaded addr value))
path-length p s t xs (stores done v addr value h e) = omega (arith, path-length p s v done h, snoc_length done (Stored addr value))
path-length p s t xs (stores_register done v addr from h e) = omega (arith, path-length p s v done h, snoc_length done (Stored addr (reg v from)))
path-length p s t xs (swaps done v to addr value read h e) = omega (arith, path-length p s v done h, snoc_length done (Swapped addr read value))
path-length p s t xs (adds done v to from value h e) = omega (arith, path-length p s v done h)
path-length p s t xs (skips done v tested skip h e is_zero) = omega (arith, path-length p s v done h)
path-length p s t xs (goes_on done v tested skip h e other) = omega (arith, path-length p s v done h)

-- and no path of a program leads past its end
pub path-within : (p : List Instruction) (s t : State) (xs : List Operation) → IsProgram p → s.position ≤ length p → Path p s xs t → t.position ≤ length p
path-within p s t xs program within stays = within
path-within p s t xs program within (loads done v to addr value h e) = leads_inside p (Load to addr) value v program e
path-within p s t xs program within (stores done v addr value h e) = leads_inside p (Store addr value) 0 v program e
path-within p s t xs program within (stores_register done v addr from h e) = leads_inside p (StoreRegister addr from) 0 v program e
path-within p s t xs program within (swaps done v to addr value read h e) = leads_inside p (Swap to addr value) read v program e
path-within p s t xs program within (adds done v to from value h e) = leads_inside p (Add to from value) 0 v program e
path-within p s t xs program within (skips done v tested skip h e is_zero) =
    let lead : (reg v tested == 0) ≡ true = eq-eqb (reg v tested) 0 is_zero in
    subst (λ b. v.position + (if b then 1 + skip else 1) ≤ length p) lead (leads_inside p (SkipIfZero tested skip) 0 v program e)
path-within p s t xs program within (goes_on done v tested skip h e other) =
    let lead : (reg v tested == 0) ≡ false = ne_eqb (reg v tested) 0 other in
    subst (λ b. v.position + (if b then 1 + skip else 1) ≤ length p) lead (leads_inside p (SkipIfZero tested skip) 0 v program e)

-- so a program issues at most as many operations as it has instructions
pub reached-length : (p : List Instruction) (xs : List Operation) (t : State) → IsProgram p → Reaches p xs t → length xs ≤ length p
reached-length p xs t program h = omega (arith, path-length p start t xs h, path-within p start t xs program (omega arith) h)
