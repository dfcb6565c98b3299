-- Paths and runs are one: what the relation allows is what the functions compute.
use Rattle.std.specs.Prelude.{◌≡◌, ℕ, zero, suc, ◌+◌, Bool, true, false, ◌==◌, if◌then◌else◌, List, [], ◌∷◌, ◌++◌, length, Option, Some, None, IsSome, IfSome, is_some, option_and_then, slice_get, refl}
use Rattle.std.specs.Option.{option_map_or}
use Rattle.std.proofs.Common.{sym, ◌∙◌, ap, subst, append_assoc, append-nil}
use Rattle.std.proofs.lemmas.Bool.{and_parts, and_from, eqb-true, eqb-false, eq-eqb}
use Rattle.mem_op.specs.declared.id.Op.{Op}
use Rattle.mem_op.specs.declared.id.Op.TheVariants as op
use Rattle.mem_op.specs.Consistency.{Operation, Loaded, Stored, Swapped, word_answered}
use Rattle.core_program.specs.declared.instruction.Instruction.{Instruction}
use Rattle.core_program.specs.declared.instruction.Instruction.TheVariants.{Load, Store, StoreRegister, Add, SkipIfZero, Swap}
use Rattle.core_program.specs.State.{State, reg, with_reg, further}
use Rattle.core_program.specs.Shape.{IsProgram}
use Rattle.core_program.specs.Meaning.{Path, stays, loads, stores, stores_register, swaps, adds, skips, goes_on}
use Rattle.core_program.specs.Running.{op_of, performed, is_issued, issued, after, next_op, IsAtRest, rest_within, at_rest, answered}
use Rattle.core_program.proofs.Rests.{moved, at_rest-rests, leads_inside}

-- ---- paths

regroup : (p : List Instruction) (s u : State) (xs done : List Operation) (x : Operation) → Path p s ((xs ++ done) ++ x ∷ []) u → Path p s (xs ++ (done ++ x ∷ [])) u
regroup p s u xs done x h = subst (λ zs. Path p s zs u) (append_assoc xs done (x ∷ [])) h

-- a path, and one from where it ends
pub path-join : (p : List Instruction) (s t u : State) (xs ys : List Operation) → Path p s xs t → Path p t ys u → Path p s (xs ++ ys) u
path-join p s t u xs ys h stays = subst (λ zs. Path p s zs t) (sym (append-nil xs)) h
path-join p s t u xs ys h (loads done v to addr value k e) = regroup p s (further 1 (with_reg v to value)) xs done (Loaded addr value) (loads (xs ++ done) v to addr value (path-join p s t v xs done h k) e)
path-join p s t u xs ys h (stores done v addr value k e) = regroup p s (further 1 v) xs done (Stored addr value) (stores (xs ++ done) v addr value (path-join p s t v xs done h k) e)
path-join p s t u xs ys h (stores_register done v addr from k e) = regroup p s (further 1 v) xs done (Stored addr (reg v from)) (stores_register (xs ++ done) v addr from (path-join p s t v xs done h k) e)
path-join p s t u xs ys h (swaps done v to addr value read k e) = regroup p s (further 1 (with_reg v to read)) xs done (Swapped addr read value) (swaps (xs ++ done) v to addr value read (path-join p s t v xs done h k) e)
path-join p s t u xs ys h (adds done v to from value k e) = adds (xs ++ done) v to from value (path-join p s t v xs done h k) e
path-join p s t u xs ys h (skips done v tested skip k e is_zero) = skips (xs ++ done) v tested skip (path-join p s t v xs done h k) e is_zero
path-join p s t u xs ys h (goes_on done v tested skip k e other) = goes_on (xs ++ done) v tested skip (path-join p s t v xs done h k) e other

-- an operation that was issued is the one that is next
pub issued_op : (o : Option Op) (x : Operation) → is_issued o x ≡ true → o ≡ Some (op_of x)
issued_op None x h = cc
issued_op (Some (op.Load addr)) (Loaded a v) h = ap (λ n. Some (op.Load n)) (sym (eqb-true a addr h))
issued_op (Some (op.Load addr)) (Stored a v) h = cc
issued_op (Some (op.Load addr)) (Swapped a r v) h = cc
issued_op (Some (op.Store addr value)) (Loaded a v) h = cc
issued_op (Some (op.Store addr value)) (Stored a v) h =
    let t = and_parts (a == addr) (v == value) h in
    let one : addr ≡ a = sym (eqb-true a addr t.0) in
    let other : value ≡ v = sym (eqb-true v value t.1) in
    λ i. Some (op.Store (one i) (other i))
issued_op (Some (op.Store addr value)) (Swapped a r v) h = cc
issued_op (Some (op.Swap addr value)) (Loaded a v) h = cc
issued_op (Some (op.Swap addr value)) (Stored a v) h = cc
issued_op (Some (op.Swap addr value)) (Swapped a r v) h =
    let t = and_parts (a == addr) (v == value) h in
    let one : addr ≡ a = sym (eqb-true a addr t.0) in
    let other : value ≡ v = sym (eqb-true v value t.1) in
    λ i. Some (op.Swap (one i) (other i))

pub op_issued : (x : Operation) → is_issued (Some (op_of x)) x ≡ true
op_issued (Loaded a v) = eq-eqb a a refl
op_issued (Stored a v) = and_from (a == a) (v == v) (eq-eqb a a refl) (eq-eqb v v refl)
op_issued (Swapped a r v) = and_from (a == a) (v == v) (eq-eqb a a refl) (eq-eqb v v refl)

-- an instruction that touches memory leads on by its operation
pub path-performs : (p : List Instruction) (s t : State) (done : List Operation) (i : Instruction) (x : Operation) → Path p s done t → slice_get p t.position ≡ Some i → issued i t ≡ Some (op_of x) → Path p s (done ++ x ∷ []) (after i (word_answered x) t)
path-performs p s t done (Load to addr) (Loaded a v) h e f =
    let same : addr ≡ a = cc in
    subst (λ n. Path p s (done ++ Loaded n v ∷ []) (further 1 (with_reg t to v))) same (loads done t to addr v h e)
path-performs p s t done (Load to addr) (Stored a v) h e f = cc
path-performs p s t done (Load to addr) (Swapped a r v) h e f = cc
path-performs p s t done (Store addr value) (Loaded a v) h e f = cc
path-performs p s t done (Store addr value) (Stored a v) h e f =
    let same : Stored addr value ≡ Stored a v = cc in
    subst (λ (o : Operation). Path p s (done ++ o ∷ []) (further 1 t)) same (stores done t addr value h e)
path-performs p s t done (Store addr value) (Swapped a r v) h e f = cc
path-performs p s t done (StoreRegister addr from) (Loaded a v) h e f = cc
path-performs p s t done (StoreRegister addr from) (Stored a v) h e f =
    let same : Stored addr (reg t from) ≡ Stored a v = cc in
    subst (λ (o : Operation). Path p s (done ++ o ∷ []) (further 1 t)) same (stores_register done t addr from h e)
path-performs p s t done (StoreRegister addr from) (Swapped a r v) h e f = cc
path-performs p s t done (Add to from value) x h e f = cc
path-performs p s t done (SkipIfZero tested skip) x h e f = cc
path-performs p s t done (Swap to addr value) (Loaded a v) h e f = cc
path-performs p s t done (Swap to addr value) (Stored a v) h e f = cc
path-performs p s t done (Swap to addr value) (Swapped a r v) h e f =
    let same : Swapped addr r value ≡ Swapped a r v = cc in
    subst (λ (o : Operation). Path p s (done ++ o ∷ []) (further 1 (with_reg t to r))) same (swaps done t to addr value r h e)

-- another one leads on without
pub path-moves : (p : List Instruction) (s t : State) (done : List Operation) (i : Instruction) → Path p s done t → slice_get p t.position ≡ Some i → issued i t ≡ None → Path p s done (after i 0 t)
path-moves p s t done (Load to addr) h e f = cc
path-moves p s t done (Store addr value) h e f = cc
path-moves p s t done (StoreRegister addr from) h e f = cc
path-moves p s t done (Swap to addr value) h e f = cc
path-moves p s t done (Add to from value) h e f = adds done t to from value h e
path-moves p s t done (SkipIfZero tested skip) h e f = go (reg t tested == 0) refl
  where
    go : (b : Bool) → (reg t tested == 0) ≡ b → Path p s done (further (if b then 1 + skip else 1) t)
    go true is = skips done t tested skip h e (eqb-true (reg t tested) 0 is)
    go false is = goes_on done t tested skip h e (eqb-false (reg t tested) 0 is)

-- a path goes on to where the core rests
rest_within-path : (n : ℕ) (p : List Instruction) (s t : State) (done : List Operation) → Path p s done t → Path p s done (rest_within n p t)
rest_within-path zero p s t done h = h
rest_within-path (suc n) p s t done h = go (slice_get p t.position) refl (λ i e f. rest_within-path n p s (after i 0 t) done (path-moves p s t done i h e f))
  where
    by : (i : Instruction) (o : Option Op) → issued i t ≡ o → slice_get p t.position ≡ Some i → (issued i t ≡ None → Path p s done (rest_within n p (after i 0 t))) → Path p s done (if is_some o then t else rest_within n p (after i 0 t))
    by i None f e behind = behind f
    by i (Some x) f e behind = h

    go : (o : Option Instruction) → slice_get p t.position ≡ o → ((i : Instruction) → slice_get p t.position ≡ Some i → issued i t ≡ None → Path p s done (rest_within n p (after i 0 t))) → Path p s done (moved (λ i. rest_within n p (after i 0 t)) t o)
    go None e behind = h
    go (Some i) e behind = by i (issued i t) refl e (behind i e)

pub at_rest-path : (p : List Instruction) (s t : State) (done : List Operation) → Path p s done t → Path p s done (at_rest p t)
at_rest-path p s t done h = rest_within-path (length p) p s t done h

-- what issues an operation is an instruction
pub record Waits (p : List Instruction) (s : State) (x : Op) : Type 0 where
  pub instruction : Instruction
  pub next : slice_get p s.position ≡ Some instruction
  pub issues : issued instruction s ≡ Some x

pub waits : (p : List Instruction) (s : State) (x : Op) → next_op p s ≡ Some x → Waits p s x
waits p s x h = go (slice_get p s.position) refl h
  where
    go : (o : Option Instruction) → slice_get p s.position ≡ o → option_and_then (λ i. issued i s) o ≡ Some x → Waits p s x
    go None e f = cc
    go (Some i) e f = record { instruction = i; next = e; issues = f }

pub answered-is : (p : List Instruction) (s : State) (x : ℕ) (i : Instruction) → slice_get p s.position ≡ Some i → answered p x s ≡ at_rest p (after i x s)
answered-is p s x i e = ap (λ o. option_map_or (λ j. at_rest p (after j x s)) o s) e

-- the answer to an operation leads on by it
pub answered-path : (p : List Instruction) (s t : State) (done : List Operation) (x : Operation) → Path p s done t → next_op p t ≡ Some (op_of x) → Path p s (done ++ x ∷ []) (answered p (word_answered x) t)
answered-path p s t done x h e =
    let w = waits p t (op_of x) e in
    subst (λ u. Path p s (done ++ x ∷ []) u) (sym (answered-is p t (word_answered x) w.instruction w.next))
    (at_rest-path p s (after w.instruction (word_answered x) t) (done ++ x ∷ []) (path-performs p s t done w.instruction x h w.next w.issues))

-- to a state at rest
pub answered-rests : (p : List Instruction) (s : State) (x : ℕ) → IsProgram p → IsSome (next_op p s) → IsAtRest p (answered p x s)
answered-rests p s x program h = go (next_op p s) refl h
  where
    go : (o : Option Op) → next_op p s ≡ o → IsSome o → IsAtRest p (answered p x s)
    go None e w = cc
    go (Some a) e w =
        let i = waits p s a e in
        subst (IsAtRest p) (sym (answered-is p s x i.instruction i.next)) (at_rest-rests p (after i.instruction x s) program (leads_inside p i.instruction x s program i.next))

-- what is answered had been issued
pub op_of-performed : (a : Op) (x : ℕ) → op_of (performed a x) ≡ a
op_of-performed (op.Load addr) x = refl
op_of-performed (op.Store addr value) x = refl
op_of-performed (op.Swap addr value) x = refl

-- an instruction leads on by the answer to its operation
pub after-performed : (i : Instruction) (s : State) (a : Op) (x : ℕ) → issued i s ≡ Some a → after i (word_answered (performed a x)) s ≡ after i x s
after-performed (Load to addr) s (op.Load b) x h = refl
after-performed (Load to addr) s (op.Store b w) x h = cc
after-performed (Load to addr) s (op.Swap b w) x h = cc
after-performed (Store addr value) s a x h = refl
after-performed (StoreRegister addr from) s a x h = refl
after-performed (Add to from value) s a x h = refl
after-performed (SkipIfZero tested skip) s a x h = refl
after-performed (Swap to addr value) s (op.Load b) x h = cc
after-performed (Swap to addr value) s (op.Store b w) x h = cc
after-performed (Swap to addr value) s (op.Swap b w) x h = refl

-- an answer leads on by the operation that it answers
pub answer-path : (p : List Instruction) (s t : State) (i : Instruction) (x : ℕ) → slice_get p s.position ≡ Some i → t ≡ at_rest p (after i x s) → IfSome (next_op p s) (λ a. Path p s (performed a x ∷ []) t)
answer-path p s t i x e same = go (next_op p s) refl
  where
    go : (o : Option Op) → next_op p s ≡ o → IfSome o (λ a. Path p s (performed a x ∷ []) t)
    go None f = tt
    go (Some a) f =
        let issues : issued i s ≡ Some a = sym (ap (option_and_then (λ j. issued j s)) e) ∙ f in
        let state : answered p (word_answered (performed a x)) s ≡ t =
        answered-is p s (word_answered (performed a x)) i e ∙ ap (at_rest p) (after-performed i s a x issues) ∙ sym same in
        let next : next_op p s ≡ Some (op_of (performed a x)) = f ∙ ap (λ b. Some b) (sym (op_of-performed a x)) in
        subst (λ u. Path p s (performed a x ∷ []) u) state (answered-path p s s [] (performed a x) stays next)
