-- A log has a PROGRAM fault where it doesn't conform, and one alone.
use Rattle.std.specs.Prelude.{◌≡◌, ◌≢◌, ℕ, zero, suc, ◌<◌, ◌≤◌, Bool, true, false, if◌then◌else◌, List, [], ◌∷◌, length, Option, Some, None, IsSome, is_some, option_map, option_and_then, slice_get, take, refl}
use Rattle.std.proofs.Common.{sym, ◌∙◌, ap, subst, arith}
use Rattle.std.proofs.lemmas.Option.{slice_get_past}
use Rattle.std.proofs.lemmas.List.{length-take-le}
use Rattle.mem_op.specs.declared.id.Op.{Op}
use Rattle.mem_op.specs.Consistency.{Operation, word_answered}
use Rattle.core_program.specs.declared.instruction.Instruction.{Instruction}
use Rattle.core_program.specs.State.{State}
use Rattle.core_program.specs.Shape.{IsProgram}
use Rattle.core_program.specs.Running.{op_of, is_issued, issued, next_op, IsAtRest, answered, run_from, start_of, state_after}
use Rattle.core_program.specs.Conforming.{Conforms, DiffersAt, fault_from, program_fault}
use Rattle.core_program.proofs.Paths.{issued_op, op_issued}
use Rattle.core_program.proofs.Runs.{reached-length, run_from-next, state_after-reached, state_after-reaches, state_after-rests}

-- ---- the end

-- a core that has ended issues nothing
pub ended-issues : (p : List Instruction) (s : State) → s.position ≡ length p → next_op p s ≡ None
ended-issues p s e = ap (option_and_then (λ i. issued i s)) (slice_get_past p s.position (omega arith))

pub ended-rests : (p : List Instruction) (s : State) → s.position ≡ length p → IsAtRest p s
ended-rests p s e = record { within = omega arith; waits = λ inside. absurd (omega arith) }

-- and one at rest that issues nothing has ended
pub rests-ended : (p : List Instruction) (s : State) → IsAtRest p s → next_op p s ≡ None → s.position ≡ length p
rests-ended p s rests e =
    let not_before : s.position < length p → ⊥ = λ inside. (let some : IsSome (next_op p s) = rests.waits inside in cc) in
    let within : s.position ≤ length p = rests.within in
    grind arith

-- ---- conforming logs

-- a core that has performed the log has ended
pub conforms-state : (p : List Instruction) (xs : List Operation) → Conforms p xs → (t : State) × (state_after p xs ≡ Some t) × (next_op p t ≡ None)
conforms-state p xs h = (h.0, state_after-reached p xs h.0 h.1 (ended-rests p h.0 h.2), ended-issues p h.0 h.2)

pub state-conforms : (p : List Instruction) (xs : List Operation) (t : State) → IsProgram p → state_after p xs ≡ Some t → next_op p t ≡ None → Conforms p xs
state-conforms p xs t program h e = (t, state_after-reaches p xs t h, rests-ended p t (state_after-rests p xs t program h) e)

-- ---- faults

-- the fault where the log ends: what is next is one
abbrev pub end_fault : Option Op → Option ℕ
end_fault next = if is_some next then Some 0 else None

-- no fault: a run to a state that issues nothing more
none-run : (p : List Instruction) (s : State) (xs : List Operation) → fault_from p s xs ≡ None → (t : State) × (run_from p s xs ≡ Some t) × (next_op p t ≡ None)
none-run p s [] h = go (next_op p s) refl h
  where
    go : (o : Option Op) → next_op p s ≡ o → end_fault o ≡ None → (t : State) × (Some s ≡ Some t) × (next_op p t ≡ None)
    go None e h = (s, refl, e)
    go (Some a) e h = cc
none-run p s (x ∷ xs) h = go (is_issued (next_op p s) x) h (none-run p (answered p (word_answered x) s) xs)
  where
    none_before : (o : Option ℕ) → option_map suc o ≡ None → o ≡ None
    none_before None h = refl
    none_before (Some k) h = cc

    go : (b : Bool) → (if b then option_map suc (fault_from p (answered p (word_answered x) s) xs) else Some 0) ≡ None →
        (fault_from p (answered p (word_answered x) s) xs ≡ None → (t : State) × (run_from p (answered p (word_answered x) s) xs ≡ Some t) × (next_op p t ≡ None)) →
        (t : State) × ((if b then run_from p (answered p (word_answered x) s) xs else None) ≡ Some t) × (next_op p t ≡ None)
    go true h behind = behind (none_before (fault_from p (answered p (word_answered x) s) xs) h)
    go false h behind = cc

run-none : (p : List Instruction) (s t : State) (xs : List Operation) → run_from p s xs ≡ Some t → next_op p t ≡ None → fault_from p s xs ≡ None
run-none p s t [] h e =
    let same : s ≡ t = cc in
    ap end_fault (ap (next_op p) same ∙ e)
run-none p s t (x ∷ xs) h e = go (is_issued (next_op p s) x) h (λ k. run-none p (answered p (word_answered x) s) t xs k e)
  where
    go : (b : Bool) → (if b then run_from p (answered p (word_answered x) s) xs else None) ≡ Some t →
        (run_from p (answered p (word_answered x) s) xs ≡ Some t → fault_from p (answered p (word_answered x) s) xs ≡ None) →
        (if b then option_map suc (fault_from p (answered p (word_answered x) s) xs) else Some 0) ≡ None
    go true h behind = ap (option_map suc) (behind h)
    go false h behind = cc

-- a fault: a run to a state that issues something else than what is logged
pub record TurnsAt (p : List Instruction) (s : State) (xs : List Operation) (i : ℕ) : Type 0 where
  pub within : i ≤ length xs
  pub state : State
  pub run : run_from p s (take i xs) ≡ Some state
  pub differs : next_op p state ≢ option_map op_of (slice_get xs i)

-- not the operation that was issued
not_issued : (o : Option Op) (x : Operation) → is_issued o x ≡ false → o ≢ Some (op_of x)
not_issued o x h e = let is : is_issued o x ≡ true = ap (λ a. is_issued a x) e ∙ op_issued x in cc

fault-turns : (p : List Instruction) (s : State) (xs : List Operation) (i : ℕ) → fault_from p s xs ≡ Some i → TurnsAt p s xs i
fault-turns p s [] i h = go (next_op p s) refl h
  where
    go : (o : Option Op) → next_op p s ≡ o → end_fault o ≡ Some i → TurnsAt p s [] i
    go None e h = cc
    go (Some a) e h =
        let here : 0 ≡ i = cc in
        subst (TurnsAt p s []) here (record { within = omega arith; state = s; run = refl; differs = λ same. cc })
fault-turns p s (x ∷ xs) i h = go (is_issued (next_op p s) x) refl h (fault-turns p (answered p (word_answered x) s) xs)
  where
    from_behind : (o : Option ℕ) → fault_from p (answered p (word_answered x) s) xs ≡ o → option_map suc o ≡ Some i → is_issued (next_op p s) x ≡ true →
        ((j : ℕ) → fault_from p (answered p (word_answered x) s) xs ≡ Some j → TurnsAt p (answered p (word_answered x) s) xs j) → TurnsAt p s (x ∷ xs) i
    from_behind None e h is behind = cc
    from_behind (Some j) e h is behind =
        let here : suc j ≡ i = cc in
        let turns = behind j e in
        subst (TurnsAt p s (x ∷ xs)) here (record {
          within = let inside : j ≤ length xs = turns.within in omega arith;
          state = turns.state;
          run = run_from-next p s x (take j xs) (issued_op (next_op p s) x is) ∙ turns.run;
          differs = turns.differs;
        })

    go : (b : Bool) → is_issued (next_op p s) x ≡ b → (if b then option_map suc (fault_from p (answered p (word_answered x) s) xs) else Some 0) ≡ Some i →
        ((j : ℕ) → fault_from p (answered p (word_answered x) s) xs ≡ Some j → TurnsAt p (answered p (word_answered x) s) xs j) → TurnsAt p s (x ∷ xs) i
    go true is h behind = from_behind (fault_from p (answered p (word_answered x) s) xs) refl h is behind
    go false is h behind =
        let here : 0 ≡ i = cc in
        subst (TurnsAt p s (x ∷ xs)) here (record { within = omega arith; state = s; run = refl; differs = not_issued (next_op p s) x is })

-- at a state that issues something else than what is logged next, the fault is there
fault-here : (p : List Instruction) (s : State) (xs : List Operation) → next_op p s ≢ option_map op_of (slice_get xs 0) → fault_from p s xs ≡ Some 0
fault-here p s [] differs = go (next_op p s) differs
  where
    go : (o : Option Op) → o ≢ None → end_fault o ≡ Some 0
    go None differs = absurd (differs refl)
    go (Some a) differs = refl
fault-here p s (x ∷ xs) differs = go (is_issued (next_op p s) x) refl
  where
    go : (b : Bool) → is_issued (next_op p s) x ≡ b → (if b then option_map suc (fault_from p (answered p (word_answered x) s) xs) else Some 0) ≡ Some 0
    go true is = absurd (differs (issued_op (next_op p s) x is))
    go false is = refl

turns-fault : (p : List Instruction) (s : State) (xs : List Operation) (i : ℕ) → TurnsAt p s xs i → fault_from p s xs ≡ Some i
turns-fault p s xs zero h = let same : s ≡ h.state = (let run = h.run in cc) in fault-here p s xs (subst (λ u. next_op p u ≢ option_map op_of (slice_get xs 0)) (sym same) h.differs)
turns-fault p s [] (suc i) h = absurd (let inside : suc i ≤ 0 = h.within in omega arith)
turns-fault p s (x ∷ xs) (suc i) h = go (is_issued (next_op p s) x) h.run (λ k. turns-fault p (answered p (word_answered x) s) xs i (record { within = (let inside : suc i ≤ length (x ∷ xs) = h.within in omega arith); state = h.state; run = k; differs = h.differs }))
  where
    go : (b : Bool) → (if b then run_from p (answered p (word_answered x) s) (take i xs) else None) ≡ Some h.state →
        (run_from p (answered p (word_answered x) s) (take i xs) ≡ Some h.state → fault_from p (answered p (word_answered x) s) xs ≡ Some i) →
        (if b then option_map suc (fault_from p (answered p (word_answered x) s) xs) else Some 0) ≡ Some (suc i)
    go true k behind = ap (option_map suc) (behind k)
    go false k behind = cc

-- ---- from the start

pub conforms-fault : (p : List Instruction) (xs : List Operation) → Conforms p xs → program_fault p xs ≡ None
conforms-fault p xs h = let t = conforms-state p xs h in run-none p (start_of p) t.0 xs t.1 t.2

pub fault-conforms : (p : List Instruction) (xs : List Operation) → IsProgram p → program_fault p xs ≡ None → Conforms p xs
fault-conforms p xs program h = let t = none-run p (start_of p) xs h in state-conforms p xs t.0 program t.1 t.2

pub differs-fault : (p : List Instruction) (xs : List Operation) (i : ℕ) → DiffersAt p xs i → program_fault p xs ≡ Some i
differs-fault p xs i h = turns-fault p (start_of p) xs i (record {
  within = h.within;
  state = h.issues.state;
  run = state_after-reached p (take i xs) h.issues.state h.issues.reached h.issues.rests;
  differs = λ same. h.differs (sym h.issues.next_is ∙ same);
})

pub fault-differs : (p : List Instruction) (xs : List Operation) (i : ℕ) → IsProgram p → program_fault p xs ≡ Some i → DiffersAt p xs i
fault-differs p xs i program h =
    let turns = fault-turns p (start_of p) xs i h in
    record {
      within = turns.within;
      next = next_op p turns.state;
      issues = record {
        state = turns.state;
        reached = state_after-reaches p (take i xs) turns.state turns.run;
        rests = state_after-rests p (take i xs) turns.state program turns.run;
        next_is = refl;
      };
      differs = turns.differs;
    }

-- ---- as the log is read

-- the fault is where, after the operations before, something else is issued than what is logged
pub fault-at : (p : List Instruction) (xs : List Operation) (i : ℕ) (s : State) → state_after p (take i xs) ≡ Some s → i ≤ length xs → next_op p s ≢ option_map op_of (slice_get xs i) → program_fault p xs ≡ Some i
fault-at p xs i s run within differs = turns-fault p (start_of p) xs i (record { within = within; state = s; run = run; differs = differs })

-- no such place is beyond the limit of instructions
pub differs-few : (p : List Instruction) (xs : List Operation) (i : ℕ) → IsProgram p → DiffersAt p xs i → i ≤ 4096
differs-few p xs i program h = omega (arith, reached-length p (take i xs) h.issues.state program h.issues.reached, length-take-le i xs h.within, program.short)

pub no-fault : (p : List Instruction) (xs : List Operation) (s : State) → state_after p xs ≡ Some s → next_op p s ≡ None → program_fault p xs ≡ None
no-fault p xs s run ended = run-none p (start_of p) s xs run ended
