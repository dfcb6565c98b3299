-- A log is read along its program, record by record.
use Rattle.std.specs.Prelude.{◌≡◌, ◌≢◌, ◌↔◌, ℕ, zero, suc, ◌+◌, ◌<◌, ◌≤◌, true, false, List, [], ◌∷◌, ◌++◌, length, map, Option, Some, None, slice_get, take}
use Rattle.std.specs.Option.{option_map}
use Rattle.std.proofs.Common.{sym, ◌∙◌, ap, arith}
use Rattle.std.proofs.lemmas.List.{length-map}
use Rattle.std.proofs.lemmas.Option.{slice_get-map, slice_get_past}
use Rattle.std.proofs.Math.Seq.{take-length}
use Rattle.mem_op.specs.declared.id.Op.{Op}
use Rattle.mem_op.specs.Consistency.{Operation, word_answered}
use Rattle.core_program.specs.declared.instruction.Instruction.{Instruction}
use Rattle.core_program.specs.State.{State}
use Rattle.core_program.specs.Shape.{IsProgram}
use Rattle.core_program.specs.Running.{op_of, is_issued, next_op, answered, state_after}
use Rattle.core_program.specs.Conforming.{Conforms, DiffersAt, program_fault}
use Rattle.core_program.proofs.Paths.{issued_op, op_issued}
use Rattle.core_program.proofs.Runs.{state_after-snoc}
use Rattle.core_program.proofs.Faults.{conforms-fault, fault-conforms, fault-differs, differs-few, fault-at, no-fault}
use Rattle.log_record.specs.declared.record.Record.{Record}
use Rattle.log_record.specs.Entries.{operation_of}

-- ---- what follows from the index of the fault

pub conforms_where_none : (p : List Instruction) (xs : List Operation) (o : Option ℕ) → IsProgram p → o ≡ program_fault p xs → (o ≡ None) ↔ Conforms p xs
conforms_where_none p xs o program e = ((λ none. fault-conforms p xs program (sym e ∙ none)), (λ h. e ∙ conforms-fault p xs h))

pub differs_where_some : (p : List Instruction) (xs : List Operation) (i : ℕ) → IsProgram p → Some i ≡ program_fault p xs → DiffersAt p xs i
differs_where_some p xs i program e = fault-differs p xs i program (sym e)

pub few_before : (p : List Instruction) (xs : List Operation) (i : ℕ) → IsProgram p → Some i ≡ program_fault p xs → i ≤ 4096
few_before p xs i program e = differs-few p xs i program (differs_where_some p xs i program e)

-- ---- one record further

take_snoc : {A : Type 0} (xs : List A) (i : ℕ) (x : A) → slice_get xs i ≡ Some x → take (suc i) xs ≡ take i xs ++ x ∷ []
take_snoc [] i x e = cc
take_snoc (y ∷ ys) zero x e = let same : y ≡ x = cc in ap (λ z. z ∷ []) same
take_snoc (y ∷ ys) (suc i) x e = ap (λ zs. y ∷ zs) (take_snoc ys i x e)

operation_here : (log : List Record) (i : ℕ) (r : Record) → slice_get log i ≡ Some r → slice_get (map operation_of log) i ≡ Some (operation_of r)
operation_here log i r here = slice_get-map operation_of log i ∙ ap (option_map operation_of) here

-- a record of the operation that was issued leads to the state after it
pub state_after_record : (p : List Instruction) (log : List Record) (i : ℕ) (r : Record) (s : State) →
    state_after p (take i (map operation_of log)) ≡ Some s → slice_get log i ≡ Some r → is_issued (next_op p s) (operation_of r) ≡ true → state_after p (take (i + 1) (map operation_of log)) ≡ Some (answered p (word_answered (operation_of r)) s)
state_after_record p log i r s run here is =
    let one_more : i + 1 ≡ suc i = omega arith in
    ap (λ n. state_after p (take n (map operation_of log))) one_more
    ∙ ap (state_after p) (take_snoc (map operation_of log) i (operation_of r) (operation_here log i r here))
    ∙ state_after-snoc p (take i (map operation_of log)) (operation_of r) s run (issued_op (next_op p s) (operation_of r) is)

-- a record of another operation is the fault
pub fault_at_record : (p : List Instruction) (log : List Record) (i : ℕ) (r : Record) (s : State) →
    state_after p (take i (map operation_of log)) ≡ Some s → i < length log → slice_get log i ≡ Some r → is_issued (next_op p s) (operation_of r) ≡ false → Some i ≡ program_fault p (map operation_of log)
fault_at_record p log i r s run inside here other =
    sym (fault-at p (map operation_of log) i s run (omega (arith, length-map log operation_of)) (λ same. differs (same ∙ ap (option_map op_of) (operation_here log i r here))))
  where
    differs : next_op p s ≢ Some (op_of (operation_of r))
    differs same = let is : is_issued (next_op p s) (operation_of r) ≡ true = ap (λ o. is_issued o (operation_of r)) same ∙ op_issued (operation_of r) in cc

-- the whole log was read
whole : (p : List Instruction) (log : List Record) (i : ℕ) (s : State) → state_after p (take i (map operation_of log)) ≡ Some s → i ≡ length log → state_after p (map operation_of log) ≡ Some s
whole p log i s run ends =
    let all : i ≡ length (map operation_of log) = omega (arith, length-map log operation_of) in
    sym (ap (state_after p) (ap (λ n. take n (map operation_of log)) all ∙ take-length (map operation_of log))) ∙ run

-- the end of the log is the fault where the program goes on
pub fault_at_end : (p : List Instruction) (log : List Record) (i : ℕ) (x : Op) (s : State) →
    state_after p (take i (map operation_of log)) ≡ Some s → i ≡ length log → next_op p s ≡ Some x → Some (length log) ≡ program_fault p (map operation_of log)
fault_at_end p log i x s run ends goes_on =
    ap (λ n. Some n) (sym ends)
    ∙ sym (fault-at p (map operation_of log) i s run (omega (arith, length-map log operation_of)) differs)
  where
    nothing : option_map op_of (slice_get (map operation_of log) i) ≡ None
    nothing = ap (option_map op_of) (slice_get_past (map operation_of log) i (omega (arith, length-map log operation_of)))

    differs : next_op p s ≢ option_map op_of (slice_get (map operation_of log) i)
    differs same = let apart : Some x ≡ None = sym goes_on ∙ same ∙ nothing in cc

-- and there is none where it has ended too
pub no_fault : (p : List Instruction) (log : List Record) (i : ℕ) (s : State) →
    state_after p (take i (map operation_of log)) ≡ Some s → i ≡ length log → next_op p s ≡ None → None ≡ program_fault p (map operation_of log)
no_fault p log i s run ends ended = sym (no-fault p (map operation_of log) s (whole p log i s run ends) ended)
