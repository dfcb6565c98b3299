-- What stands among the PROGRAM faults of a set.
use Rattle.std.specs.Prelude.{◌≡◌, ◌≢◌, ℕ, zero, suc, ◌+◌, ◌<◌, Bool, cond, ◌==◌, List, [], ◌∷◌, ◌++◌, Option, Some, None, slice_get, filter, map, refl}
use Rattle.std.specs.Option.{option_map_or}
use Rattle.std.proofs.Common.{sym, ◌∙◌, ap, subst, arith, inl, inr, append-nil}
use Rattle.std.proofs.lemmas.Bool.{eq-eqb, ne_eqb}
use Rattle.std.proofs.lemmas.List.Elements.{filter-append}
use Rattle.mem_op.specs.declared.id.OpId.{OpId}
use Rattle.line_stamps.specs.Ordered.{In}
use Rattle.line_stamps.proofs.Ordered.{In-append, In-append_left, In-append_right}
use Rattle.core_program.specs.declared.instruction.Instruction.{Instruction}
use Rattle.core_program.specs.Conforming.{program_fault}
use Rattle.log_record.specs.declared.record.Record.{Record}
use Rattle.log_record.specs.Entries.{operation_of}
use Rattle.core_check.specs.declared.fault.RuleFault.{RuleFault}
use Rattle.core_check.specs.CoreFaults.{program_fault_at, program_faults_of, program_faults_from, program_faults}

abbrev fault_in : ℕ → ℕ → RuleFault
fault_in core i = program_fault_at (record { core = core; index = i })

abbrev faults_by : ℕ → Option ℕ → List RuleFault
faults_by core o = option_map_or (λ i. fault_in core i ∷ []) o []

-- ---- one core's

in_own : (core : ℕ) (o : Option ℕ) (f : RuleFault) → In f (faults_by core o) → (i : ℕ) × (o ≡ Some i) × (fault_in core i ≡ f)
in_own core None f h = absurd h
in_own core (Some i) f (inl same) = (i, refl, same)
in_own core (Some i) f (inr h) = absurd h

own_in : (core : ℕ) (o : Option ℕ) (i : ℕ) → o ≡ Some i → In (fault_in core i) (faults_by core o)
own_in core o i e = subst (λ a. In (fault_in core i) (faults_by core a)) (sym e) (inl refl)

-- ---- those of all cores

in_cores : (c : ℕ) (programs : List (List Instruction)) (logs : List (List Record)) (f : RuleFault) → In f (program_faults_from c programs logs) →
    (k : ℕ) × (p : List Instruction) × (log : List Record) × (i : ℕ) × (slice_get programs k ≡ Some p) × (slice_get logs k ≡ Some log) × (program_fault p (map operation_of log) ≡ Some i) × (fault_in (c + k) i ≡ f)
in_cores c [] logs f h = absurd h
in_cores c (p ∷ programs) [] f h = absurd h
in_cores c (p ∷ programs) (log ∷ logs) f h = elim (In-append f (program_faults_of c p log) (program_faults_from (suc c) programs logs) h) [
  | inl own ↦ (let t = in_own c (program_fault p (map operation_of log)) f own in (0, p, log, t.0, refl, refl, t.1, let at : c + 0 ≡ c = omega arith in ap (λ n. fault_in n t.0) at ∙ t.2))
  | inr others ↦ (let t = in_cores (suc c) programs logs f others in (suc t.0, t.1, t.2, t.3, t.4, t.5, t.6, let at : c + suc t.0 ≡ suc c + t.0 = omega arith in ap (λ n. fault_in n t.3) at ∙ t.7))
]

cores_in : (c k : ℕ) (programs : List (List Instruction)) (logs : List (List Record)) (p : List Instruction) (log : List Record) (i : ℕ) →
    slice_get programs k ≡ Some p → slice_get logs k ≡ Some log → program_fault p (map operation_of log) ≡ Some i → In (fault_in (c + k) i) (program_faults_from c programs logs)
cores_in c k [] logs p log i e f g = cc
cores_in c k (q ∷ programs) [] p log i e f g = cc
cores_in c zero (q ∷ programs) (l ∷ logs) p log i e f g =
    let one : q ≡ p = cc in
    let other : l ≡ log = cc in
    let there : program_fault q (map operation_of l) ≡ Some i = ap (λ a. program_fault a (map operation_of l)) one ∙ ap (λ a. program_fault p (map operation_of a)) other ∙ g in
    let at : c ≡ c + 0 = omega arith in
    subst (λ n. In (fault_in n i) (program_faults_from c (q ∷ programs) (l ∷ logs))) at
    (In-append_left (fault_in c i) (program_faults_of c q l) (program_faults_from (suc c) programs logs) (own_in c (program_fault q (map operation_of l)) i there))
cores_in c (suc k) (q ∷ programs) (l ∷ logs) p log i e f g =
    let at : suc c + k ≡ c + suc k = omega arith in
    subst (λ n. In (fault_in n i) (program_faults_from c (q ∷ programs) (l ∷ logs))) at
    (In-append_right (fault_in (suc c + k) i) (program_faults_of c q l) (program_faults_from (suc c) programs logs) (cores_in (suc c) k programs logs p log i e f g))

-- the fault of one log is one of the set's
pub program_fault_of_log : (programs : List (List Instruction)) (logs : List (List Record)) (id : OpId) (p : List Instruction) (log : List Record) →
    slice_get programs id.core ≡ Some p → slice_get logs id.core ≡ Some log → program_fault p (map operation_of log) ≡ Some id.index → In (program_fault_at id) (program_faults programs logs)
program_fault_of_log programs logs id p log e f g =
    let at : 0 + id.core ≡ id.core = omega arith in
    subst (λ n. In (fault_in n id.index) (program_faults programs logs)) at (cores_in 0 id.core programs logs p log id.index e f g)

-- a PROGRAM fault of a set, with the log and the program that it stands in
pub record ProgramFaultIn (programs : List (List Instruction)) (logs : List (List Record)) (f : RuleFault) : Type 0 where
  pub program : List Instruction
  pub program_there : slice_get programs f.id.core ≡ Some program
  pub log : List Record
  pub log_there : slice_get logs f.id.core ≡ Some log
  pub fault : program_fault program (map operation_of log) ≡ Some f.id.index
  pub of_program : program_fault_at f.id ≡ f

-- and each of the set's is the fault of one log
pub program_fault_in_log : (programs : List (List Instruction)) (logs : List (List Record)) (f : RuleFault) → In f (program_faults programs logs) → ProgramFaultIn programs logs f
program_fault_in_log programs logs f h =
    let t = in_cores 0 programs logs f h in
    let at : t.0 ≡ f.id.core = (let q : 0 + t.0 ≡ f.id.core = ap (λ (g : RuleFault). g.id.core) t.7 in omega arith) in
    record {
      program = t.1;
      program_there = subst (λ n. slice_get programs n ≡ Some t.1) at t.4;
      log = t.2;
      log_there = subst (λ n. slice_get logs n ≡ Some t.2) at t.5;
      fault = t.6 ∙ ap (λ (g : RuleFault). Some g.id.index) t.7;
      of_program = ap (λ (g : RuleFault). program_fault_at g.id) (sym t.7) ∙ t.7;
    }

-- the fault of the set at a place is that of the log there
pub program_fault_at_place : (programs : List (List Instruction)) (logs : List (List Record)) (id : OpId) (p : List Instruction) (log : List Record) →
    slice_get programs id.core ≡ Some p → slice_get logs id.core ≡ Some log → In (program_fault_at id) (program_faults programs logs) → program_fault p (map operation_of log) ≡ Some id.index
program_fault_at_place programs logs id p log e f h =
    let found = program_fault_in_log programs logs (program_fault_at id) h in
    let programs_same : Some found.program ≡ Some p = sym found.program_there ∙ e in
    let logs_same : Some found.log ≡ Some log = sym found.log_there ∙ f in
    let one : found.program ≡ p = cc in
    let other : found.log ≡ log = cc in
    subst (λ (l : List Record). program_fault p (map operation_of l) ≡ Some id.index) other
    (subst (λ (q : List Instruction). program_fault q (map operation_of found.log) ≡ Some id.index) one found.fault)

-- ---- the faults of one core among the set's

abbrev is_of : ℕ → RuleFault → Bool
is_of core f = f.id.core == core

own_kept : (core : ℕ) (o : Option ℕ) → filter (is_of core) (faults_by core o) ≡ faults_by core o
own_kept core None = refl
own_kept core (Some i) = ap (λ b. cond b (fault_in core i ∷ []) []) (eq-eqb core core refl)

others_dropped : (core other : ℕ) (o : Option ℕ) → other ≢ core → filter (is_of core) (faults_by other o) ≡ []
others_dropped core other None ne = refl
others_dropped core other (Some i) ne = ap (λ b. cond b (fault_in other i ∷ []) []) (ne_eqb other core ne)

later_dropped : (core c : ℕ) (programs : List (List Instruction)) (logs : List (List Record)) → core < c → filter (is_of core) (program_faults_from c programs logs) ≡ []
later_dropped core c [] logs h = refl
later_dropped core c (p ∷ programs) [] h = refl
later_dropped core c (p ∷ programs) (log ∷ logs) h =
    filter-append (is_of core) (program_faults_of c p log) (program_faults_from (suc c) programs logs)
    ∙ ap (λ fs. fs ++ filter (is_of core) (program_faults_from (suc c) programs logs)) (others_dropped core c (program_fault p (map operation_of log)) (λ same. omega arith))
    ∙ later_dropped core (suc c) programs logs (omega arith)

of_core_from : (core c k : ℕ) (programs : List (List Instruction)) (logs : List (List Record)) (p : List Instruction) (log : List Record) →
    core ≡ c + k → slice_get programs k ≡ Some p → slice_get logs k ≡ Some log → filter (is_of core) (program_faults_from c programs logs) ≡ program_faults_of core p log
of_core_from core c k [] logs p log at e f = cc
of_core_from core c k (q ∷ programs) [] p log at e f = cc
of_core_from core c zero (q ∷ programs) (l ∷ logs) p log at e f =
    let one : q ≡ p = cc in
    let other : l ≡ log = cc in
    let here : core ≡ c = omega arith in
    filter-append (is_of core) (program_faults_of c q l) (program_faults_from (suc c) programs logs)
    ∙ ap (λ fs. filter (is_of core) (program_faults_of c q l) ++ fs) (later_dropped core (suc c) programs logs (omega arith))
    ∙ append-nil (filter (is_of core) (program_faults_of c q l))
    ∙ ap (λ n. filter (is_of core) (program_faults_of n q l)) (sym here)
    ∙ own_kept core (program_fault q (map operation_of l))
    ∙ ap (λ a. program_faults_of core a l) one
    ∙ ap (λ a. program_faults_of core p a) other
of_core_from core c (suc k) (q ∷ programs) (l ∷ logs) p log at e f =
    filter-append (is_of core) (program_faults_of c q l) (program_faults_from (suc c) programs logs)
    ∙ ap (λ fs. fs ++ filter (is_of core) (program_faults_from (suc c) programs logs)) (others_dropped core c (program_fault q (map operation_of l)) (λ same. omega arith))
    ∙ of_core_from core (suc c) k programs logs p log (omega arith) e f

-- a core's faults among those of a set are its own
pub program_faults-of_core : (programs : List (List Instruction)) (logs : List (List Record)) (core : ℕ) (p : List Instruction) (log : List Record) →
    slice_get programs core ≡ Some p → slice_get logs core ≡ Some log → filter (λ f. f.id.core == core) (program_faults programs logs) ≡ program_faults_of core p log
program_faults-of_core programs logs core p log e f = of_core_from core 0 core programs logs p log (omega arith) e f
