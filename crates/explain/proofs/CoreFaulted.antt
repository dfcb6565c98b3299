-- Where a core fault of a set stands in its logs.
use Rattle.std.specs.Prelude.{◌≡◌, ◌≤◌, ◌<◌, ℕ, zero, suc, Bool, true, false, if◌then◌else◌, List, [], ◌∷◌, Option, None, Some, IsSome, is_some, slice_get, length, map, ◌⊎◌, refl, option_map}
use Rattle.std.proofs.Common.{sym, ◌∙◌, ap, subst, inl, inr, arith}
use Rattle.std.proofs.lemmas.List.{length-map}
use Rattle.line_stamps.specs.Ordered.{In}
use Rattle.line_stamps.proofs.Ordered.{In-append}
use Rattle.mem_op.specs.Consistency.{Operation, word_answered}
use Rattle.log_record.specs.declared.record.Record.{Record}
use Rattle.log_record.specs.Entries.{operation_of}
use Rattle.core_program.specs.declared.instruction.Instruction.{Instruction}
use Rattle.core_program.specs.State.{State}
use Rattle.core_program.specs.Running.{next_op, is_issued, answered, start_of}
use Rattle.core_program.specs.Conforming.{fault_from}
use Rattle.core_check.specs.declared.fault.RuleFault.{RuleFault}
use Rattle.core_check.specs.CoreOrder.{is_core_fault}
use Rattle.core_check.specs.CoreFaults.{order_faults}
use Rattle.core_check.proofs.OrderFaultFacts.{fault_in_log, record_at_fault}
use Rattle.core_check.proofs.ProgramFaultFacts.{program_fault_in_log}
use Rattle.verdict.specs.declared.rule.Rule.TheVariants.{CoreOrder, Program}
use Rattle.verdict.specs.CoreFaultsOf.{faults_by_programs}
use Rattle.verdict.specs.FaultParts.{FaultParts}
use Rattle.verdict.specs.Faults.{from_core}
use Rattle.verdict.proofs.Lists.{within}
use Rattle.explain.specs.inner.CoreFault.{IsCoreFault}
use Rattle.explain.specs.ProgramOf.{program_of}

-- a log differs from its program at most just past its end
fault_within : (p : List Instruction) (s : State) (xs : List Operation) (i : ℕ) → fault_from p s xs ≡ Some i → i ≤ length xs
fault_within p s [] i h = go (is_some (next_op p s)) h
  where
    go : (b : Bool) → (if b then Some 0 else None) ≡ Some i → i ≤ 0
    go true e = let here : 0 ≡ i = cc in omega arith
    go false e = cc
fault_within p s (x ∷ xs) i h = go (is_issued (next_op p s) x) h (fault_within p (answered p (word_answered x) s) xs)
  where
    later : (o : Option ℕ) → fault_from p (answered p (word_answered x) s) xs ≡ o → option_map suc o ≡ Some i
        → ((j : ℕ) → fault_from p (answered p (word_answered x) s) xs ≡ Some j → j ≤ length xs) → i ≤ length (x ∷ xs)
    later None e q rest = cc
    later (Some j) e q rest =
        let here : suc j ≡ i = cc in
        let inside : j ≤ length xs = rest j e in
        omega arith

    go : (b : Bool) → (if b then option_map suc (fault_from p (answered p (word_answered x) s) xs) else Some 0) ≡ Some i
        → ((j : ℕ) → fault_from p (answered p (word_answered x) s) xs ≡ Some j → j ≤ length xs) → i ≤ length (x ∷ xs)
    go true e rest = later (fault_from p (answered p (word_answered x) s) xs) refl e rest
    go false e rest = let here : 0 ≡ i = cc in omega arith

-- a fault against the program of a core, at most just past the end of its log
pub record IsOfProgram (programs : Option (List (List Instruction))) (log : List Record) (fault : FaultParts) : Type 0 where
  pub rule_is : fault.rule ≡ Program
  pub program : List Instruction
  pub there : program_of programs fault.id.core ≡ Some program
  pub inside : fault.id.index ≤ length log

-- a fault of core order at a record that isn't the first
pub record IsOfOrder (log : List Record) (fault : FaultParts) : Type 0 where
  pub rule_is : fault.rule ≡ CoreOrder
  pub later : 0 < fault.id.index
  pub inside : fault.id.index < length log

-- a core fault stands in a log
pub record Stands (programs : Option (List (List Instruction))) (logs : List (List Record)) (fault : FaultParts) : Type 0 where
  pub log : List Record
  pub there : slice_get logs fault.id.core ≡ Some log
  pub which : IsOfOrder log fault ⊎ IsOfProgram programs log fault

earlier : (log : List Record) (i : ℕ) → is_core_fault log i ≡ true → (0 < i) × (i < length log)
earlier log zero h = cc
earlier log (suc i) h = let r = record_at_fault log (suc i) h in (omega arith, within log (suc i) r.0 r.1)

by_order : (programs : Option (List (List Instruction))) (logs : List (List Record)) (f : RuleFault) → In f (order_faults logs) → Stands programs logs (from_core f)
by_order programs logs f h =
    let found = fault_in_log logs f h in
    let place = earlier found.log f.id.index found.falls_there in
    record {
      log = found.log;
      there = found.place;
      which = inl (record { rule_is = sym (ap (λ (g : RuleFault). (from_core g).rule) found.of_order); later = place.0; inside = place.1 });
    }

by_program : (programs : Option (List (List Instruction))) (logs : List (List Record)) (f : RuleFault) → In f (faults_by_programs programs logs) → Stands programs logs (from_core f)
by_program None logs f h = absurd h
by_program (Some ps) logs f h =
    let found = program_fault_in_log ps logs f h in
    let inside = fault_within found.program (start_of found.program) (map operation_of found.log) f.id.index found.fault in
    record {
      log = found.log;
      there = found.log_there;
      which = inr (record {
        rule_is = sym (ap (λ (g : RuleFault). (from_core g).rule) found.of_program);
        program = found.program;
        there = found.program_there;
        inside = omega (arith, length-map found.log operation_of);
      });
    }

pub stands : (programs : Option (List (List Instruction))) (logs : List (List Record)) (fault : FaultParts) → IsCoreFault programs logs fault → Stands programs logs fault
stands programs logs fault h =
    subst (Stands programs logs) (sym h.2) (elim (In-append h.0 (order_faults logs) (faults_by_programs programs logs) h.1) [
      | inl p ↦ by_order programs logs h.0 p
      | inr p ↦ by_program programs logs h.0 p
    ])

-- ---- of the log that is there

-- there is one
pub no_log : (programs : Option (List (List Instruction))) (logs : List (List Record)) (fault : FaultParts) → slice_get logs fault.id.core ≡ None → IsCoreFault programs logs fault → ⊥
no_log programs logs fault none h = let place = stands programs logs fault h in let wrong : Some place.log ≡ None = sym place.there ∙ none in cc

in_log : (programs : Option (List (List Instruction))) (logs : List (List Record)) (fault : FaultParts) (log : List Record) → slice_get logs fault.id.core ≡ Some log → IsCoreFault programs logs fault
    → IsOfOrder log fault ⊎ IsOfProgram programs log fault
in_log programs logs fault log there h =
    let place = stands programs logs fault h in
    let same : Some place.log ≡ Some log = sym place.there ∙ there in
    let one : place.log ≡ log = cc in
    subst (λ (l : List Record). IsOfOrder l fault ⊎ IsOfProgram programs l fault) one place.which

-- a fault of core order isn't at the first record
pub of_order : (programs : Option (List (List Instruction))) (logs : List (List Record)) (fault : FaultParts) (log : List Record) → slice_get logs fault.id.core ≡ Some log → fault.rule ≡ CoreOrder
    → IsCoreFault programs logs fault → IsOfOrder log fault
of_order programs logs fault log there rule h = elim (in_log programs logs fault log there h) [
  | inl p ↦ p
  | inr p ↦ absurd (let wrong : CoreOrder ≡ Program = sym rule ∙ p.rule_is in cc)
]

-- a fault against a program has that program
pub of_program : (programs : Option (List (List Instruction))) (logs : List (List Record)) (fault : FaultParts) (log : List Record) → slice_get logs fault.id.core ≡ Some log → fault.rule ≡ Program
    → IsCoreFault programs logs fault → IsOfProgram programs log fault
of_program programs logs fault log there rule h = elim (in_log programs logs fault log there h) [
  | inl p ↦ absurd (let wrong : Program ≡ CoreOrder = sym rule ∙ p.rule_is in cc)
  | inr p ↦ p
]

pub has_program : (programs : Option (List (List Instruction))) (core same : ℕ) (program : List Instruction) → core ≡ same → program_of programs same ≡ Some program → IsSome (program_of programs core)
has_program programs core same program is there = ap is_some (ap (program_of programs) is ∙ there)
