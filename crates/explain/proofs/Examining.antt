-- What an examination says of the fault of its verdict.
use Rattle.std.specs.Prelude.{◌≡◌, Bool, true, false, cond, List, [], ◌∷◌, Option, None, Some, Result, Ok, Err, IfOk, refl, length, option_map, IsPermutation}
use Rattle.std.specs.Option.{option_map_or}
use Rattle.std.proofs.Common.{sym, ◌∙◌, ap, subst, inl, inr}
use Rattle.line_stamps.specs.Least.{least_of}
use Rattle.line_stamps.specs.Ordered.{In, IsLeastIn}
use Rattle.line_stamps.proofs.Ordered.{least_is, filter_map-In}
use Rattle.mem_op.specs.declared.id.OpId.{OpId}
use Rattle.mem_op.specs.Consistency.{is_same_id}
use Rattle.log_record.specs.declared.record.Entry.{Entry}
use Rattle.log_record.specs.declared.record.Record.{Record}
use Rattle.log_record.specs.Entries.{entries}
use Rattle.line_stamps.proofs.Ids.{same_id-refl}
use Rattle.core_program.specs.declared.instruction.Instruction.{Instruction}
use Rattle.core_check.specs.declared.fault.RuleFault.{RuleFault}
use Rattle.core_check.specs.FaultOrder.{core_fault_cmp}
use Rattle.core_check.proofs.FaultFacts.{core_fault_total}
use Rattle.address_check.specs.declared.fault.AddressFault.{AddressFault}
use Rattle.address_check.specs.AddressFaults.{address_fault, address_faults, least_address_fault, right_store}
use Rattle.address_check.specs.AddressLaw.{fault_total}
use Rattle.address_check.specs.FaultOrder.{fault_cmp}
use Rattle.address_check.proofs.StorePass.{key_of_fault}
use Rattle.address_check.proofs.Sorting.{fault_in_any_order}
use Rattle.verdict.specs.CoreFaultsOf.{core_faults}
use Rattle.verdict.specs.FaultParts.{FaultParts}
use Rattle.verdict.specs.Faults.{from_core, from_address}
use Rattle.verdict.specs.Bases.{IsExaminationOf, IsBasisOf}
use Rattle.verdict.specs.VerdictOf.{verdict_with}
use Rattle.verdict.specs.declared.answer.Verdict.TheVariants.{Yes, No}
use Rattle.verdict.specs.declared.basis.Examined.{Examined}
use Rattle.verdict.specs.declared.basis.Basis.TheVariants.{Logs, Index}
use Rattle.explain.specs.WrongReads.{of_id}
use Rattle.explain.specs.inner.CoreFault.{IsCoreFault}

-- ---- on logs

same_fault : (a b : FaultParts) → No a ≡ No b → a ≡ b
same_fault a b h = cc

is_least : (faults : List RuleFault) (f : RuleFault) → least_of core_fault_cmp faults ≡ Some f → In f faults
is_least faults f h = (subst (IsLeastIn core_fault_cmp faults) h (least_is core_fault_cmp core_fault_total faults)).0

-- where the verdict stands on logs, its fault is a core fault of these
pub fault_of_logs : (programs : Option (List (List Instruction))) (logs set : List (List Record)) (fault : FaultParts) (examined : Examined)
    → examined.verdict ≡ No fault → examined.basis ≡ Logs set → IsExaminationOf programs logs examined → IsCoreFault programs set fault
fault_of_logs programs logs set fault examined says on is =
    go (least_of core_fault_cmp (core_faults programs logs)) refl
    (sym says ∙ is.verdict)
    (subst (IsBasisOf (least_of core_fault_cmp (core_faults programs logs)) logs) on is.basis)
  where
    go : (o : Option RuleFault) → least_of core_fault_cmp (core_faults programs logs) ≡ o → No fault ≡ verdict_with o logs → IsBasisOf o logs (Logs set) → IsCoreFault programs set fault
    go None least v g = absurd g
    go (Some f) least v g =
        subst (λ (ls : List (List Record)). IsCoreFault programs ls fault) (sym g)
        (f, is_least (core_faults programs logs) f least, same_fault fault (from_core f) v)

-- ---- on the index

-- a record is found by its id
of_id-In : (es : List Entry) (e : Entry) → In e es → of_id es e.id ≡ None → ⊥
of_id-In [] e p none = p
of_id-In (x ∷ es) e p none = go (is_same_id x.id e.id) refl none p (of_id-In es e)
  where
    go : (b : Bool) → is_same_id x.id e.id ≡ b → cond b (Some x) (of_id es e.id) ≡ None → In e (x ∷ es) → (In e es → of_id es e.id ≡ None → ⊥) → ⊥
    go true is found q rest = cc
    go false is found (inl same) rest = (let t : is_same_id x.id e.id ≡ true = ap (λ (y : Entry). is_same_id y.id e.id) same ∙ same_id-refl e.id in cc)
    go false is found (inr q) rest = rest q found

-- a record has the id of the least fault
least_has_record : (es : List Entry) (f : AddressFault) → least_address_fault es ≡ Some f → of_id es (from_address f).id ≡ None → ⊥
least_has_record es f least none =
    let there : In f (address_faults es) = (subst (IsLeastIn fault_cmp (address_faults es)) least (least_is fault_cmp fault_total (address_faults es))).0 in
    let of = filter_map-In (address_fault es) es f there in
    let key = key_of_fault of.0.logged.act of.0 (right_store es of.0) f of.2 in
    let id : (from_address f).id ≡ of.0.id = λ i. record { core = (key i).core; index = (key i).index } in
    of_id-In es of.0 of.1 (subst (λ (x : OpId). of_id es x ≡ None) id none)

-- where the verdict stands on the index, a record has the id of its fault
pub fault_of_index : (programs : Option (List (List Instruction))) (logs : List (List Record)) (es : List Entry) (fault : FaultParts) (examined : Examined)
    → examined.verdict ≡ No fault → examined.basis ≡ Index es → IsExaminationOf programs logs examined → of_id es fault.id ≡ None → ⊥
fault_of_index programs logs es fault examined says on is none =
    go (least_of core_fault_cmp (core_faults programs logs))
    (sym says ∙ is.verdict)
    (subst (IsBasisOf (least_of core_fault_cmp (core_faults programs logs)) logs) on is.basis)
  where
    by_least : (o : Option AddressFault) → least_address_fault (entries logs) ≡ o → IsPermutation (entries logs) es → No fault ≡ verdict_with None logs → ⊥
    by_least None least same v = let t : No fault ≡ Yes (length (entries logs)) = v ∙ ap (λ o. option_map_or No (option_map from_address o) (Yes (length (entries logs)))) least in cc
    by_least (Some f) least same v =
        let t : No fault ≡ No (from_address f) = v ∙ ap (λ o. option_map_or No (option_map from_address o) (Yes (length (entries logs)))) least in
        least_has_record es f (fault_in_any_order logs es same ∙ least) (subst (λ (g : FaultParts). of_id es g.id ≡ None) (same_fault fault (from_address f) t) none)

    go : (o : Option RuleFault) → No fault ≡ verdict_with o logs → IsBasisOf o logs (Index es) → ⊥
    go (Some f) v g = g
    go None v g = by_least (least_address_fault (entries logs)) refl g.0 v

-- what holds of a result holds of it by what follows from it
pub on_ok : {A E : Type 0} (result : Result A E) (P Q : A → Type 0) → ((a : A) → P a → Q a) → IfOk result P → IfOk result Q
on_ok (Ok a) P Q f h = f a h
on_ok (Err e) P Q f h = tt
