-- What was written where there is no Yes.
use Rattle.std.specs.Prelude.{Err, ◌≡◌, ℕ, ◌<◌, true, false, List, [], ◌∷◌, ◌++◌, refl, Option, Some, None, Result, Ok, length, map, replicate, slice_get, take}
use Rattle.std.proofs.Common.{sym, ◌∙◌, ap, subst, inl, inr, arith, append_assoc}
use Rattle.std.proofs.lemmas.List.{length-map, length-replicate}
use Rattle.std.proofs.lemmas.Option.{get_or_from_slice_get, option_and_then_some, slice_get_within}
use Rattle.line_stamps.specs.Ordered.{In, IsLeastIn}
use Rattle.line_stamps.proofs.Ordered.{In-append_left, In-from_sorted, In-filter_map, filter_map-In, least_is, none_from_least}
use Rattle.log_record.specs.declared.record.Record.{Record}
use Rattle.log_record.specs.declared.record.Entry.{Entry}
use Rattle.log_record.specs.Entries.{entries, entry_cmp, key_of, record_at}
use Rattle.log_record.proofs.EntryFacts.{at, entry_of_record, same_record}
use Rattle.mem_op.specs.declared.id.OpId.{OpId}
use Rattle.core_check.specs.CoreOrder.{is_core_fault}
use Rattle.address_check.specs.declared.fault.AddressFault.{AddressFault}
use Rattle.address_check.specs.AddressFaults.{address_fault, address_faults, least_address_fault, right_store}
use Rattle.address_check.specs.FaultOrder.{fault_cmp}
use Rattle.address_check.specs.AddressLaw.{fault_total}
use Rattle.address_check.proofs.StorePass.{key_of_fault}
use Rattle.log_file.specs.Sets.{SpellSet, text_at}
use Rattle.verdict.specs.declared.answer.Verdict.{Verdict}
use Rattle.merge_judge.specs.declared.merge_fault.MergeFault.{MergeFault}
use Rattle.merge_judge.specs.declared.merge_fault.MergeFault.TheVariants.{Judge}
use Rattle.verdict.specs.declared.judge_fault.JudgeFault.{JudgeFault}
use Rattle.verdict.specs.declared.answer.Verdict.TheVariants.{No}
use Rattle.verdict.specs.FaultParts.{FaultParts}
use Rattle.verdict.specs.Faults.{from_address}
use Rattle.verdict.proofs.SerialOrder.{in_set_by_key}
use Rattle.verdict.specs.ByKey.{by_key}
use Rattle.verdict.specs.Judgement.{IsYes}
use Rattle.log_file.proofs.Devices.{told}
use Rattle.merge_judge.specs.Begun.{BeginsLog, BeginsOrder, EndBefore}
use Rattle.merge_judge.specs.OrderText.{id_lines}
use Rattle.merge_judge.specs.LaneParts.{LaneParts}
use Rattle.merge_judge.specs.inner.Lanes.{NoFalls, front_list, log_at}
use Rattle.merge_judge.specs.inner.FinalVerdict.{AreBegun, IsFaultIn}
use Rattle.log_file.specs.Log.{Spells}
use Rattle.merge_judge.proofs.Along.{after_is_fault}
use Rattle.merge_judge.proofs.Begins.{begins_front}
use Rattle.merge_judge.proofs.Falls.{fall_left}
use Rattle.merge_judge.proofs.WritingFacts.{front_of}
use Rattle.merge_judge.proofs.Opening.{no_entries, none_there}
use Rattle.merge_judge.proofs.Places.{there}
use Rattle.merge_judge.proofs.Shown.{IsShown, none_yes, yes_where}

-- what is written of the ids that are shown
pub begins_order : (texts : List (List ℕ)) (result : Result Verdict MergeFault) (order : List OpId) (merged : List (List Record)) (done : List Entry) (lanes : List LaneParts) (written kept : List ℕ) → (s : IsShown order merged done lanes) → AreBegun texts lanes merged → written ++ kept ≡ id_lines order
    → EndBefore texts result s.logs → BeginsOrder texts result written
begins_order texts result order merged done lanes written kept s begun lines before = record {
  logs = s.logs;
  begun = record {
    many = s.many ∙ begun.many;
    each = λ k w. (let b = s.begins k in let l = there lanes k (omega (arith, w, begun.lanes_many)) in
        begins_front k (length texts) (text_at texts k) (log_at s.logs k) (b.0 ++ front_list l.0.front)
        (subst (λ rs. BeginsLog k (length texts) (text_at texts k) rs) (ap (λ rs. rs ++ front_list l.0.front) (sym b.1) ∙ append_assoc (log_at s.logs k) b.0 (front_list l.0.front)) (begun.each k l.0 l.1).begins));
  };
  next = λ k w. (let l = there lanes k (omega (arith, w, begun.lanes_many)) in elim (s.next k l.0 l.1) [
    | inl ends ↦ inl (subst (λ rs. Spells k (length texts) (text_at texts k) rs) (sym ends.2) ((begun.each k l.0 l.1).whole ends.0 ends.1))
    | inr more ↦ elim more [
      | inl t ↦ inr (inl (
        t.0,
        (
          begins_front k (length texts) (text_at texts k) (log_at s.logs k ++ t.0 ∷ []) t.1.0
              (subst (λ rs. BeginsLog k (length texts) (text_at texts k) rs) (sym t.1.1 ∙ sym (append_assoc (log_at s.logs k) (t.0 ∷ []) t.1.0)) (begun.each k l.0 l.1).begins),
          t.1.2,
        ),
      ))
      | inr none ↦ inr (inr none)
    ]
  ]);
  yes = subst IsYes (sym (yes_where s.logs s.rises s.right)) tt;
  before = before;
  lines = (length written, sym (front_of written kept (id_lines order) lines) ∙ ap (λ ids. take (length written) (id_lines ids)) s.order_is);
}

-- no record of the texts
pub none_begins : {S : Type 0} (remaining : S → Option (List ℕ)) (readers : List S) (f : JudgeFault) → BeginsOrder (map (λ reader. told (remaining reader)) readers) (Err (Judge f)) []
none_begins remaining readers f =
    let n = length readers in
    record {
      logs = replicate n [];
      begun = record {
        many = length-replicate n [] ∙ sym (length-map readers (λ reader. told (remaining reader)));
        each = λ k w. inl (none_there n k);
      };
      next = λ k w. inr (inr (no_entries 0 n));
      yes = subst IsYes (sym (none_yes n)) tt;
      before = tt;
      lines = (0, refl);
    }

-- ---- before the fault

split_at : (e : Entry) (es : List Entry) → In e es → (front : List Entry) × ((back : List Entry) × (es ≡ front ++ e ∷ back))
split_at e [] p = absurd p
split_at e (x ∷ es) (inl same) = ([], (es, ap (λ y. y ∷ es) same))
split_at e (x ∷ es) (inr p) = let t = split_at e es p in (x ∷ t.0, (t.1.0, ap (λ ys. x ∷ ys) t.1.1))

nothing_there : (o : Option Record) → ((r : Record) → o ≡ Some r → ⊥) → o ≡ None
nothing_there None h = refl
nothing_there (Some r) h = absurd (h r refl)

module _ (order : List OpId) (merged : List (List Record)) (done : List Entry) (lanes : List LaneParts) (s : IsShown order merged done lanes) where
  -- a record that falls isn't shown
  fall_not_shown : (id : OpId) → is_core_fault (log_at merged id.core) id.index ≡ true → (r : Record) → record_at s.logs id ≡ Some r → ⊥
  fall_not_shown id fall r h = option_and_then_some (λ (log : List Record). slice_get log id.index) (slice_get s.logs id.core) r h (λ log place there. (
      let same : log_at s.logs id.core ≡ log = get_or_from_slice_get s.logs id.core log [] place in
      let low : id.index < length (log_at s.logs id.core) = subst (λ rs. id.index < length rs) (sym same) (slice_get_within log id.index r there) in
      let b = s.begins id.core in
      let steady : is_core_fault (log_at s.logs id.core) id.index ≡ false = ap (λ rs. is_core_fault rs id.index) same ∙ s.rises id.core log place id.index in
      let falls : is_core_fault (log_at s.logs id.core) id.index ≡ true = sym (fall_left (log_at s.logs id.core) b.0 id.index low) ∙ ap (λ rs. is_core_fault rs id.index) b.1 ∙ fall in
      cc))

  module _ (by_key_is : done ≡ by_key merged) where
    whole_is : by_key merged ≡ by_key s.logs ++ s.first.0
    whole_is = sym (s.first.1 ∙ by_key_is)

    -- nor is one that has a fault by its address
    shown_is_right : (e : Entry) (f : AddressFault) → In e (entries s.logs) → address_fault (entries merged) e ≡ Some f → ⊥
    shown_is_right e f p h =
        let t = split_at e (by_key s.logs) (In-from_sorted entry_cmp e (entries s.logs) p) in
        let is : by_key merged ≡ t.0 ++ e ∷ (t.1.0 ++ s.first.0) = whole_is ∙ ap (λ es. es ++ s.first.0) t.1.1 ∙ append_assoc t.0 (e ∷ t.1.0) s.first.0 in
        let same : address_fault (entries s.logs) e ≡ Some f = sym (after_is_fault s.logs t.0 e t.1.0 t.1.1) ∙ after_is_fault merged t.0 e (t.1.0 ++ s.first.0) is ∙ h in
        none_from_least fault_cmp (address_faults (entries s.logs)) f s.right (In-filter_map (address_fault (entries s.logs)) (entries s.logs) e f p same)

    in_merged : (e : Entry) → In e (entries s.logs) → In e (entries merged)
    in_merged e p = in_set_by_key merged e (subst (λ es. In e es) (sym whole_is) (In-append_left e (by_key s.logs) s.first.0 (In-from_sorted entry_cmp e (entries s.logs) p)))

    fault_not_shown : (f : AddressFault) → least_address_fault (entries merged) ≡ Some f → (r : Record) → record_at s.logs (from_address f).id ≡ Some r → ⊥
    fault_not_shown f least r h =
        let is_least : IsLeastIn fault_cmp (address_faults (entries merged)) (Some f) = subst (λ o. IsLeastIn fault_cmp (address_faults (entries merged)) o) least (least_is fault_cmp fault_total (address_faults (entries merged))) in
        let t = filter_map-In (address_fault (entries merged)) (entries merged) f is_least.0 in
        let key : f.key ≡ key_of t.0 = key_of_fault t.0.logged.act t.0 (right_store (entries merged) t.0) f t.2 in
        let id : (from_address f).id ≡ t.0.id = (λ i. record { core = (key i).core; index = (key i).index }) in
        let e : Entry = at t.0.id r in
        let p : In e (entries s.logs) = entry_of_record s.logs t.0.id r (subst (λ x. record_at s.logs x ≡ Some r) id h) in
        let logged : t.0.logged ≡ r = same_record merged t.0 e t.1 (in_merged e p) refl in
        let same : t.0 ≡ e = (λ i. record { id = t.0.id; logged = logged i }) in
        shown_is_right e f p (subst (λ x. address_fault (entries merged) x ≡ Some f) same t.2)

  pub before_fault : (texts : List (List ℕ)) (fault : FaultParts) → (NoFalls lanes → done ≡ by_key merged) → SpellSet texts merged → IsFaultIn lanes merged fault → EndBefore texts (Ok (No fault)) s.logs
  before_fault texts fault by_key_is spells (inl (rule, fall)) = (nothing_there (record_at s.logs fault.id) (fall_not_shown fault.id fall), inl rule)
  before_fault texts fault by_key_is spells (inr (steady, (f, least, is))) = (
    nothing_there (record_at s.logs fault.id) (λ r h. fault_not_shown (by_key_is steady) f least r (subst (λ x. record_at s.logs x.id ≡ Some r) is h)),
    inr (merged, (spells, (s.first.0, whole_is (by_key_is steady)))),
  )
