-- The records whose ids are written: those that were merged before a fault was found.
use Rattle.std.specs.Prelude.{◌<◌, ◌⊎◌, ◌≡◌, ℕ, zero, suc, ◌&&◌, Bool, true, false, List, [], ◌∷◌, ◌++◌, refl, Option, Some, None, is_none, length, map, replicate, slice_get}
use Rattle.std.specs.Option.{option_map, option_map_or}
use Rattle.std.proofs.Common.{inl, inr, sym, ◌∙◌, ap, subst, arith, append_assoc, append-nil}
use Rattle.std.specs.Ordering.{is_lt}
use Rattle.std.proofs.lemmas.Bool.{cases_eq}
use Rattle.std.proofs.lemmas.Option.{get_or_from_slice_get, slice_get_within}
use Rattle.line_stamps.specs.Ordered.{In, sorted}
use Rattle.line_stamps.proofs.Ordered.{In-from_sorted}
use Rattle.log_record.specs.declared.record.Record.{Record}
use Rattle.log_record.specs.declared.record.Entry.{Entry}
use Rattle.log_record.specs.Entries.{entries, entry_cmp}
use Rattle.mem_op.specs.declared.id.OpId.{OpId}
use Rattle.core_program.specs.Least.{IsLeastWhere}
use Rattle.core_check.specs.CoreOrder.{is_core_fault}
use Rattle.core_check.specs.CoreFaults.{least_core_fault}
use Rattle.core_check.proofs.OrderFaultFacts.{fault_in_log}
use Rattle.address_check.specs.declared.fault.AddressFault.{AddressFault}
use Rattle.address_check.specs.AddressFaults.{least_address_fault}
use Rattle.verdict.specs.ByKey.{by_key, ids_by_key}
use Rattle.verdict.specs.declared.answer.Verdict.TheVariants.{Yes, No}
use Rattle.verdict.specs.Faults.{from_address}
use Rattle.verdict.specs.VerdictOf.{verdict_of, verdict_with}
use Rattle.merge_judge.specs.LaneParts.{LaneParts}
use Rattle.merge_judge.specs.inner.Lanes.{AreSound, IsMerged, IsTaken, add, entry_at, front_list, log_at}
use Rattle.merge_judge.specs.inner.Memory.{first_along}
use Rattle.merge_judge.proofs.Added.{add_here, add_long, add_other}
use Rattle.merge_judge.proofs.Along.{along_is_least}
use Rattle.merge_judge.proofs.Falls.{fall_past, never_front}
use Rattle.merge_judge.proofs.FinalVerdict.{least_core}
use Rattle.merge_judge.proofs.Opening.{no_entries}
use Rattle.merge_judge.proofs.Places.{there}

abbrev pub ids : List Entry → List OpId
ids done = map (λ e. e.id) done

-- the order with one more id, or without it
abbrev pub order_where : Bool → List OpId → OpId → List OpId
order_where true order id = order ++ id ∷ []
order_where false order id = order

-- no record of the logs falls
abbrev pub Rises : List (List Record) → Type 0
Rises logs = (k : ℕ) (log : List Record) → slice_get logs k ≡ Some log → (i : ℕ) → is_core_fault log i ≡ false

-- where none does, and no record has a fault by its address, the verdict is Yes
none_of_order : (logs : List (List Record)) → Rises logs → None ≡ least_core_fault logs
none_of_order logs rises = least_core logs None (λ f p. (let t = fault_in_log logs f p in let a = rises f.id.core t.log t.place f.id.index in let b = t.falls_there in cc))

pub yes_where : (logs : List (List Record)) → Rises logs → least_address_fault (entries logs) ≡ None → verdict_of logs ≡ Yes (length (entries logs))
yes_where logs rises right =
    ap (λ o. verdict_with o logs) (sym (none_of_order logs rises))
    ∙ ap (λ o. option_map_or No (option_map from_address o) (Yes (length (entries logs)))) right

-- After the shown records of a core its log has ended without a fault; or one more was read, which comes after all of them; or
-- none are shown.
abbrev pub EndsHere : List (List Record) → List (List Record) → ℕ → LaneParts → Type 0
EndsHere logs merged k lane = (lane.front ≡ None) × (lane.fault ≡ None) × (log_at logs k ≡ log_at merged k)

abbrev pub GoesOn : List (List Record) → List (List Record) → ℕ → LaneParts → Type 0
GoesOn logs merged k lane =
    (r : Record) × ((rest : List Record) × (log_at logs k ++ r ∷ rest ≡ log_at merged k ++ front_list lane.front)
    × ((x : Entry) → In x (entries logs) → is_lt (entry_cmp x (entry_at k (length (log_at logs k)) r)) ≡ true))

-- The ids are those of these first records of the logs that were merged, and of the entries that were done. None has a fault.
pub record IsShown (order : List OpId) (merged : List (List Record)) (done : List Entry) (lanes : List LaneParts) : Type 0 where
  pub logs : List (List Record)
  pub many : length logs ≡ length merged
  pub begins : (k : ℕ) → (rest : List Record) × (log_at logs k ++ rest ≡ log_at merged k)
  pub rises : Rises logs
  pub right : least_address_fault (entries logs) ≡ None
  pub order_is : order ≡ ids_by_key logs
  pub first : (later : List Entry) × (by_key logs ++ later ≡ done)
  pub next : (k : ℕ) (lane : LaneParts) → slice_get lanes k ≡ Some lane → EndsHere logs merged k lane ⊎ (GoesOn logs merged k lane ⊎ (entries logs ≡ []))

-- ---- at first

nothing_rises : (n : ℕ) → Rises (replicate n [])
nothing_rises zero k log h i = absurd cc
nothing_rises (suc n) zero log h i = let e : [] ≡ log = cc in subst (λ rs. is_core_fault rs i ≡ false) e (fall_past [] i (omega arith))
nothing_rises (suc n) (suc k) log h i = nothing_rises n k log h i

pub shown_none : (n : ℕ) (lanes : List LaneParts) → IsShown [] (replicate n []) [] lanes
shown_none n lanes = record {
  logs = replicate n [];
  many = refl;
  begins = λ k. ([], append-nil (log_at (replicate n []) k));
  rises = nothing_rises n;
  right = ap least_address_fault (no_entries 0 n);
  order_is = sym (ap (λ es. ids (sorted entry_cmp es)) (no_entries 0 n));
  first = ([], append-nil (by_key (replicate n [])) ∙ ap (sorted entry_cmp) (no_entries 0 n));
  next = λ k lane h. inr (inr (no_entries 0 n));
}

pub none_yes : (n : ℕ) → verdict_of (replicate n []) ≡ Yes (length (entries (replicate n [])))
none_yes n = yes_where (replicate n []) (nothing_rises n) (ap least_address_fault (no_entries 0 n))

-- ---- one more record

grows : (logs : List (List Record)) (core k : ℕ) (r : Record) → (more : List Record) × (log_at logs k ++ more ≡ log_at (add logs core r) k)
grows [] core k r = ([], refl)
grows (log ∷ logs) zero zero r = (r ∷ [], refl)
grows (log ∷ logs) zero (suc k) r = ([], append-nil (log_at logs k))
grows (log ∷ logs) (suc core) zero r = ([], append-nil log)
grows (log ∷ logs) (suc core) (suc k) r = grows logs core k r

module _ (order : List OpId) (merged : List (List Record)) (done : List Entry) (e : Entry) (old new : List LaneParts) (taken : IsTaken e.id.core e.logged old new) (inside : e.id.core < length merged) (h : IsShown order merged done old) where
  abbrev merged_new : List (List Record)
  merged_new = add merged e.id.core e.logged

  -- the record that was taken was a front
  at_core : (lane : LaneParts) → EndsHere h.logs merged e.id.core taken.front.0 ⊎ (GoesOn h.logs merged e.id.core taken.front.0 ⊎ (entries h.logs ≡ []))
      → EndsHere h.logs merged_new e.id.core lane ⊎ (GoesOn h.logs merged_new e.id.core lane ⊎ (entries h.logs ≡ []))
  at_core lane (inl ends) = absurd (let a = ends.0 in let b = taken.front.2 in cc)
  at_core lane (inr (inl (r, (rest, is, after)))) = inr (inl (
    r,
    (
      rest ++ front_list lane.front,
      sym (append_assoc (log_at h.logs e.id.core) (r ∷ rest) (front_list lane.front))
          ∙ ap (λ rs. rs ++ front_list lane.front) (is ∙ ap (λ o. log_at merged e.id.core ++ front_list o) taken.front.2 ∙ sym (add_here merged e.id.core e.logged inside)),
      after,
    ),
  ))
  at_core lane (inr (inr none)) = inr (inr none)

  next_still : (k : ℕ) (lane : LaneParts) → slice_get new k ≡ Some lane → EndsHere h.logs merged_new k lane ⊎ (GoesOn h.logs merged_new k lane ⊎ (entries h.logs ≡ []))
  next_still k lane hl = elim (cases_eq k e.id.core) [
    | inl q ↦ rw q (at_core lane (h.next e.id.core taken.front.0 taken.front.1))
    | inr q ↦ rw (add_other merged e.id.core k e.logged q) (h.next k lane (sym (taken.others k q) ∙ hl))
  ]

  shown_still : IsShown order merged_new (done ++ e ∷ []) new
  shown_still = record {
    logs = h.logs;
    many = h.many ∙ sym (add_long merged e.id.core e.logged);
    begins = λ k. (let b = h.begins k in let g = grows merged e.id.core k e.logged in
        (b.0 ++ g.0, sym (append_assoc (log_at h.logs k) b.0 g.0) ∙ ap (λ rs. rs ++ g.0) b.1 ∙ g.1));
    rises = h.rises;
    right = h.right;
    order_is = h.order_is;
    first = (h.first.0 ++ e ∷ [], sym (append_assoc (by_key h.logs) h.first.0 (e ∷ [])) ∙ ap (λ es. es ++ e ∷ []) h.first.1);
    next = next_still;
  }

module _ {S : Type 0} {remaining : S → Option (List ℕ)} {failed : S → ℕ} {before after : List S} {lanes : List LaneParts} where
  shown_now : (merged : List (List Record)) (done : List Entry) (order : List OpId) → IsMerged remaining failed before after lanes true merged done → None ≡ first_along [] done → order ≡ ids done → IsShown order merged done lanes
  shown_now merged done order m none is = record {
    logs = merged;
    many = refl;
    begins = λ k. ([], append-nil (log_at merged k));
    rises = all_rise;
    right = sym (along_is_least merged) ∙ ap (first_along []) (sym sorted_is) ∙ sym none;
    order_is = is ∙ ap ids sorted_is;
    first = ([], append-nil (by_key merged) ∙ sym sorted_is);
    next = λ k l hl. goes_on k l hl l.front refl;
  }
    where
      sound : AreSound lanes
      sound = m.all.clean_is.0 refl

      sorted_is : done ≡ by_key merged
      sorted_is = m.by_key_so_far (λ k l hl. (sound k l hl).0)

      goes_on : (k : ℕ) (l : LaneParts) → slice_get lanes k ≡ Some l → (o : Option Record) → l.front ≡ o → EndsHere merged merged k l ⊎ (GoesOn merged merged k l ⊎ (entries merged ≡ []))
      goes_on k l hl None q = inl (q, (sound k l hl).1, refl)
      goes_on k l hl (Some r) q = inr (inl (
        r,
        (
          [],
          ap (λ o. log_at merged k ++ front_list o) (sym q),
          λ x p. m.come_before (λ j y hy. (sound j y hy).0) x (subst (λ es. In x es) (sym sorted_is) (In-from_sorted entry_cmp x (entries merged) p)) k l r hl q,
        ),
      ))

      all_rise : Rises merged
      all_rise k log h =
          let l = there lanes k (omega (arith, slice_get_within merged k log h, m.all.logs, m.all.many)) in
          let none_falls : IsLeastWhere (is_core_fault (log_at merged k ++ front_list l.0.front)) None =
          subst (λ o. IsLeastWhere (is_core_fault (log_at merged k ++ front_list l.0.front)) o) (sound k l.0 l.1).0 (m.all.lane k l.0 l.1).at.first_fall in
          subst (λ rs. (i : ℕ) → is_core_fault rs i ≡ false) (get_or_from_slice_get merged k log [] h) (never_front (log_at merged k) (front_list l.0.front) none_falls)

  in_merged : (merged : List (List Record)) (done : List Entry) (e : Entry) (clean : Bool) (old : List LaneParts) → IsTaken e.id.core e.logged old lanes
      → IsMerged remaining failed before after lanes clean (add merged e.id.core e.logged) (done ++ e ∷ []) → e.id.core < length merged
  in_merged merged done e clean old taken m =
      omega (arith, slice_get_within old e.id.core taken.front.0 taken.front.1, taken.many, m.all.many, m.all.logs, add_long merged e.id.core e.logged)

  pub shown_more : (merged : List (List Record)) (done : List Entry) (order : List OpId) (e : Entry) (fault : Option AddressFault) (clean : Bool)
      → (old : List LaneParts) → IsTaken e.id.core e.logged old lanes → IsShown order merged done old → IsMerged remaining failed before after lanes clean (add merged e.id.core e.logged) (done ++ e ∷ [])
      → fault ≡ first_along [] (done ++ e ∷ []) → (fault ≡ None → clean ≡ true → order_where (is_none fault && clean) order e.id ≡ ids (done ++ e ∷ []))
      → IsShown (order_where (is_none fault && clean) order e.id) (add merged e.id.core e.logged) (done ++ e ∷ []) lanes
  shown_more merged done order e None true old taken h m first all = shown_now (add merged e.id.core e.logged) (done ++ e ∷ []) (order ++ e.id ∷ []) m first (all refl refl)
  shown_more merged done order e None false old taken h m first all = shown_still order merged done e old lanes taken (in_merged merged done e false old taken m) h
  shown_more merged done order e (Some f) clean old taken h m first all = shown_still order merged done e old lanes taken (in_merged merged done e clean old taken m) h
