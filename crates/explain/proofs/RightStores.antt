-- The last store before an operation in its group is its right store among all.
use Rattle.std.proofs.Common.{◌≡◌, ◌∙◌, true, cond, ◌==◌, List, [], ◌∷◌, Option, Some, None, find, filter, reverse, refl, sym, ap, subst, inl, inr, arith, Less, is_lt}
use Rattle.std.specs.Prelude.{Bool, false, ◌&&◌, not}
use Rattle.std.specs.Option.{is_none, option_map_or, option_or}
use Rattle.std.specs.Ordering.{flip_args}
use Rattle.std.proofs.lemmas.Bool.{cases_Bool}
use Rattle.std.proofs.lemmas.Bool.Decides.{nat_tests}
use Rattle.std.proofs.lemmas.Cmp.{back_total}
use Rattle.std.proofs.lemmas.List.{reverse-append}
use Rattle.std.proofs.lemmas.List.Folds.{find-append}
use Rattle.line_stamps.specs.Ordered.{Ascends, IsGreatest, IsLeastIn}
use Rattle.line_stamps.proofs.Ordered.{In-filter, last_is_greatest, least_is}
use Rattle.log_record.specs.declared.record.Entry.{Entry}
use Rattle.log_record.specs.Entries.{entry_cmp}
use Rattle.address_check.specs.AddressFaults.{is_earlier_store, latest, right_store}
use Rattle.address_check.specs.Groups.{IsGroup, at_address}
use Rattle.address_check.proofs.ByAddress.{right_in_group}
use Rattle.address_check.proofs.Pairs.{EachPair-from_all, EachPair-weaken}
use Rattle.address_check.proofs.Totals.{entry_total}
use Rattle.explain.specs.Times.{is_right_earlier, rule_with}

-- of entries that ascend by key, the one with the greatest key that passes a test is the last one that does
last_passing : (p : Entry → Bool) (es : List Entry) → Ascends entry_cmp es → latest (filter p es) ≡ find p (reverse es)
last_passing p [] up = refl
last_passing p (x ∷ xs) up =
    go (find p (reverse xs)) (last_is_greatest entry_cmp entry_total p xs up.1) (filter p xs) (last_passing p xs up.1)
    ∙ sym (ap (find p) (reverse-append (x ∷ []) xs) ∙ find-append p (reverse xs) (x ∷ []))
  where
    go : (r : Option Entry) → IsGreatest entry_cmp p xs r → (fs : List Entry) → latest fs ≡ r → latest (cond (p x) (x ∷ fs) fs) ≡ option_or r (cond (p x) (Some x) None)
    go None n fs is = elim (cases_Bool (p x)) [ inl t ↦ rw (t, is) refl | inr f ↦ rw f is ]
    go (Some s) n fs is = elim (cases_Bool (p x)) [ inl t ↦ rw (t, is, up.0 s n.0) refl | inr f ↦ rw f is ]

pub right_is_last : (group : List Entry) (e : Entry) → IsGroup group → find (is_earlier_store e) (reverse group) ≡ right_store group e
right_is_last group e is =
    sym (last_passing (is_earlier_store e) group (EachPair-weaken (λ x y. entry_cmp x y ≡ Less) (λ x y. is_lt (entry_cmp x y) ≡ true) group (λ x y less. ap is_lt less)
    (EachPair-from_all (λ x y. entry_cmp x y ≡ Less) group is.ascends)))

-- whether a load would be right just before that store is told by the records of its address
pub earlier_in_group : (es : List Entry) (load : Entry) → is_right_earlier (at_address load.logged.addr es) load ≡ is_right_earlier es load
earlier_in_group es load = rw (right_in_group es load.logged.addr load refl) (go (right_store es load) refl)
  where
    group : List Entry
    group = at_address load.logged.addr es

    same_address : (s : Entry) → right_store es load ≡ Some s → s.logged.addr ≡ load.logged.addr
    same_address s is =
        let least : IsLeastIn (flip_args entry_cmp) (filter (is_earlier_store load) es) (Some s) =
        subst (IsLeastIn (flip_args entry_cmp) (filter (is_earlier_store load) es)) is (least_is (flip_args entry_cmp) (back_total entry_total) (filter (is_earlier_store load) es)) in
        let passes : is_earlier_store load s ≡ true = (In-filter (is_earlier_store load) es s least.0).1 in
        grind (arith, nat_tests)

    go : (r : Option Entry) → right_store es load ≡ r
        → option_map_or (λ store. not (store.id.core == load.id.core) && is_none (rule_with load (right_store group store))) r false
        ≡ option_map_or (λ store. not (store.id.core == load.id.core) && is_none (rule_with load (right_store es store))) r false
    go None is = refl
    go (Some s) is = ap (λ (o : Option Entry). not (s.id.core == load.id.core) && is_none (rule_with load o)) (right_in_group es load.logged.addr s (same_address s is))
