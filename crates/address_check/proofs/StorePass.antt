-- The pass over entries by address and then by key that keeps the last store.
use Rattle.std.proofs.Common.{◌≡◌, ℕ, ◌+◌, ◌<◌, true, cond, ◌==◌, List, [], ◌∷◌, ◌++◌, Option, Some, None, find, reverse, take, length, filter, refl, slice_get, sym, ◌∙◌, ap, subst, inl, inr, arith, get_or, Ordering, Less, Equal, filter_map, is_lt}
use Rattle.std.specs.Option.{option_or}
use Rattle.std.specs.Ordering.{flip_args}
use Rattle.std.proofs.lemmas.Bool.{cases_Bool}
use Rattle.std.proofs.lemmas.Bool.Decides.{nat_tests}
use Rattle.std.proofs.lemmas.Cmp.{back_total, tied_back}
use Rattle.std.proofs.lemmas.List.{take_more, reverse-append}
use Rattle.std.proofs.lemmas.List.Elements.{filter_map-append}
use Rattle.std.proofs.lemmas.List.Folds.{find-append}
use Rattle.std.proofs.lemmas.Option.{slice_get_read}
use Rattle.line_stamps.specs.Least.{lesser, least_of}
use Rattle.line_stamps.specs.Ordered.{In, Ascends, IsGreatest}
use Rattle.line_stamps.proofs.Joined.{least_of-append}
use Rattle.line_stamps.proofs.Ordered.{In-take, In-filter, In-filtered, Ascends-take, before_from_take, take_from_before, last_is_greatest, same_least}
use Rattle.log_record.specs.declared.record.Entry.{Entry}
use Rattle.log_record.specs.declared.act.Act.{Act}
use Rattle.log_record.specs.declared.act.Act.TheVariants.{Load, Store, Swap}
use Rattle.log_record.specs.Entries.{key_of, entry_cmp}
use Rattle.address_check.specs.declared.fault.AddressFault.{AddressFault}
use Rattle.address_check.specs.contracts.fault.AddressFaultOrd.TheImpl.{ghosts}
use Rattle.address_check.specs.FaultOrder.{fault_cmp}
use Rattle.address_check.specs.AddressLaw.{fault_total, derived_cmp}
use Rattle.address_check.specs.AddressFaults.{is_earlier_store, latest, right_store, act_fault, address_fault}
use Rattle.address_check.specs.Groups.{place_cmp, AscendsByPlace}
use Rattle.address_check.specs.LastStores.{is_store_entry, last_store, at_its_address}
use Rattle.address_check.proofs.Pairs.{EachPair-from_all, EachPair-weaken, filter-within, one_of_unrelated}
use Rattle.address_check.proofs.Totals.{entry_total, place_total}
use Rattle.address_check.proofs.Window.{by_key}

-- ---- the last store before an entry

pub places_ascend : (es : List Entry) → AscendsByPlace es → Ascends place_cmp es
places_ascend es h = EachPair-weaken (λ x y. place_cmp x y ≡ Less) (λ x y. is_lt (place_cmp x y) ≡ true) es (λ x y e. ap is_lt e) (EachPair-from_all (λ x y. place_cmp x y ≡ Less) es h)

-- what comes between an entry and an earlier store to its address is at this address too
at_home : (e s x : Entry) → is_lt (place_cmp x s) ≡ true → is_lt (place_cmp s e) ≡ true → is_earlier_store e x ≡ true → ((s.logged.addr == e.logged.addr) ≡ true) × (is_lt (entry_cmp x s) ≡ true)
at_home e s x p q t = (grind (arith, nat_tests), ap is_lt (sym (by_key x s (grind (arith, nat_tests)))) ∙ p)

-- of entries that all come before `e`
latest_is_last : (e : Entry) (es : List Entry) → Ascends place_cmp es → ((x : Entry) → In x es → is_lt (place_cmp x e) ≡ true) → latest (filter (is_earlier_store e) es) ≡ at_its_address e (last_store es)
latest_is_last e [] up before = refl
latest_is_last e (x ∷ xs) up before =
    go (last_store xs) (last_is_greatest place_cmp place_total is_store_entry xs up.1) (filter (is_earlier_store e) xs) (latest_is_last e xs up.1 (λ y p. before y (inr p)))
    ∙ ap (at_its_address e) (sym (ap (find is_store_entry) (reverse-append (x ∷ []) xs) ∙ find-append is_store_entry (reverse xs) (x ∷ [])))
  where
    go : (r : Option Entry) → IsGreatest place_cmp is_store_entry xs r → (fs : List Entry) → latest fs ≡ at_its_address e r → latest (cond (is_earlier_store e x) (x ∷ fs) fs) ≡ at_its_address e (option_or r (cond (is_store_entry x) (Some x) None))
    go None n fs is = grind (arith, nat_tests, before x (inl refl))
    go (Some s) n fs is = elim (cases_Bool (is_earlier_store e x)) [
      | inl t ↦ (let home = at_home e s x (up.0 s n.0) (before s (inr n.0)) t in rw (t, is, home.0, home.1) refl)
      | inr f ↦ rw f is
    ]

-- the last store before an entry is its right store, where it is at the entry's address; else there is none
pub right_is_last : (es : List Entry) (k : ℕ) (e : Entry) → AscendsByPlace es → slice_get es k ≡ Some e → right_store es e ≡ at_its_address e (last_store (take k es))
right_is_last es k e h g =
    same_least (flip_args entry_cmp) (back_total entry_total) (filter (is_earlier_store e) es) (filter (is_earlier_store e) (take k es)) one
    (λ x p. let t = In-filter (is_earlier_store e) es x p in In-filtered (is_earlier_store e) (take k es) x (take_from_before place_cmp place_total es k e x up g t.0 (before x t.1)) t.1)
    (filter-within (is_earlier_store e) (take k es) es (λ x. In-take x k es))
    ∙ latest_is_last e (take k es) (Ascends-take place_cmp place_total k es up) (λ x p. before_from_take place_cmp place_total es k e x up g p)
  where
    up : Ascends place_cmp es
    up = places_ascend es h

    before : (x : Entry) → is_earlier_store e x ≡ true → is_lt (place_cmp x e) ≡ true
    before x t = grind (arith, nat_tests)

    one : (x y : Entry) → In x (filter (is_earlier_store e) es) → In y (filter (is_earlier_store e) es) → entry_cmp y x ≡ Equal → x ≡ y
    one x y p q tied =
        let s = In-filter (is_earlier_store e) es x p in
        let t = In-filter (is_earlier_store e) es y q in
        let tie : place_cmp y x ≡ Equal = by_key y x (grind (arith, nat_tests)) ∙ tied in
        let back = tied_back place_total y x tie in
        one_of_unrelated (λ a b. is_lt (place_cmp a b) ≡ true) es x y up s.0 t.0 (λ l. cc) (λ l. cc)

-- what an entry breaks by the last store before it is its fault
pub fault_at : (es : List Entry) (k : ℕ) (e : Entry) → AscendsByPlace es → k < length es → e ≡ get_or es k e → act_fault e.logged.act e (at_its_address e (last_store (take k es))) ≡ address_fault es e
fault_at es k e h l at = ap (act_fault e.logged.act e) (sym (right_is_last es k e h (slice_get_read es (length es) k e refl l at)))

-- ---- one entry more

take_here : (es : List Entry) (k : ℕ) (e : Entry) → k < length es → e ≡ get_or es k e → take (k + 1) es ≡ take k es ++ e ∷ []
take_here es k e l at = take_more es k e l ∙ ap (λ v. take k es ++ v ∷ []) (sym at)

pub last_more : (es : List Entry) (k : ℕ) (e : Entry) → k < length es → e ≡ get_or es k e → last_store (take (k + 1) es) ≡ cond (is_store_entry e) (Some e) (last_store (take k es))
last_more es k e l at = ap last_store (take_here es k e l at) ∙ ap (find is_store_entry) (reverse-append (take k es) (e ∷ []))

-- the least fault of some entries among all
abbrev pub least_among : List Entry → List Entry → Option AddressFault
least_among all es = least_of fault_cmp (filter_map (address_fault all) es)

pub least_more : (es : List Entry) (k : ℕ) (e : Entry) → k < length es → e ≡ get_or es k e → least_among es (take (k + 1) es) ≡ lesser ghosts.cmp (least_among es (take k es)) (address_fault es e)
least_more es k e l at =
    subst (λ (R : AddressFault → AddressFault → Ordering). least_among es (take (k + 1) es) ≡ lesser R (least_among es (take k es)) (address_fault es e)) derived_cmp
    (ap (least_among es) (take_here es k e l at)
    ∙ ap (least_of fault_cmp) (filter_map-append (address_fault es) (take k es) (e ∷ []))
    ∙ least_of-append fault_cmp fault_total (filter_map (address_fault es) (take k es)) (filter_map (address_fault es) (e ∷ []))
    ∙ grind arith)

pub lesser_none : (R : AddressFault → AddressFault → Ordering) (o : Option AddressFault) → lesser R o None ≡ o
lesser_none R None = refl
lesser_none R (Some f) = refl

-- ---- the key of a fault

-- a fault has the key of its entry
pub key_of_fault : (act : Act) (e : Entry) (r : Option Entry) (f : AddressFault) → act_fault act e r ≡ Some f → f.key ≡ key_of e
key_of_fault Store e r f h = cc
key_of_fault (Load source) e r f h = grind arith
key_of_fault (Swap source read) e r f h = grind arith
