-- The first fault along the order of keys is the least.
use Rattle.std.specs.Prelude.{◌≡◌, Bool, true, false, List, [], ◌∷◌, ◌++◌, refl, Option, Some, None, filter_map, length, slice_get, take}
use Rattle.std.specs.List.{cons_option}
use Rattle.std.specs.Option.{option_or}
use Rattle.std.proofs.Common.{sym, ◌∙◌, ap, subst, inl, inr, arith, append_assoc, append-nil, length-append}
use Rattle.std.specs.Ordering.{is_lt}
use Rattle.std.proofs.lemmas.Bool.{and_parts, and_from, false_from_ne_true}
use Rattle.std.proofs.lemmas.List.{get_or_at, take_at}
use Rattle.std.proofs.lemmas.Option.{slice_get-get_or}
use Rattle.line_stamps.specs.KeyOrder.{key_cmp}
use Rattle.line_stamps.specs.Ordered.{In, Ascends, IsGreatest, IsLeastIn}
use Rattle.line_stamps.proofs.Order.{lt_irrefl, lt_asym, lt_cases}
use Rattle.line_stamps.proofs.Ordered.{Ascends-take, In-append_left, In-from_sorted, before_from_take, take_from_before, last_is_greatest, greatest_from_least, In-filter_map, filter_map-In, least_is, one_least}
use Rattle.log_record.specs.declared.record.Record.{Record}
use Rattle.log_record.specs.declared.record.Entry.{Entry}
use Rattle.log_record.specs.Entries.{key_of, entry_cmp, entries}
use Rattle.log_record.proofs.EntryFacts.{same_record}
use Rattle.address_check.specs.declared.fault.AddressFault.{AddressFault}
use Rattle.address_check.specs.FaultOrder.{fault_cmp}
use Rattle.address_check.specs.AddressLaw.{fault_total}
use Rattle.address_check.specs.AddressFaults.{is_earlier_store, right_store, act_fault, address_fault, address_faults, least_address_fault}
use Rattle.address_check.proofs.StorePass.{key_of_fault}
use Rattle.address_check.proofs.Totals.{entry_total, tied_faults, less_by_key}
use Rattle.verdict.specs.ByKey.{by_key}
use Rattle.verdict.proofs.SerialOrder.{by_key-ascends, in_set_by_key, tied_id}
use Rattle.merge_judge.specs.inner.Memory.{fault_after, first_along, last_store_to}
use Rattle.merge_judge.proofs.WordFacts.{stores_to}

-- one more entry
pub first_along-push : (done es : List Entry) (e : Entry) → first_along done (es ++ e ∷ []) ≡ option_or (first_along done es) (fault_after (done ++ es) e)
first_along-push done [] e = go (fault_after done e) ∙ ap (λ xs. fault_after xs e) (sym (append-nil done))
  where
    go : (o : Option AddressFault) → option_or o None ≡ o
    go None = refl
    go (Some f) = refl
first_along-push done (x ∷ es) e =
    ap (option_or (fault_after done x)) (first_along-push (done ++ x ∷ []) es e ∙ ap (λ xs. option_or (first_along (done ++ x ∷ []) es) (fault_after xs e)) (append_assoc done (x ∷ []) es))
    ∙ go (fault_after done x)
  where
    go : (o : Option AddressFault) → option_or o (option_or (first_along (done ++ x ∷ []) es) (fault_after (done ++ x ∷ es) e)) ≡ option_or (option_or o (first_along (done ++ x ∷ []) es)) (fault_after (done ++ x ∷ es) e)
    go None = refl
    go (Some f) = refl

-- two entries of a set neither of which comes before the other are one
untied : (logs : List (List Record)) (a b : Entry) → In a (entries logs) → In b (entries logs) → is_lt (entry_cmp a b) ≡ false → is_lt (entry_cmp b a) ≡ false → a ≡ b
untied logs a b p q not_before not_after = elim (lt_cases entry_cmp entry_total a b) [
  | inl l ↦ cc
  | inr t ↦ elim t [
    | inl tied ↦ (let id : a.id ≡ b.id = tied_id a b tied in
        let logged : a.logged ≡ b.logged = same_record logs a b p q id in
        λ i. record { id = id i; logged = logged i })
    | inr l ↦ cc
  ]
]

one_greatest : (logs : List (List Record)) (p : Entry → Bool) (r s : Option Entry) → IsGreatest entry_cmp p (entries logs) r → IsGreatest entry_cmp p (entries logs) s → r ≡ s
one_greatest logs p None None g h = refl
one_greatest logs p None (Some b) g h = let f = g b h.0 in let k = h.1 in cc
one_greatest logs p (Some a) None g h = let f = h a g.0 in let k = g.1 in cc
one_greatest logs p (Some a) (Some b) g h = ap (λ e. Some e) (untied logs a b g.0 h.0 (g.2 b h.0 h.1) (h.2 a g.0 g.1))

module _ (logs : List (List Record)) (xs : List Entry) (e : Entry) (ys : List Entry) (is : by_key logs ≡ xs ++ e ∷ ys) where
  up : Ascends entry_cmp (xs ++ e ∷ ys)
  up = subst (λ es. Ascends entry_cmp es) is (by_key-ascends logs)

  here : slice_get (xs ++ e ∷ ys) (length xs) ≡ Some e
  here = slice_get-get_or (xs ++ e ∷ ys) (length xs) e (omega (arith, length-append xs (e ∷ ys))) ∙ ap (λ x. Some x) (get_or_at xs e ys e (length xs) refl)

  front : take (length xs) (xs ++ e ∷ ys) ≡ xs
  front = take_at xs (e ∷ ys) (length xs) refl

  pub in_set : (x : Entry) → In x (xs ++ e ∷ ys) → In x (entries logs)
  in_set x p = in_set_by_key logs x (subst (λ es. In x es) (sym is) p)

  in_split : (x : Entry) → In x (entries logs) → In x (xs ++ e ∷ ys)
  in_split x p = subst (λ es. In x es) is (In-from_sorted entry_cmp x (entries logs) p)

  -- an earlier store of the set to its address stands before it
  was_done : (x : Entry) → In x (entries logs) → is_earlier_store e x ≡ true → In x xs × (stores_to e.logged.addr x ≡ true)
  was_done x p t =
      let parts = and_parts (stores_to e.logged.addr x) (is_lt (entry_cmp x e)) t in
      (subst (λ es. In x es) front (take_from_before entry_cmp entry_total (xs ++ e ∷ ys) (length xs) e x up here (in_split x p) parts.1), parts.0)

  last_is_right : (r : Option Entry) → IsGreatest entry_cmp (stores_to e.logged.addr) xs r → IsGreatest entry_cmp (is_earlier_store e) (entries logs) r
  last_is_right None h = λ x p. false_from_ne_true (is_earlier_store e x) (λ t. let w = was_done x p t in let no : stores_to e.logged.addr x ≡ false = h x w.0 in let yes : stores_to e.logged.addr x ≡ true = w.1 in cc)
  last_is_right (Some s) h = (
    in_set s (In-append_left s xs (e ∷ ys) h.0),
    and_from (stores_to e.logged.addr s) (is_lt (entry_cmp s e)) h.1 (before_from_take entry_cmp entry_total (xs ++ e ∷ ys) (length xs) e s up here (subst (λ es. In s es) (sym front) h.0)),
    λ x p t. let w = was_done x p t in h.2 x w.0 w.1,
  )

  -- what an entry breaks after those before it is its fault in the set
  pub after_is_fault : fault_after xs e ≡ address_fault (entries logs) e
  after_is_fault =
      let last : Option Entry = last_store_to e.logged.addr xs in
      ap (act_fault e.logged.act e)
      (one_greatest logs (is_earlier_store e) last (right_store (entries logs) e)
      (last_is_right last (last_is_greatest entry_cmp entry_total (stores_to e.logged.addr) xs (subst (λ es. Ascends entry_cmp es) front (Ascends-take entry_cmp entry_total (length xs) (xs ++ e ∷ ys) up))))
      (greatest_from_least entry_cmp entry_total (is_earlier_store e) (entries logs)))

-- ---- the first fault and the least

abbrev first : List AddressFault → Option AddressFault
first [] = None
first (f ∷ fs) = Some f

module _ (logs : List (List Record)) where
  abbrev fault : Entry → Option AddressFault
  fault = address_fault (entries logs)

  -- the first fault along the order of keys
  along : (xs ys : List Entry) → by_key logs ≡ xs ++ ys → first_along xs ys ≡ first (filter_map fault ys)
  along xs [] is = refl
  along xs (e ∷ ys) is = rw (after_is_fault logs xs e ys is, along (xs ++ e ∷ []) ys (is ∙ sym (append_assoc xs (e ∷ []) ys))) (go (fault e))
    where
      go : (o : Option AddressFault) → option_or o (first (filter_map fault ys)) ≡ first (cons_option o (filter_map fault ys))
      go None = refl
      go (Some f) = refl

  -- no fault of a later entry is less
  first_is_least : (es : List Entry) → Ascends entry_cmp es → IsLeastIn fault_cmp (filter_map fault es) (first (filter_map fault es))
  first_is_least [] ascends = λ x p. p
  first_is_least (e ∷ es) ascends = go (fault e) refl (first_is_least es ascends.1)
    where
      go : (o : Option AddressFault) → fault e ≡ o → IsLeastIn fault_cmp (filter_map fault es) (first (filter_map fault es)) → IsLeastIn fault_cmp (cons_option o (filter_map fault es)) (first (cons_option o (filter_map fault es)))
      go None q later = later
      go (Some f) q later = (
        inl refl,
        λ x p. elim p [
          | inl same ↦ subst (λ z. is_lt (fault_cmp z f) ≡ false) same (lt_irrefl fault_cmp fault_total f)
          | inr r ↦ (let t = filter_map-In fault es x r in
              let a : is_lt (entry_cmp e t.0) ≡ true = ascends.0 t.0 t.1 in
              let b : key_of e ≡ f.key = sym (key_of_fault e.logged.act e (right_store (entries logs) e) f q) in
              let c : key_of t.0 ≡ x.key = sym (key_of_fault t.0.logged.act t.0 (right_store (entries logs) t.0) x t.2) in
              let d : is_lt (key_cmp f.key x.key) ≡ true = subst (λ z. is_lt (key_cmp f.key z) ≡ true) c (subst (λ z. is_lt (key_cmp z (key_of t.0)) ≡ true) b a) in
              lt_asym fault_cmp fault_total f x (less_by_key f x d))
        ],
      )

  pub along_is_least : first_along [] (by_key logs) ≡ least_address_fault (entries logs)
  along_is_least =
      along [] (by_key logs) refl
      ∙ one_least fault_cmp fault_total (filter_map fault (by_key logs)) (address_faults (entries logs)) (first (filter_map fault (by_key logs))) (least_address_fault (entries logs)) (λ x y p r t. tied_faults x y t)
      (λ x p. let t = filter_map-In fault (by_key logs) x p in In-filter_map fault (entries logs) t.0 x (in_set_by_key logs t.0 t.1) t.2)
      (λ x p. let t = filter_map-In fault (entries logs) x p in In-filter_map fault (by_key logs) t.0 x (In-from_sorted entry_cmp t.0 (entries logs) t.1) t.2)
      (first_is_least (by_key logs) (by_key-ascends logs)) (least_is fault_cmp fault_total (address_faults (entries logs)))
