-- By key each load and each swap of a set has its flat answer, where no address has a fault.
use Rattle.std.specs.Prelude.{◌≡◌, ℕ, Bool, true, ◌&&◌, ◌==◌, List, [], ◌∷◌, ◌++◌, refl, Option, Some, None, slice_get, map, find, reverse, take}
use Rattle.std.specs.List.{filter_map, cons_option}
use Rattle.std.proofs.Common.{sym, ◌∙◌, ap, subst, inl, inr, arith}
use Rattle.std.specs.Option.{option_map}
use Rattle.std.specs.declared.cmp.Ordering.TheVariants.{Equal}
use Rattle.std.specs.Ordering.{is_lt}
use Rattle.std.proofs.lemmas.Bool.{and_parts, and_from, false_from_ne_true}
use Rattle.std.proofs.lemmas.Bool.Decides.{nat_tests}
use Rattle.std.proofs.lemmas.List.{take-map, map-append}
use Rattle.std.proofs.lemmas.Option.{slice_get-map}
use Rattle.mem_op.specs.declared.id.Source.{Source}
use Rattle.mem_op.specs.Consistency.{Operation, operation_at, is_store_to, value_or_zero, last_value, GivesFlatAnswers}
use Rattle.line_stamps.specs.Ordered.{In, IsGreatest}
use Rattle.line_stamps.proofs.Order.{lt_cases}
use Rattle.line_stamps.proofs.Ordered.{reverse-cons, In-slice_get, In-take, In-from_sorted, Ascends-take, before_from_take, take_from_before, last_is_greatest, greatest_from_least}
use Rattle.log_record.specs.declared.record.Record.{Record}
use Rattle.log_record.specs.declared.record.Entry.{Entry}
use Rattle.log_record.specs.declared.act.Act.{Act}
use Rattle.log_record.specs.declared.act.Act.TheVariants.{Load, Store, Swap}
use Rattle.log_record.specs.Entries.{entry_cmp, operation_by, operation_of, operations_of, entries}
use Rattle.log_record.proofs.EntryFacts.{record_of_entry, same_record, operation_at-operations_of}
use Rattle.address_check.specs.AddressFaults.{is_store, is_earlier_store, right_store, value_from, broken_rule, fault_by, act_fault, address_fault}
use Rattle.address_check.proofs.Totals.{entry_total}
use Rattle.flat_replay.proofs.Flat.{IsAnsweredBehind, flat_each}
use Rattle.verdict.specs.ByKey.{by_key, ids_by_key}
use Rattle.verdict.proofs.SerialOrder.{tied_id, by_key-ascends, in_set_by_key}

-- no load or swap of the set has a fault of source or value
abbrev pub NoAddressFault : List (List Record) → Type 0
NoAddressFault logs = (e : Entry) → In e (entries logs) → address_fault (entries logs) e ≡ None

abbrev is_earlier : Entry → Entry → Bool
is_earlier a b = is_lt (entry_cmp a b)

abbrev operation : Entry → Operation
operation e = operation_of e.logged

-- two that are greatest among the set's entries have one value
one_greatest : (logs : List (List Record)) (p : Entry → Bool) (r s : Option Entry) → IsGreatest entry_cmp p (entries logs) r → IsGreatest entry_cmp p (entries logs) s → value_from r ≡ value_from s
one_greatest logs p None None g h = refl
one_greatest logs p None (Some b) g h = let f = g b h.0 in let k = h.1 in cc
one_greatest logs p (Some a) None g h = let f = h a g.0 in let k = g.1 in cc
one_greatest logs p (Some a) (Some b) g h =
    let not_before = g.2 b h.0 h.1 in
    let not_after = h.2 a g.0 g.1 in
    let order = lt_cases entry_cmp entry_total a b in
    let tied = λ (t : entry_cmp a b ≡ Equal). same_record logs a b g.0 h.0 (tied_id a b t) in
    grind (arith, tied)

map-reverse : {X Y : Type 0} (f : X → Y) (xs : List X) → reverse (map f xs) ≡ map f (reverse xs)
map-reverse f [] = refl
map-reverse f (x ∷ xs) =
    reverse-cons (f x) (map f xs) ∙ ap (λ l. l ++ f x ∷ []) (map-reverse f xs) ∙ sym (map-append f (reverse xs) (x ∷ [])) ∙ ap (map f) (sym (reverse-cons x xs))

found_value : (addr : ℕ) (es : List Entry) → value_or_zero (find (is_store_to addr) (map operation es)) ≡ value_from (find (λ e. is_store_to addr (operation e)) es)
found_value addr [] = refl
found_value addr (e ∷ es) = let later = found_value addr es in grind arith

-- the last store to an address among the first entries
abbrev last_store : ℕ → ℕ → List Entry → Option Entry
last_store addr k es = find (λ e. is_store_to addr (operation e)) (reverse (take k es))

last_value-map : (addr k : ℕ) (es : List Entry) → last_value addr (take k (map operation es)) ≡ value_from (last_store addr k es)
last_value-map addr k es =
    ap (last_value addr) (take-map operation k es)
    ∙ ap (λ l. value_or_zero (find (is_store_to addr) l)) (map-reverse operation (take k es))
    ∙ found_value addr (reverse (take k es))

pub store_to : (addr : ℕ) (act : Act) (a v : ℕ) → is_store_to addr (operation_by act a v) ≡ (is_store act && (a == addr))
store_to addr act a v = grind arith

earlier_store : (logs : List (List Record)) (e : Entry) (k : ℕ) → slice_get (by_key logs) k ≡ Some e → (x : Entry) → In x (entries logs) → is_earlier_store e x ≡ true → In x (take k (by_key logs)) × (is_store_to e.logged.addr (operation x) ≡ true)
earlier_store logs e k here x p t =
    let parts = and_parts (is_store x.logged.act && (x.logged.addr == e.logged.addr)) (is_earlier x e) t in (
      take_from_before entry_cmp entry_total (by_key logs) k e x (by_key-ascends logs) here (In-from_sorted entry_cmp x (entries logs) p) parts.1,
      store_to e.logged.addr x.logged.act x.logged.addr x.logged.value ∙ parts.0,
    )

-- the last store before an operation in the order of keys is the greatest earlier store of the set
pub last_is_right : (logs : List (List Record)) (e : Entry) (k : ℕ) → slice_get (by_key logs) k ≡ Some e → (r : Option Entry) → IsGreatest entry_cmp (λ x. is_store_to e.logged.addr (operation x)) (take k (by_key logs)) r → IsGreatest entry_cmp (is_earlier_store e) (entries logs) r
last_is_right logs e k here None h = λ x p. false_from_ne_true (is_earlier_store e x) (λ t. (let early = earlier_store logs e k here x p t in let isnt = h x early.0 in cc))
last_is_right logs e k here (Some s) h = (
  in_set_by_key logs s (In-take s k (by_key logs) h.0),
  and_from (is_store s.logged.act && (s.logged.addr == e.logged.addr)) (is_earlier s e) (sym (store_to e.logged.addr s.logged.act s.logged.addr s.logged.value) ∙ h.1)
      (before_from_take entry_cmp entry_total (by_key logs) k e s (by_key-ascends logs) here h.0),
  λ x p t. (let early = earlier_store logs e k here x p t in h.2 x early.0 early.1),
)

right_value : (e : Entry) (source : Source) (value : ℕ) (r : Option Entry) → fault_by e (broken_rule source value r) ≡ None → value ≡ value_from r
right_value e source value r h = grind (arith, nat_tests)

-- what an entry reads without a fault is its flat answer
read_at : (logs : List (List Record)) (k : ℕ) (e : Entry) (source : Source) (read : ℕ) → slice_get (by_key logs) k ≡ Some e → fault_by e (broken_rule source read (right_store (entries logs) e)) ≡ None → read ≡ last_value e.logged.addr (take k (map operation (by_key logs)))
read_at logs k e source read here no_fault =
    let last = last_store e.logged.addr k (by_key logs) in
    let greatest = last_is_right logs e k here last
    (last_is_greatest entry_cmp entry_total (λ x. is_store_to e.logged.addr (operation x)) (take k (by_key logs)) (Ascends-take entry_cmp entry_total k (by_key logs) (by_key-ascends logs))) in
    right_value e source read (right_store (entries logs) e) no_fault
    ∙ one_greatest logs (is_earlier_store e) (right_store (entries logs) e) last (greatest_from_least entry_cmp entry_total (is_earlier_store e) (entries logs)) greatest
    ∙ sym (last_value-map e.logged.addr k (by_key logs))

-- so an entry without a fault has its flat answer
answered_at : (logs : List (List Record)) (k : ℕ) (e : Entry) → slice_get (by_key logs) k ≡ Some e → (act : Act) → act_fault act e (right_store (entries logs) e) ≡ None → IsAnsweredBehind (take k (map operation (by_key logs))) (operation_by act e.logged.addr e.logged.value)
answered_at logs k e here (Load source) no_fault = read_at logs k e source e.logged.value here no_fault
answered_at logs k e here Store no_fault = tt
answered_at logs k e here (Swap source read) no_fault = read_at logs k e source read here no_fault

flat_by_key : (logs : List (List Record)) → NoAddressFault logs → GivesFlatAnswers (map operation (by_key logs))
flat_by_key logs none = flat_each (map operation (by_key logs)) (λ k y h. go k y (slice_get (by_key logs) k) refl (sym (slice_get-map operation (by_key logs) k) ∙ h))
  where
    go : (k : ℕ) (y : Operation) (o : Option Entry) → slice_get (by_key logs) k ≡ o → option_map operation o ≡ Some y → IsAnsweredBehind (take k (map operation (by_key logs))) y
    go k y None here t = cc
    go k y (Some e) here t =
        let same : operation e ≡ y = cc in
        subst (IsAnsweredBehind (take k (map operation (by_key logs)))) same
        (answered_at logs k e here e.logged.act (none e (in_set_by_key logs e (In-slice_get e (by_key logs) k here))))

operations_by_key : (logs : List (List Record)) (es : List Entry) → ((e : Entry) → In e es → In e (entries logs)) → filter_map (operation_at (operations_of logs)) (map (λ e. e.id) es) ≡ map operation es
operations_by_key logs [] h = refl
operations_by_key logs (e ∷ es) h =
    ap (λ o. cons_option o (filter_map (operation_at (operations_of logs)) (map (λ e. e.id) es)))
    (operation_at-operations_of logs e.id ∙ ap (option_map operation_of) (record_of_entry logs e (h e (inl refl))))
    ∙ ap (λ l. operation e ∷ l) (operations_by_key logs es (λ x p. h x (inr p)))

pub by_key-flat : (logs : List (List Record)) → NoAddressFault logs → GivesFlatAnswers (filter_map (operation_at (operations_of logs)) (ids_by_key logs))
by_key-flat logs none = subst GivesFlatAnswers (sym (operations_by_key logs (by_key logs) (in_set_by_key logs))) (flat_by_key logs none)
