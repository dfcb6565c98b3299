-- From the passes to the rules of logs: where they hold of a view, its logs break none.
use Rattle.std.proofs.Common.{◌≡◌, ◌∷◌, [], zero, suc, ap, sym, subst, ◌∙◌, ℕ, ◌<◌, ◌≤◌, ◌⊎◌, inl, inr, Bool, true, false, List, refl, arith}
use Rattle.std.specs.Prelude.{Option, Some, None, slice_get, filter, option_and_then}
use Rattle.std.specs.List.{filter_map}
use Rattle.std.specs.Option.{option_map_or}
use Rattle.std.specs.declared.cmp.Ordering.{Ordering}
use Rattle.std.specs.declared.cmp.Ordering.TheVariants.{Less, Equal, Greater}
use Rattle.std.specs.Ordering.{nat_cmp, ordering_then, is_lt}
use Rattle.std.proofs.lemmas.Bool.{and_parts, and_from, eqb-true, eq-eqb}
use Rattle.std.proofs.lemmas.Bool.Decides.{nat_tests}
use Rattle.mem_op.specs.declared.id.OpId.{OpId}
use Rattle.mem_op.specs.declared.id.Source.{Source}
use Rattle.mem_op.specs.declared.id.Source.TheVariants.{Init, Store as From}
use Rattle.line_stamps.specs.Ordered.{In, IsGreatest}
use Rattle.line_stamps.proofs.Order.{lt_irrefl, lt_asym}
use Rattle.line_stamps.proofs.Ordered.{greatest_from_least}
use Rattle.log_record.specs.declared.act.Act.{Act}
use Rattle.log_record.specs.declared.act.Act.TheVariants.{Load, Store, Swap}
use Rattle.log_record.specs.declared.record.Entry.{Entry}
use Rattle.log_record.specs.declared.record.Record.{Record}
use Rattle.log_record.specs.Entries.{entries, entry_cmp, record_at}
use Rattle.line_stamps.proofs.Ids.{same_id, same_id-refl}
use Rattle.log_record.proofs.EntryFacts.{at, record_of_entry, entry_of_record, same_record}
use Rattle.core_check.specs.CoreOrder.{falls, is_core_fault}
use Rattle.core_check.specs.CoreFaults.{breaks_core_order, order_faults}
use Rattle.address_check.specs.AddressFaults.{is_store, is_earlier_store, right_store, is_source, value_from, broken_rule, fault_by, act_fault, address_fault, address_faults}
use Rattle.address_check.proofs.Totals.{entry_total}
use Rattle.machine_laws.specs.Views.{View, Did, read_of}
use Rattle.machine_laws.specs.Versions.{AtMost, Earlier, NotAfter, IsFrom, IsRight, HasVersions}
use Rattle.machine_laws.specs.Swaps.{IsRightRead}

-- the view's logs are these
pub record AreLogs (v : View) (logs : List (List Record)) : Type 0 where
  pub logged : (c i : ℕ) (q : Record) → Did v c i q → record_at logs (record { core = c; index = i }) ≡ Some q
  pub did : (id : OpId) (q : Record) → record_at logs id ≡ Some q → Did v id.core id.index q

-- ---- the order of keys

lower : (a b : ℕ) → a ≤ b → ((a < b) × (nat_cmp a b ≡ Less)) ⊎ ((a ≡ b) × (nat_cmp a b ≡ Equal))
lower a b h = grind (arith, nat_tests)

then_less : (a b : ℕ) (o : Ordering) → a ≤ b → (a ≡ b → is_lt o ≡ true) → is_lt (ordering_then (nat_cmp a b) o) ≡ true
then_less a b o h e = elim (lower a b h) [ inl l ↦ rw l.1 refl | inr t ↦ rw t.1 (e t.0) ]

less : (a b : ℕ) → a < b → is_lt (nat_cmp a b) ≡ true
less a b h = grind (arith, nat_tests)

earlier_less : (a b : Entry) → Earlier a.id.core a.id.index a.logged b.id.core b.id.index b.logged → is_lt (entry_cmp a b) ≡ true
earlier_less a b e =
    then_less a.logged.ts b.logged.ts _ e.time (λ t.
    then_less a.logged.rank b.logged.rank _ (e.rank t) (λ r.
    then_less a.id.core b.id.core _ (e.core t r) (λ c.
    less a.id.index b.id.index (e.index t r c))))

-- ---- the order of cores

not_then_less : (a b : ℕ) (o : Ordering) → a ≤ b → (a ≡ b → is_lt o ≡ false) → is_lt (ordering_then (nat_cmp b a) o) ≡ false
not_then_less a b o h e = elim (higher a b h) [ inl l ↦ rw l refl | inr t ↦ rw t.1 (e t.0) ]
  where
    higher : (a b : ℕ) → a ≤ b → (nat_cmp b a ≡ Greater) ⊎ ((a ≡ b) × (nat_cmp b a ≡ Equal))
    higher a b h = grind (arith, nat_tests)

not_less : (a b : ℕ) → a ≤ b → is_lt (nat_cmp b a) ≡ false
not_less a b h = grind (arith, nat_tests)

ascends : (p q : Record) → AtMost p.ts p.rank q.ts q.rank → falls (Some p) (Some q) ≡ false
ascends p q o = not_then_less p.ts q.ts _ o.time (λ t. not_less p.rank q.rank (o.tie t))

-- a record and its place in a log of the set
at_place : (logs : List (List Record)) (c i : ℕ) (log : List Record) (q : Record) → slice_get logs c ≡ Some log → slice_get log i ≡ Some q → record_at logs (record { core = c; index = i }) ≡ Some q
at_place logs c i log q e f = ap (option_and_then (λ l. slice_get l i)) e ∙ f

no_core_fault : (v : View) (logs : List (List Record)) → AreLogs v logs → HasVersions v → (c i : ℕ) (log : List Record) → slice_get logs c ≡ Some log → is_core_fault log i ≡ false
no_core_fault v logs is p c zero log e = refl
no_core_fault v logs is p c (suc i) log e = go (slice_get log i) (slice_get log (suc i)) refl refl
  where
    go : (a b : Option Record) → slice_get log i ≡ a → slice_get log (suc i) ≡ b → falls a b ≡ false
    go None b f g = refl
    go (Some x) None f g = refl
    go (Some x) (Some y) f g = ascends x y (p.order c i (suc i) x y (is.did _ x (at_place logs c i log x e f)) (is.did _ y (at_place logs c (suc i) log y e g)) (omega arith))

no_break : (v : View) (logs : List (List Record)) → AreLogs v logs → HasVersions v → (e : Entry) → breaks_core_order logs e ≡ false
no_break v logs is p e = go (slice_get logs e.id.core) refl
  where
    go : (o : Option (List Record)) → slice_get logs e.id.core ≡ o → option_map_or (λ log. is_core_fault log e.id.index) o false ≡ false
    go None f = refl
    go (Some log) f = no_core_fault v logs is p e.id.core e.id.index log f

filter_none : {X : Type 0} (p : X → Bool) (xs : List X) → ((x : X) → p x ≡ false) → filter p xs ≡ []
filter_none p [] h = refl
filter_none p (x ∷ xs) h = rw (h x) (filter_none p xs h)

pub no_order_faults : (v : View) (logs : List (List Record)) → AreLogs v logs → HasVersions v → order_faults logs ≡ []
no_order_faults v logs is p = rw (filter_none (breaks_core_order logs) (entries logs) (no_break v logs is p)) refl

-- ---- what was read

same_entry : (logs : List (List Record)) (a b : Entry) → In a (entries logs) → In b (entries logs) → a.id ≡ b.id → a ≡ b
same_entry logs a b p q e = let f : a.logged ≡ b.logged = same_record logs a b p q e in λ i. record { id = e i; logged = f i }

not_itself : (logs : List (List Record)) (a b : Entry) → In a (entries logs) → In b (entries logs) → a.id ≡ b.id → is_lt (entry_cmp a b) ≡ true → ⊥
not_itself logs a b p q e h =
    let f : is_lt (entry_cmp b b) ≡ true = subst (λ (x : Entry). is_lt (entry_cmp x b) ≡ true) (same_entry logs a b p q e) h in
    let g : is_lt (entry_cmp b b) ≡ false = lt_irrefl entry_cmp entry_total b in
    cc

not_earlier : (a b : Entry) → Earlier b.id.core b.id.index b.logged a.id.core a.id.index a.logged → is_lt (entry_cmp a b) ≡ true → ⊥
not_earlier a b e h = let f : is_lt (entry_cmp a b) ≡ false = lt_asym entry_cmp entry_total b a (earlier_less b a e) in cc

-- the parts of the test that s is a store to the address of e with a lesser key
record IsEarlierStore (e s : Entry) : Type 0 where
  act : is_store s.logged.act ≡ true
  addr : s.logged.addr ≡ e.logged.addr
  less : is_lt (entry_cmp s e) ≡ true

earlier_store : (e s : Entry) → is_earlier_store e s ≡ true → IsEarlierStore e s
earlier_store e s h =
    let t = and_parts _ _ h in
    let u = and_parts _ _ t.0 in
    record { act = u.0; addr = eqb-true _ _ u.1; less = t.1 }

is_earlier_from : (e s : Entry) → IsEarlierStore e s → is_earlier_store e s ≡ true
is_earlier_from e s h = and_from _ _ (and_from _ _ h.act (eq-eqb _ _ h.addr)) h.less

-- such a store isn't after the source of what e has read
behind_source : (v : View) (logs : List (List Record)) → AreLogs v logs → (e : Entry) (source : Source) (x : ℕ) → In e (entries logs) → IsRight v e.id.core e.id.index e.logged source x → (s : Entry) → In s (entries logs) → IsEarlierStore e s → NotAfter v source s.id.core s.id.index s.logged
behind_source v logs is e source x there r s stands h = elim (r.others s.id.core s.id.index s.logged (is.did s.id s.logged (record_of_entry logs s stands)) h.addr h.act) [
  | inl not_after ↦ not_after
  | inr other ↦ absurd (elim other [
    | inl same ↦ not_itself logs s e stands there (same_id s.id e.id same.0 same.1) h.less
    | inr later ↦ not_earlier s e later h.less
  ])
]

-- the source's store is such a store
source_store : (v : View) (logs : List (List Record)) → AreLogs v logs → (e : Entry) (id : OpId) (x : ℕ) (f : IsFrom v id x e.id.core e.id.index e.logged) → In (at id f.store) (entries logs) × IsEarlierStore e (at id f.store)
source_store v logs is e id x f = (
  entry_of_record logs id f.store (is.logged id.core id.index f.store f.did),
  record { act = f.act; addr = f.addr; less = earlier_less (at id f.store) e f.earlier },
)

-- what was read is right, where this store is the right one
right_read : (v : View) (logs : List (List Record)) → AreLogs v logs → (e : Entry) (source : Source) (x : ℕ) → In e (entries logs) → IsRight v e.id.core e.id.index e.logged source x
    → (o : Option Entry) → IsGreatest entry_cmp (is_earlier_store e) (entries logs) o → IsRightRead source x o
right_read v logs is e Init x there r None g = record { store = refl; word = r.comes }
right_read v logs is e Init x there r (Some s) g = absurd (behind_source v logs is e Init x there r s g.0 (earlier_store e s g.1))
right_read v logs is e (From id) x there r None g =
    let f = source_store v logs is e id x r.comes in
    let h : is_earlier_store e (at id r.comes.store) ≡ false = g (at id r.comes.store) f.0 in
    let k : is_earlier_store e (at id r.comes.store) ≡ true = is_earlier_from e (at id r.comes.store) f.1 in
    absurd (cc)
right_read v logs is e (From id) x there r (Some s) g =
    let f = source_store v logs is e id x r.comes in
    let store : Entry = at id r.comes.store in
    let greatest : is_lt (entry_cmp s store) ≡ false = g.2 store f.0 (is_earlier_from e store f.1) in
    elim (behind_source v logs is e (From id) x there r s g.0 (earlier_store e s g.1)) [
      | inl same ↦
          let one : store ≡ s = same_entry logs store s f.0 g.0 (sym (same_id s.id id same.0 same.1)) in
          record {
            store = subst (λ (y : Entry). is_source (From id) (Some y) ≡ true) one (same_id-refl id);
            word = sym r.comes.value ∙ ap (λ (y : Entry). y.logged.value) one;
          }
      | inr before ↦
          let kept : Some before.store ≡ Some r.comes.store = sym (is.logged id.core id.index before.store before.did) ∙ is.logged id.core id.index r.comes.store r.comes.did in
          let one : before.store ≡ r.comes.store = cc in
          let below : is_lt (entry_cmp s (at id before.store)) ≡ true = earlier_less s (at id before.store) before.earlier in
          let lt : is_lt (entry_cmp s store) ≡ true = subst (λ (q : Record). is_lt (entry_cmp s (at id q)) ≡ true) one below in
          absurd (cc)
    ]

pub reads_right : (v : View) (logs : List (List Record)) → AreLogs v logs → HasVersions v → (e : Entry) (source : Source) (x : ℕ) → In e (entries logs) → read_of e.logged ≡ Some (source, x) → IsRightRead source x (right_store (entries logs) e)
reads_right v logs is p e source x there f =
    right_read v logs is e source x there (p.right e.id.core e.id.index e.logged source x (is.did e.id e.logged (record_of_entry logs e there)) f)
    (right_store (entries logs) e) (greatest_from_least entry_cmp entry_total (is_earlier_store e) (entries logs))

-- and so breaks no rule
right_unbroken : (source : Source) (x : ℕ) (o : Option Entry) → IsRightRead source x o → broken_rule source x o ≡ None
right_unbroken source x o r = rw (r.store, eq-eqb x (value_from o) r.word) refl

no_fault_at : (v : View) (logs : List (List Record)) → AreLogs v logs → HasVersions v → (e : Entry) → In e (entries logs) → address_fault (entries logs) e ≡ None
no_fault_at v logs is p e there = go e.logged.act refl
  where
    reads : (source : Source) (x : ℕ) → read_of e.logged ≡ Some (source, x) → fault_by e (broken_rule source x (right_store (entries logs) e)) ≡ None
    reads source x f = rw (right_unbroken source x (right_store (entries logs) e) (reads_right v logs is p e source x there f)) refl

    go : (act : Act) → e.logged.act ≡ act → act_fault act e (right_store (entries logs) e) ≡ None
    go Store f = refl
    go (Load source) f = reads source e.logged.value (rw f refl)
    go (Swap source read) f = reads source read (rw f refl)

filter_map_none : {X Y : Type 0} (f : X → Option Y) (xs : List X) → ((x : X) → In x xs → f x ≡ None) → filter_map f xs ≡ []
filter_map_none f [] h = refl
filter_map_none f (x ∷ xs) h = rw (h x (inl refl)) (filter_map_none f xs (λ y q. h y (inr q)))

pub no_address_faults : (v : View) (logs : List (List Record)) → AreLogs v logs → HasVersions v → address_faults (entries logs) ≡ []
no_address_faults v logs is p = filter_map_none (address_fault (entries logs)) (entries logs) (no_fault_at v logs is p)
