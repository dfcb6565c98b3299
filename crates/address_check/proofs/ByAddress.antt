-- The least fault of all entries, by spans of addresses.
use Rattle.std.proofs.Common.{◌≡◌, ℕ, ◌+◌, ◌-◌, ◌<◌, ◌≤◌, Bool, true, ◌==◌, List, [], ◌∷◌, ◌++◌, length, take, Option, refl, filter, ◌∙◌, ap, inl, inr, arith, get_or, filter_map, flat_map, eq-eqb, append-nil}
use Rattle.std.specs.List.{cons_option}
use Rattle.std.specs.List.Sorted.{IsNonDecreasingBy}
use Rattle.std.proofs.lemmas.Bool.Decides.{leb_tells, nat_tests}
use Rattle.std.proofs.lemmas.List.{take_more}
use Rattle.line_stamps.specs.Least.{lesser, least_of}
use Rattle.line_stamps.specs.Ordered.{In}
use Rattle.line_stamps.proofs.Ordered.{In-append_left, In-append_right, In-filter, In-filtered, In-filter_map, filter_map-In, In-flat_map, flat_map-In, place_of, same_least}
use Rattle.log_record.specs.declared.record.Entry.{Entry}
use Rattle.address_check.specs.declared.fault.AddressFault.{AddressFault}
use Rattle.address_check.specs.contracts.fault.AddressFaultOrd.TheImpl.{ghosts}
use Rattle.address_check.specs.FaultOrder.{fault_cmp}
use Rattle.address_check.specs.AddressFaults.{is_earlier_store, latest, right_store, act_fault, address_fault, address_faults, least_address_fault}
use Rattle.address_check.specs.declared.span.AddrSpan.{AddrSpan}
use Rattle.address_check.specs.AddressLaw.{fault_total, least_fault_in-joined}
use Rattle.address_check.specs.BySpan.{has_address, HaveAddress, in_span, faults_in, least_fault_in}
use Rattle.address_check.specs.Groups.{at_address}
use Rattle.address_check.proofs.Pairs.{filter_map-within}
use Rattle.address_check.proofs.Totals.{tied_faults}

-- ---- an entry breaks among those at its address what it breaks among all

filter_map_same : {X Y : Type 0} (f g : X → Option Y) (xs : List X) → ((x : X) → In x xs → f x ≡ g x) → filter_map f xs ≡ filter_map g xs
filter_map_same f g [] h = refl
filter_map_same f g (x ∷ xs) h = rw (h x (inl refl)) (ap (cons_option (g x)) (filter_map_same f g xs (λ y q. h y (inr q))))

-- what passes a test is left by a weaker one
filter_twice : {X : Type 0} (p q : X → Bool) (xs : List X) → ((x : X) → p x ≡ true → q x ≡ true) → filter p (filter q xs) ≡ filter p xs
filter_twice p q [] h = refl
filter_twice p q (x ∷ xs) h = grind (arith, h x, filter_twice p q xs h)

-- the right store of an entry among those at some addresses, its own among them, is that among all
right_among : (es : List Entry) (test : ℕ → Bool) (e : Entry) → test e.logged.addr ≡ true → right_store (filter (λ x. test x.logged.addr) es) e ≡ right_store es e
right_among es test e here = ap latest (filter_twice (is_earlier_store e) (λ x. test x.logged.addr) es (λ x t. let same : x.logged.addr ≡ e.logged.addr = grind (arith, nat_tests) in ap test same ∙ here))

-- the right store of an entry among those of its address is that among all
pub right_in_group : (es : List Entry) (addr : ℕ) (e : Entry) → e.logged.addr ≡ addr → right_store (at_address addr es) e ≡ right_store es e
right_in_group es addr e here = right_among es (λ a. a == addr) e (eq-eqb _ _ here)

-- the least fault of the entries of a span looked at alone is the least at its addresses
part_alone : (es : List Entry) (span : AddrSpan) → least_address_fault (in_span span es) ≡ least_of fault_cmp (faults_in es span)
part_alone es span =
    ap (least_of fault_cmp) (filter_map_same (address_fault (in_span span es)) (address_fault es) (in_span span es)
    (λ e h. ap (act_fault e.logged.act e) (right_among es (has_address span) e (In-filter (λ x. has_address span x.logged.addr) es e h).1)))

-- ---- all spans

-- spans that have the address of every entry have the least fault
pub least_by_spans : (es : List Entry) (spans : List AddrSpan) → ((e : Entry) → In e es → HaveAddress e.logged.addr spans) → least_fault_in es spans ≡ least_address_fault es
least_by_spans es spans whole =
    same_least fault_cmp fault_total (flat_map (faults_in es) spans) (address_faults es) (λ x y p q tied. tied_faults x y tied) of_all of_spans
  where
    of_all : (f : AddressFault) → In f (flat_map (faults_in es) spans) → In f (address_faults es)
    of_all f p =
        let at = flat_map-In (faults_in es) spans f p in
        filter_map-within (address_fault es) (address_fault es) (in_span at.0 es) es (λ e. refl) (λ e q. (In-filter (λ x. has_address at.0 x.logged.addr) es e q).0) f at.2

    of_spans : (f : AddressFault) → In f (address_faults es) → In f (flat_map (faults_in es) spans)
    of_spans f p =
        let found = filter_map-In (address_fault es) es f p in
        let at = whole found.0 found.1 in
        In-flat_map (faults_in es) spans at.0 f at.1
        (In-filter_map (address_fault es) (in_span at.0 es) found.0 f (In-filtered (λ x. has_address at.0 x.logged.addr) es found.0 found.1 at.2) found.2)

-- the least fault of the first spans, with that of one more looked at alone
pub least_with_span : (es : List Entry) (spans : List AddrSpan) (k : ℕ) (d : AddrSpan) → k < length spans → lesser ghosts.cmp (least_fault_in es (take k spans)) (least_address_fault (in_span (get_or spans k d) es)) ≡ least_fault_in es (take (k + 1) spans)
least_with_span es spans k d l =
    let alone = part_alone es (get_or spans k d) in
    let joined = least_fault_in-joined es (take k spans) (get_or spans k d ∷ []) in
    let more = take_more spans k d l in
    grind (arith, append-nil)

-- ---- the cuts between spans

-- the addresses below a number are in some spans
abbrev pub HaveBelow : ℕ → List AddrSpan → Type 0
HaveBelow bound spans = (addr : ℕ) → addr < bound → HaveAddress addr spans

abbrev span_of : ℕ → ℕ → AddrSpan
span_of start end = record { start = start; end = end }

-- with the span from the bound on
pub have_more : (spans : List AddrSpan) (start end : ℕ) → HaveBelow start spans → HaveBelow end (spans ++ span_of start end ∷ [])
have_more spans start end h addr l = elim (leb_tells start addr) [
  | inl from ↦ (span_of start end, In-append_right (span_of start end) spans (span_of start end ∷ []) (inl refl), (let a : start ≤ addr = from.1 in grind (arith, nat_tests)))
  | inr before ↦ (let t = h addr before.1 in (t.0, In-append_left t.0 spans (span_of start end ∷ []) t.1, t.2))
]

-- no address is above that of the last entry
pub have_all : (es : List Entry) (spans : List AddrSpan) (last : Entry) → IsNonDecreasingBy (λ e. e.logged.addr) es → last ≡ get_or es (length es - 1) last → HaveBelow (last.logged.addr + 1) spans → (e : Entry) → In e es → HaveAddress e.logged.addr spans
have_all es spans last up at h e p =
    let t = place_of e es p in
    let below : t.0 < length es = t.1 in
    let high = up t.0 (length es - 1) last (omega arith) (omega arith) in
    let here = t.2 last in
    h e.logged.addr (grind arith)
