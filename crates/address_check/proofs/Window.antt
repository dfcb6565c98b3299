-- The part of the sorted list at an address, which stands in one piece.
use Rattle.std.proofs.Common.{AllPairs, ◌≡◌, ℕ, ◌-◌, ◌==◌, ◌&&◌, nat_le, nat_lt, ◌+◌, ◌<◌, ◌≤◌, zero, suc, Bool, true, false, List, [], ◌∷◌, length, take, drop, get_or, sym, ◌∙◌, arith, Less, filter, take_all}
use Rattle.std.specs.List.Sorted.{IsNonDecreasingBy, IsPartitionPoint}
use Rattle.std.proofs.lemmas.Bool.Decides.{nat_tests}
use Rattle.std.proofs.lemmas.List.{drop_all}
use Rattle.std.proofs.lemmas.List.Elements.{filter_passes}
use Rattle.std.proofs.lemmas.List.Sorted.{IsNonDecreasingBy-from_all_adjacent}
use Rattle.log_record.specs.declared.record.Entry.{Entry}
use Rattle.log_record.specs.Entries.{entry_cmp}
use Rattle.address_check.specs.declared.span.AddrSpan.{AddrSpan}
use Rattle.address_check.specs.BySpan.{has_address, in_span}
use Rattle.address_check.specs.Groups.{place_cmp, AscendsByPlace, at_address, IsGroup}

-- a list of which just `n` elements from place `i` on pass a test
filter-window : {X : Type 0} (p : X → Bool) (xs : List X) (i n : ℕ) → ((k : ℕ) (d : X) → k < length xs → p (get_or xs k d) ≡ (nat_le i k && nat_lt k (i + n))) → filter p xs ≡ take n (drop i xs)
filter-window p [] i n h = grind (arith, drop_all, take_all)
filter-window p (x ∷ xs) zero zero h = let here = h 0 x (omega arith) in let rest = filter-window p xs zero zero (λ k d l. h (suc k) d (omega arith) ∙ grind (arith, nat_tests)) in grind arith
filter-window p (x ∷ xs) zero (suc n) h = let here = h 0 x (omega arith) in let rest = filter-window p xs zero n (λ k d l. h (suc k) d (omega arith) ∙ grind (arith, nat_tests)) in grind arith
filter-window p (x ∷ xs) (suc i) n h = let here = h 0 x (omega arith) in let rest = filter-window p xs i n (λ k d l. h (suc k) d (omega arith) ∙ grind (arith, nat_tests)) in grind (arith, nat_tests)

-- what comes before by place has no greater address
pub not_above : (x y : Entry) → place_cmp x y ≡ Less → x.logged.addr ≤ y.logged.addr
not_above x y h = grind (arith, nat_tests)

-- addresses don't fall along the list
pub addresses_rise : (es : List Entry) → AscendsByPlace es → IsNonDecreasingBy (λ e. e.logged.addr) es
addresses_rise es up = IsNonDecreasingBy-from_all_adjacent (λ e. e.logged.addr) es (λ k d h. not_above (get_or es k d) (get_or es (k + 1) d) (up k (k + 1) d (omega arith) h))

-- the part of the list at the addresses of a span, to the end that isn't before the start
pub span_is : (span : AddrSpan) (es : List Entry) (i j m : ℕ) → IsPartitionPoint (λ e. nat_lt e.logged.addr span.start ≡ true) (λ e. nat_lt e.logged.addr span.start ≡ false) es i → IsPartitionPoint (λ e. nat_lt e.logged.addr span.end ≡ true) (λ e. nat_lt e.logged.addr span.end ≡ false) es j → i ≤ m → j ≤ m → ((k : ℕ) → i ≤ k → k < m → k < j) → take (m - i) (drop i es) ≡ in_span span es
span_is span es i j m under_start under_end le lj within = sym (filter-window (λ e. has_address span e.logged.addr) es i (m - i) (λ k d l. grind (arith, nat_tests, under_start.0 k d, under_start.1 k d, under_end.0 k d, under_end.1 k d, within k)))

-- ---- a span of one address

one_address : (a x : ℕ) → has_address (record { start = a; end = a + 1 }) x ≡ (x == a)
one_address a x = grind (arith, nat_tests)

-- it has the entries of the address
pub one_is : (a : ℕ) (es : List Entry) → in_span (record { start = a; end = a + 1 }) es ≡ at_address a es
one_is a es = λ i. filter (λ e. one_address a e.logged.addr i) es

-- at one address the order by place is that by key
pub by_key : (x y : Entry) → x.logged.addr ≡ y.logged.addr → place_cmp x y ≡ entry_cmp x y
by_key x y e = grind (arith, nat_tests)

-- the part at an address is a group
pub is_group_at : (a : ℕ) (es : List Entry) → AscendsByPlace (at_address a es) → IsGroup (at_address a es)
is_group_at a es up = record { one_address = same; ascends = λ i j d p q. sym (by_key (get_or (at_address a es) i d) (get_or (at_address a es) j d) (same i j d p q)) ∙ up i j d p q }
  where
    same : AllPairs (λ x y. x.logged.addr ≡ y.logged.addr) (at_address a es)
    same i j d p q = let here = filter_passes (λ e. e.logged.addr == a) es in let first = here i d (omega arith) in let second = here j d q in grind (arith, nat_tests)
