-- The front that is first in the order of keys, as more fronts are looked at.
use Rattle.std.specs.Prelude.{◌≡◌, ◌⊎◌, ℕ, ◌+◌, ◌<◌, true, false, List, refl, Option, Some, None, slice_get}
use Rattle.std.proofs.Common.{subst, sym, inl, inr, arith}
use Rattle.std.specs.Ordering.{is_lt}
use Rattle.std.proofs.lemmas.Bool.{cases_eq, cases_lt}
use Rattle.std.proofs.lemmas.Bool.Decides.{nat_tests}
use Rattle.line_stamps.proofs.Order.{lt_trans}
use Rattle.log_record.specs.declared.record.Record.{Record}
use Rattle.log_record.specs.Entries.{entry_cmp}
use Rattle.core_check.specs.CoreOrder.{falls}
use Rattle.address_check.proofs.Totals.{entry_total}
use Rattle.merge_judge.specs.LaneParts.{LaneParts}
use Rattle.merge_judge.specs.inner.Lanes.{IsFirstOf, IsNoLater, entry_at}
use Rattle.merge_judge.proofs.Places.{one}

-- ---- two fronts

-- a record that falls comes first
falls_below : (a b : Record) (core n i j : ℕ) → falls (Some a) (Some b) ≡ true → is_lt (entry_cmp (entry_at n i b) (entry_at core j a)) ≡ true
falls_below a b core n i j h = grind (arith, nat_tests)

-- one that doesn't fall comes later, if its core does
stays_before : (a b : Record) (core n i j : ℕ) → core < n → falls (Some a) (Some b) ≡ false → is_lt (entry_cmp (entry_at core i a) (entry_at n j b)) ≡ true
stays_before a b core n i j later h = grind (arith, nat_tests)

-- ---- a front and each of those before it

itself : (o : Option Record) (core : ℕ) → IsNoLater core o core o
itself None core = refl
itself (Some r) core = λ other. absurd (other refl)

moves : (a b o : Option Record) (core n k : ℕ) → (a ≡ None) ⊎ (falls a b ≡ true) → (k ≡ core → o ≡ a) → IsNoLater core a k o → IsNoLater n b k o
moves None None o core n k first same early = early
moves None (Some f) o core n k first same early = subst (λ x. IsNoLater n (Some f) k x) (sym early) tt
moves (Some r) None o core n k first same early = absurd (elim first [ inl none ↦ cc | inr below ↦ cc ])
moves (Some r) (Some f) None core n k first same early = tt
moves (Some r) (Some f) (Some g) core n k first same early = λ other i j. elim first [
  | inl none ↦ absurd cc
  | inr below ↦ elim (cases_eq k core) [
    | inl q ↦ (let g_is : g ≡ r = (let s = same q in cc) in rw (q, g_is) (falls_below r f core n i j below))
    | inr q ↦ lt_trans entry_cmp entry_total (entry_at n i f) (entry_at core 0 r) (entry_at k j g) (falls_below r f core n i 0 below) (early q 0 j)
  ]
]

stays : (a b : Option Record) (core n : ℕ) → core < n → (a ≡ None → ⊥) → falls a b ≡ false → IsNoLater core a n b
stays None b core n later some steady = absurd (some refl)
stays (Some r) None core n later some steady = tt
stays (Some r) (Some f) core n later some steady = λ other i j. stays_before r f core n i j later steady

-- ---- the first of the fronts so far

module _ (lanes : List LaneParts) (core n : ℕ) (so_far : IsFirstOf n core lanes) (lane next : LaneParts) (lane_is : slice_get lanes core ≡ Some lane) (next_is : slice_get lanes n ≡ Some next) where
  -- the next front comes before it
  pub first_moves : (lane.front ≡ None) ⊎ (falls lane.front next.front ≡ true) → IsFirstOf (n + 1) n lanes
  first_moves first a a_is k l low l_is =
      let a_same : a ≡ next = one (slice_get lanes n) a next a_is next_is in
      rw a_same (elim (cases_lt k n) [
        | inl before ↦ moves lane.front next.front l.front core n k first (λ q. (λ i. (one (slice_get lanes core) l lane (subst (λ j. slice_get lanes j ≡ Some l) q l_is) lane_is i).front)) (so_far lane lane_is k l before l_is)
        | inr past ↦ (let q : k ≡ n = omega arith in let l_same : l ≡ next = one (slice_get lanes n) l next (subst (λ j. slice_get lanes j ≡ Some l) q l_is) next_is in rw (q, l_same) (itself next.front n))
      ])

  -- the next front doesn't
  pub first_stays : core < n → (lane.front ≡ None → ⊥) → falls lane.front next.front ≡ false → IsFirstOf (n + 1) core lanes
  first_stays later some steady a a_is k l low l_is =
      let a_same : a ≡ lane = one (slice_get lanes core) a lane a_is lane_is in
      rw a_same (elim (cases_lt k n) [
        | inl before ↦ so_far lane lane_is k l before l_is
        | inr past ↦ (let q : k ≡ n = omega arith in let l_same : l ≡ next = one (slice_get lanes n) l next (subst (λ j. slice_get lanes j ≡ Some l) q l_is) next_is in rw (q, l_same) (stays lane.front next.front core n later some steady))
      ])
