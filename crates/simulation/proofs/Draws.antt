-- Draws come to an end: each leaves a core fewer instructions, or fewer rounds to wait for.
use Rattle.std.proofs.Common.{◌≡◌, ◌≢◌, ℕ, zero, suc, ◌+◌, ◌-◌, ◌*◌, ◌<◌, ◌≤◌, Bool, true, false, nat_eq, nat_lt, if◌then◌else◌, List, length, refl, arith}
use Rattle.std.specs.Prelude.{get_or, slice_set}
use Rattle.std.proofs.lemmas.List.{get_or-set_same, get_or-set_other}
use Rattle.core_machine.specs.Parts.{CoreParts, world}
use Rattle.tardis_core.specs.Rounds.{IsRound}
use Rattle.core_machine.specs.Works.{left_at, log_at}
use Rattle.simulation.specs.Drawing.{waited}
use Rattle.simulation.proofs.Progress.{round_falls}

-- ---- sums over cores

abbrev total : (ℕ → ℕ) → ℕ → ℕ
total f zero = 0
total f (suc n) = total f n + f n

total_no_more : (f g : ℕ → ℕ) (n : ℕ) → ((d : ℕ) → g d ≤ f d) → total g n ≤ total f n
total_no_more f g zero each = omega arith
total_no_more f g (suc n) each = omega (arith, total_no_more f g n each, each n)

total_less : (f g : ℕ → ℕ) (c n : ℕ) → c < n → ((d : ℕ) → g d ≤ f d) → g c < f c → total g n < total f n
total_less f g c zero below each less = absurd (omega (arith, below))
total_less f g c (suc n) below each less = go (λ other. total_less f g c n other each less) (nat_eq c n) refl
  where
    go : (c < n → total g n < total f n) → (b : Bool) → nat_eq c n ≡ b → total g n + g n < total f n + f n
    go before true is = let same : c ≡ n = search arith in omega (arith, total_no_more f g n each, rw same at less)
    go before false is = let other : c < n = search arith in omega (arith, before other, each n)

-- ---- the measure

-- the instructions left to core c and the rounds that it may still wait, as a number
abbrev to_go : CoreParts → List ℕ → ℕ → ℕ
to_go p waits c = left_at (world p) c * 1001 + (1000 - get_or waits c 0)

pub patience : CoreParts → List ℕ → ℕ
patience p waits = total (to_go p waits) 64

-- where no core has more instructions left, there is no more
pub patience_kept : (p q : CoreParts) (waits : List ℕ) → ((d : ℕ) → left_at (world q) d ≤ left_at (world p) d) → patience q waits ≤ patience p waits
unfolding patience
patience_kept p q waits each = total_no_more (to_go p waits) (to_go q waits) 64 (λ d. let less = each d in omega (arith, less))

module _ (p : CoreParts) (waits : List ℕ) (c : ℕ) (q : CoreParts) (long : length waits ≡ 64) (below : c < 64) (round : IsRound c p q)
    (few : waited waits c p q < 1000) where
  abbrev after : List ℕ
  after = slice_set waits c (waited waits c p q)

  same : get_or after c 0 ≡ waited waits c p q
  same = get_or-set_same waits c (waited waits c p q) 0 (rw long below)

  step : (b : Bool) → nat_lt (length (log_at (world p) c)) (length (log_at (world q) c)) ≡ b → waited waits c p q ≡ (if b then 0 else get_or waits c 0 + 1)
      → to_go q after c < to_go p waits c
  step true grew is =
      let falls = round_falls c p q round c in
      let more : length (log_at (world p) c) < length (log_at (world q) c) = search arith in
      let fewer : left_at (world q) c < left_at (world p) c = omega (arith, more, falls.both) in
      omega (arith, fewer, same, is)
  step false grew is = let falls = round_falls c p q round c in omega (arith, falls.left, same, is, few)

  here : to_go q after c < to_go p waits c
  here = step (nat_lt (length (log_at (world p) c)) (length (log_at (world q) c))) refl refl

  each_at : (d : ℕ) (b : Bool) → nat_eq d c ≡ b → to_go q after d ≤ to_go p waits d
  each_at d true is = let at : d ≡ c = search arith in rw at (omega (arith, here))
  each_at d false is =
      let other : d ≢ c = search arith in
      let kept = get_or-set_other waits c d (waited waits c p q) 0 other in
      omega (arith, (round_falls c p q round d).left, kept)

  -- a round that isn't the last that its core may wait for leaves less
  pub patience_ends : patience q after < patience p waits
  unfolding patience
  patience_ends = total_less (to_go p waits) (to_go q after) c 64 below (λ d. each_at d (nat_eq d c) refl) here
