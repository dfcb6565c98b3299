-- Paths, step by step.
use Rattle.std.specs.Prelude.{◌≡◌, ℕ, ◌≤◌, true, List, [], ◌∷◌, Option, Some, slice_get, IsSomeAnd, take, drop, length, ◌-◌}
use Rattle.std.proofs.Common.{rules, get_or}
use Rattle.std.proofs.lemmas.List.{take_all}
use Rattle.refutation.specs.declared.step.Point.{Point}
use Rattle.refutation.specs.declared.fact.Fact.{Fact}
use Rattle.refutation.specs.Facts.{is_up_to, earlier_of, later_of, Leads, IsCycle}

-- the fact in front of a path
pub leads-parts : (facts : List Fact) (from to : Point) (path : List ℕ) (o : Option Fact)
    → IsSomeAnd o (λ fact. (is_up_to from (earlier_of fact) ≡ true) × Leads facts (later_of fact) path to)
    → (fact : Fact) × (o ≡ Some fact) × (is_up_to from (earlier_of fact) ≡ true) × Leads facts (later_of fact) path to
leads-parts facts from to path o leads = search rules

-- ---- program order

pub up_to-trans : (p q r : Point) → is_up_to p q ≡ true → is_up_to q r ≡ true → is_up_to p r ≡ true
up_to-trans p q r a b = search rules

pub up_to-refl : (p : Point) → is_up_to p p ≡ true
up_to-refl p = search rules

-- what leads to a point leads to those after it in program order
pub leads-up : (facts : List Fact) (from : Point) (path : List ℕ) (to later : Point) → Leads facts from path to → is_up_to to later ≡ true → Leads facts from path later
leads-up facts from [] to later leads up = up_to-trans from to later leads up
leads-up facts from (number ∷ path) to later leads up =
    let parts = leads-parts facts from to path (slice_get facts number) leads in
    rw parts.1 (parts.2, leads-up facts (later_of parts.0) path to later parts.3 up)

-- ---- cycles

-- the path in parts, as the code takes it
pub is_cycle_exact : (facts : List Fact) (path : List ℕ) (fact : Fact) → 1 ≤ length path → slice_get facts (get_or path 0 0) ≡ Some fact
    → (Leads facts (later_of fact) (take (length path - 1) (drop 1 path)) (earlier_of fact) → IsCycle facts path) × (IsCycle facts path → Leads facts (later_of fact) (take (length path - 1) (drop 1 path)) (earlier_of fact))
is_cycle_exact facts path fact some at = search (rules, take_all, up_to-refl, leads-up)
