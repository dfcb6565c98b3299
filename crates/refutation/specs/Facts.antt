-- What is known in a case, and where it leads.
use Rattle.std.specs.Prelude.{◌≢◌, ℕ, Bool, true, false, ◌&&◌, ◌==◌, nat_le, IsTrue, List, [], ◌∷◌, IsSomeAnd, slice_get}
use Rattle.refutation.specs.declared.step.Point.{Point}
use Rattle.refutation.specs.declared.step.Point.TheVariants.{Init, At}
use Rattle.refutation.specs.declared.fact.Fact.{Fact}
use Rattle.refutation.specs.declared.fact.Fact.TheVariants.{Before, Source}

-- A fact says that one point is before another (`Before`), or that the source of a read lies in a range, from its first to its last point (`Source`).
-- This also says that the first point is before the read.
abbrev pub earlier_of : Fact → Point
earlier_of (Before earlier later) = earlier
earlier_of (Source read range) = range.first

abbrev pub later_of : Fact → Point
later_of (Before earlier later) = later
later_of (Source read range) = At read

-- one point is another, or before it in program order; the initial 0 is before everything
abbrev pub is_up_to : Point → Point → Bool
is_up_to Init q = true
is_up_to (At a) Init = false
is_up_to (At a) (At b) = (a.core == b.core) && nat_le a.index b.index

-- Program order and the facts of a path, alternating, lead from one point to another. The path has the numbers of
-- facts, by their places among those in force.
abbrev pub Leads : List Fact → Point → List ℕ → Point → Type 0
Leads facts from [] to = IsTrue (is_up_to from to)
Leads facts from (number ∷ path) to =
    IsSomeAnd (slice_get facts number) (λ fact. IsTrue (is_up_to from (earlier_of fact)) × Leads facts (later_of fact) path to)

-- the path isn't empty, and comes back to its start
pub record IsCycle (facts : List Fact) (path : List ℕ) : Type 0 where
  pub start : Point
  pub some : path ≢ []
  pub back : Leads facts start path start
