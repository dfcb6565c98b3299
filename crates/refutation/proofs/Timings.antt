-- What facts say of the times at which operations take place.
use Rattle.std.proofs.Common.{rules}
use Rattle.std.specs.Prelude.{◌≡◌, ℕ, ◌<◌, ◌≤◌, ◌⊎◌, true, List, Some, slice_get}
use Rattle.mem_op.specs.declared.id.OpId.{OpId}
use Rattle.mem_op.specs.Consistency.{Operation, operation_at, is_store_to, word_left}
use Rattle.flat_replay.specs.Accesses.{address_of, word_read}
use Rattle.refutation.specs.declared.step.Point.{Point}
use Rattle.refutation.specs.declared.step.Point.TheVariants.{Init, At}
use Rattle.refutation.specs.declared.fact.Fact.{Fact}
use Rattle.refutation.specs.declared.fact.Fact.TheVariants.{Before, Source}
use Rattle.refutation.specs.Facts.{is_up_to, earlier_of, later_of}

-- the word comes from a point: the initial 0, or a store of it to the address
abbrev pub Gave : List (List Operation) → ℕ → ℕ → Point → Type 0
Gave cores addr value Init = value ≡ 0
Gave cores addr value (At w) = (y : Operation) × (operation_at cores w ≡ Some y) × (is_store_to addr y ≡ true) × (word_left y ≡ value)

-- each store to the address takes place at a point or before it, or at a time or after it
abbrev pub NoStoreBetween : List (List Operation) → (Point → ℕ) → ℕ → Point → ℕ → Type 0
NoStoreBetween cores time addr last later =
    (w : OpId) (y : Operation) → operation_at cores w ≡ Some y → is_store_to addr y ≡ true → (time (At w) ≤ time last) ⊎ (later ≤ time (At w))

-- where the word comes from that is at the address at a time
pub record Sourced (cores : List (List Operation)) (time : Point → ℕ) (addr value later : ℕ) : Type 0 where
  pub source : Point
  pub gives : Gave cores addr value source
  pub before : time source < later
  pub last : NoStoreBetween cores time addr source later

-- the times at which the operations take place in some sequential order
pub record IsTiming (cores : List (List Operation)) (time : Point → ℕ) : Type 0 where
  pub program : (p q : Point) → is_up_to p q ≡ true → time p ≤ time q
  pub apart : (a : OpId) (y : Operation) (q : Point) → operation_at cores a ≡ Some y → time (At a) ≡ time q → At a ≡ q
  pub sources : (a : OpId) (y : Operation) (value : ℕ) → operation_at cores a ≡ Some y → word_read y ≡ Some value → Sourced cores time (address_of y) value (time (At a))

-- the source of a read is not after this point, which is before the read
abbrev pub SourceUntil : List (List Operation) → (Point → ℕ) → OpId → Point → Type 0
SourceUntil cores time read last = (y : Operation) → operation_at cores read ≡ Some y → NoStoreBetween cores time (address_of y) last (time (At read))

-- a fact holds
abbrev pub Holds : List (List Operation) → (Point → ℕ) → Fact → Type 0
Holds cores time (Before earlier later) = time earlier < time later
Holds cores time (Source read range) = (time range.first < time (At read)) × SourceUntil cores time read range.last

-- all of them do
abbrev pub AllHold : List (List Operation) → (Point → ℕ) → List Fact → Type 0
AllHold cores time facts = (number : ℕ) (fact : Fact) → slice_get facts number ≡ Some fact → Holds cores time fact

-- a fact's own order
pub order-of : (cores : List (List Operation)) (time : Point → ℕ) (fact : Fact) → Holds cores time fact → time (earlier_of fact) < time (later_of fact)
order-of cores time fact holds = search rules
