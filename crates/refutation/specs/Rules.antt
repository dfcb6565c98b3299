-- The rules: what each step asks of the operations and of the facts in force, and the facts of the cases that it gives.
use Rattle.std.specs.Prelude.{◌≡◌, ◌≢◌, ℕ, ◌&&◌, Bool, IsTrue, List, [], ◌∷◌, Some, map, slice_get}
use Rattle.std.specs.List.{list_any}
use Rattle.mem_op.specs.declared.id.OpId.{OpId}
use Rattle.mem_op.specs.Consistency.{Operation, operation_at, is_store_to, word_left}
use Rattle.flat_replay.specs.Accesses.{address_of, word_read}
use Rattle.refutation.specs.declared.step.Point.{Point}
use Rattle.refutation.specs.declared.step.Point.TheVariants.{Init, At}
use Rattle.refutation.specs.declared.step.Range.{Range}
use Rattle.refutation.specs.declared.step.Step.{Step}
use Rattle.refutation.specs.declared.step.Step.TheVariants.{Read, FromRead, WriteOrder, Cycle, States}
use Rattle.refutation.specs.declared.fact.Fact.{Fact}
use Rattle.refutation.specs.declared.fact.Fact.TheVariants.{Before, Source}
use Rattle.refutation.specs.Facts.{is_up_to, Leads, IsCycle}
use Rattle.refutation.specs.States.{IsClosedSet}

-- a point lies in a range
abbrev pub is_in : Range → Point → Bool
is_in range p = is_up_to range.first p && is_up_to p range.last

-- it lies in one of the ranges
abbrev pub LiesIn : List Range → Point → Type 0
LiesIn ranges p = IsTrue (list_any (λ range. is_in range p) ranges)

-- an operation is a store or a swap of this value at this address, and isn't the read
pub record MayGive (addr value : ℕ) (read id : OpId) (operation : Operation) : Type 0 where
  pub writes : IsTrue (is_store_to addr operation)
  pub value_is : word_left operation ≡ value
  pub other : id ≢ read

-- everything that may give a read its value lies in the ranges: each store or swap of the value at its address, other than the read, and the initial
-- 0 if the value is 0
pub record HasItsSourceIn (cores : List (List Operation)) (read : OpId) (ranges : List Range) : Type 0 where
  pub operation : Operation
  pub there : operation_at cores read ≡ Some operation
  pub value : ℕ
  pub reads : word_read operation ≡ Some value
  pub init : value ≡ 0 → LiesIn ranges Init
  pub writes : (id : OpId) (write : Operation) → operation_at cores id ≡ Some write → MayGive (address_of operation) value read id write → LiesIn ranges (At id)

-- a write of the read's address that is neither the read nor the last point that the read's source may be
pub record IsOtherWrite (cores : List (List Operation)) (read : OpId) (last : Point) (write : OpId) : Type 0 where
  pub reading : Operation
  pub writing : Operation
  pub at_read : operation_at cores read ≡ Some reading
  pub at_write : operation_at cores write ≡ Some writing
  pub same_address : IsTrue (is_store_to (address_of reading) writing)
  pub not_read : write ≢ read
  pub not_last : last ≢ At write

-- the path leads from the last point of a read's source to another write: the read is before that write
pub record IsFromRead (cores : List (List Operation)) (facts : List Fact) (source : ℕ) (write : OpId) (path : List ℕ) (given : List Fact) : Type 0 where
  pub read : OpId
  pub range : Range
  pub known : slice_get facts source ≡ Some (Source read range)
  pub other : IsOtherWrite cores read range.last write
  pub leads : Leads facts range.last path (At write)
  pub gives : given ≡ Before (At read) (At write) ∷ []

-- the path leads from another write to the read: that write is before the last point of the read's source
pub record IsWriteOrder (cores : List (List Operation)) (facts : List Fact) (source : ℕ) (write : OpId) (path : List ℕ) (given : List Fact) : Type 0 where
  pub read : OpId
  pub range : Range
  pub known : slice_get facts source ≡ Some (Source read range)
  pub other : IsOtherWrite cores read range.last write
  pub leads : Leads facts (At write) path (At read)
  pub gives : given ≡ Before (At write) range.last ∷ []

-- a step is right when these facts are in force, and gives a case for each of the facts `given`
abbrev pub Gives : List (List Operation) → List Fact → Step → List Fact → Type 0
Gives cores facts (Read read ranges) given = HasItsSourceIn cores read ranges × (given ≡ map (λ range. Source read range) ranges)
Gives cores facts (FromRead source write path) given = IsFromRead cores facts source write path given
Gives cores facts (WriteOrder source write path) given = IsWriteOrder cores facts source write path given
Gives cores facts (Cycle path) given = IsCycle facts path × (given ≡ [])
Gives cores facts (States addresses set) given = IsClosedSet cores facts addresses set × (given ≡ [])
