-- The texts of steps and of refutations, and which have a text.
use Rattle.std.specs.Prelude.{ℕ, ◌<◌, ◌^◌, Bool, true, false, if◌then◌else◌, List, [], ◌∷◌, ◌++◌, length, codes}
use Rattle.std.specs.List.{flat_map, AllByRecursion}
use Rattle.decimal_text.specs.Numbers.{numeral}
use Rattle.mem_op.specs.declared.id.OpId.{OpId}
use Rattle.mem_op.specs.Consistency.{is_same_id}
use Rattle.mem_op.specs.Limits.{operation_limit}
use Rattle.refutation.specs.declared.step.Point.{Point}
use Rattle.refutation.specs.declared.step.Point.TheVariants.{Init, At}
use Rattle.refutation.specs.declared.step.Range.{Range}
use Rattle.refutation.specs.declared.state.State.{State}
use Rattle.refutation.specs.declared.state.State.TheVariants.{Open, Dead}
use Rattle.refutation.specs.declared.step.Step.{Step}
use Rattle.refutation.specs.declared.step.Step.TheVariants.{Read, FromRead, WriteOrder, Cycle, States}
use Rattle.text_lines.specs.Items.{lines_of}
use Rattle.text_lines.specs.Words.{spaced}

-- ---- the texts

-- the core and the index, as `1.0`
unfoldable pub id_text : OpId → List ℕ
id_text id = numeral id.core ++ 46 ∷ numeral id.index

-- `init`, or an operation's id
abbrev pub point_text : Point → List ℕ
point_text Init = codes "init"
point_text (At id) = id_text id

abbrev pub is_same_point : Point → Point → Bool
is_same_point Init Init = true
is_same_point Init (At b) = false
is_same_point (At a) Init = false
is_same_point (At a) (At b) = is_same_id a b

-- the first and the last point, or the one that is both
unfoldable pub range_text : Range → List ℕ
range_text range = point_text range.first ++ (if is_same_point range.first range.last then [] else codes ".." ++ point_text range.last)

-- what a step is called, as its line begins
abbrev pub name_text : Step → List ℕ
name_text (Read read ranges) = codes "read "
name_text (FromRead source write path) = codes "from-read "
name_text (WriteOrder source write path) = codes "write-order "
name_text (Cycle path) = codes "cycle :"
name_text (States addresses set) = codes "states"

-- the number of a fact, a write and a path
unfoldable pub reason_text : ℕ → OpId → List ℕ → List ℕ
reason_text source write path = numeral source ++ 32 ∷ (id_text write ++ (codes " :" ++ spaced numeral path))

-- the indices and the words of a state, and the limits of a dead one
unfoldable pub state_text : State → List ℕ
state_text (Open next words) = codes " |" ++ (spaced numeral next ++ (codes " :" ++ spaced numeral words))
state_text (Dead next words limits) =
    codes " !" ++ (spaced numeral next ++ (codes " :" ++ (spaced numeral words ++ (codes " :" ++ spaced numeral limits))))

-- what the line of a step has after its name
unfoldable pub fields_text : Step → List ℕ
fields_text (Read read ranges) = id_text read ++ (codes " :" ++ spaced range_text ranges)
fields_text (FromRead source write path) = reason_text source write path
fields_text (WriteOrder source write path) = reason_text source write path
fields_text (Cycle path) = spaced numeral path
fields_text (States addresses set) = spaced numeral addresses ++ flat_map state_text set

-- the line of a step, without its line feed
abbrev pub step_text : Step → List ℕ
step_text step = name_text step ++ fields_text step

-- the lines of steps
abbrev pub steps_text : List Step → List ℕ
steps_text steps = lines_of step_text steps

abbrev pub header_line : List ℕ
header_line = codes "tardis-refutation 1" ++ 10 ∷ []

-- the last line, with the number of steps
abbrev pub end_line : ℕ → List ℕ
end_line count = codes "end " ++ (numeral count ++ 10 ∷ [])

-- a refutation's text
abbrev pub refutation_text : List Step → List ℕ
refutation_text steps = header_line ++ (steps_text steps ++ end_line (length steps))

-- ---- the numbers in range

abbrev pub IdFits : OpId → Type 0
IdFits id = (id.core < 64) × (id.index < operation_limit)

abbrev pub PointFits : Point → Type 0
PointFits Init = Unit {0}
PointFits (At id) = IdFits id

abbrev pub RangeFits : Range → Type 0
RangeFits range = PointFits range.first × PointFits range.last

abbrev pub PathFits : List ℕ → Type 0
PathFits path = AllByRecursion (λ number. number < 2 ^ 64) path

abbrev pub StateFits : State → Type 0
StateFits (Open next words) = PathFits next × PathFits words
StateFits (Dead next words limits) = PathFits next × PathFits words × PathFits limits

abbrev pub Fits : Step → Type 0
Fits (Read read ranges) = IdFits read × AllByRecursion RangeFits ranges
Fits (FromRead source write path) = (source < 2 ^ 64) × IdFits write × PathFits path
Fits (WriteOrder source write path) = (source < 2 ^ 64) × IdFits write × PathFits path
Fits (Cycle path) = PathFits path
Fits (States addresses set) = PathFits addresses × AllByRecursion StateFits set

abbrev pub EachFits : List Step → Type 0
EachFits steps = AllByRecursion Fits steps
