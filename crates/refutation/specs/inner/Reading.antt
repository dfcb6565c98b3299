-- Reading a step's line from left to right, as functions on its bytes. Private contracts cite these; the public ones
-- speak of the texts alone.
use Rattle.std.specs.Prelude.{ℕ, ◌^◌, if◌then◌else◌, List, Option, Some, None, is_some, codes}
use Rattle.decimal_text.specs.Reading.{◌>>=◌, after, field_at, number_at}
use Rattle.mem_op.specs.declared.id.OpId.{OpId}
use Rattle.mem_op.specs.Limits.{operation_limit}
use Rattle.refutation.specs.declared.step.Point.{Point}
use Rattle.refutation.specs.declared.step.Point.TheVariants.{Init, At}
use Rattle.refutation.specs.declared.step.Range.{Range}
use Rattle.refutation.specs.Grammar.{is_same_point}
use Rattle.text_lines.specs.Fields.{below, field_below}
use Rattle.text_lines.specs.Words.{at_end}

-- an id, and the bytes after it
unfoldable pub id_at : List ℕ → Option (OpId × List ℕ)
id_at bytes =
    field_at 46 bytes >>= λ core. number_at core.1 >>= λ index.
    below 64 core.0 >>= λ c. below operation_limit index.0 >>= λ i. Some (record { core = c; index = i }, index.1)

abbrev pub as_point : OpId × List ℕ → Option (Point × List ℕ)
as_point x = Some (At x.0, x.1)

-- a point, and the bytes after it
unfoldable pub point_at : List ℕ → Option (Point × List ℕ)
point_at bytes =
    if is_some (after (codes "init") bytes) then (after (codes "init") bytes >>= λ rest. Some (Init, rest))
    else (id_at bytes >>= as_point)

-- the range from a point to the one that stands after `..`, which is another
unfoldable pub last_at : Point → List ℕ → Option (Range × List ℕ)
last_at first bytes = point_at bytes >>= λ last. if is_same_point first last.0 then None else at_end (record { first = first; last = last.0 }) last.1

-- a space and then a range, and the bytes after them
unfoldable pub range_at : List ℕ → Option (Range × List ℕ)
range_at bytes =
    after (codes " ") bytes >>= point_at >>= λ first.
    if is_some (after (codes "..") first.1) then (after (codes "..") first.1 >>= last_at first.0) else at_end (record { first = first.0; last = first.0 }) first.1

-- an id with ` :` after it, and the bytes after them
unfoldable pub named_at : List ℕ → Option (OpId × List ℕ)
named_at bytes = id_at bytes >>= λ id. after (codes " :") id.1 >>= λ rest. Some (id.0, rest)

-- the number of a fact and a space
abbrev pub source_at : List ℕ → Option (ℕ × List ℕ)
source_at bytes = field_below (2 ^ 64) bytes
