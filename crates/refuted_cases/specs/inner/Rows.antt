-- How a line of names is read.
use Rattle.std.specs.Prelude.{ℕ, ◌^◌, List, Option, Some, None, if◌then◌else◌}
use Rattle.decimal_text.specs.Reading.{◌>>=◌}
use Rattle.text_lines.specs.Fields.{field_below}
use Rattle.refuted_cases.specs.Names.{is_name}

abbrev pub if_named : ℕ × List ℕ → Option (ℕ × List ℕ)
if_named row = if is_name row.1 then Some row else None

abbrev pub row_at : List ℕ → Option (ℕ × List ℕ)
row_at line = field_below (2 ^ 64) line >>= if_named
