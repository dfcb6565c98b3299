-- Lines of comma-separated values, and what a writer of them in memory wrote.
use Rattle.std.specs.Prelude.{◌≡◌, ℕ, ◌≤◌, false, List, [], ◌∷◌, ◌++◌, length, Option, Some}
use Rattle.std.specs.Global.{Vec}
use Rattle.std.specs.List.{AllByRecursion, join_with_byte}
use Rattle.csv.specs.Writing.{default_writer, fields_written, has_written, needs_quotes, text_written, writer_setup}
use Rattle.csv.specs.declared.writer.Writer.{Writer}

-- the cells of a line, with a comma between each two
abbrev pub cells_line : List (List ℕ) → List ℕ
cells_line cells = join_with_byte 44 cells ++ 10 ∷ []

-- what a writer wrote
abbrev pub written : Writer (Vec ℕ) → Option (List ℕ)
written writer = text_written (λ text. Some text.items) writer

-- the writer stands between two lines, with the default settings
pub record IsFresh (writer : Writer (Vec ℕ)) : Type 0 where
  pub setup : writer_setup writer ≡ default_writer
  pub fields : fields_written writer ≡ 0
  pub none : has_written writer ≡ false

-- a cell needs no quotes
abbrev pub IsPlain : List ℕ → Type 0
IsPlain cell = needs_quotes default_writer cell ≡ false

-- two cells or more, none of which needs quotes
pub record IsPlainRow (cells : List (List ℕ)) : Type 0 where
  pub some : 2 ≤ length cells
  pub each : AllByRecursion IsPlain cells
