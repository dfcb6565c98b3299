use Rattle.std.proofs.Common.{◌≡◌, ℕ, List, Option, Some, None, sym}
use Rattle.std.specs.Prelude.{MatchOption}
use Rattle.trace.specs.Grammar.{IsLine}
use Rattle.trace.specs.declared.line.TraceLine.{TraceLine}
use Rattle.trace.specs.inner.Reading.{line_of}
use Rattle.trace.proofs.LineTexts.{line_takes, no_line}
use Rattle.trace.proofs.parsing.parse_line.Goals as goal

said_by : (line : List ℕ) (o : Option TraceLine) → o ≡ line_of line → MatchOption o ((said : TraceLine) → ¬ IsLine line said) (IsLine line)
said_by line None is = no_line line is
said_by line (Some said) is = line_takes line said (sym is)

pub returns : goal.returns
returns c = said_by c.args.line.now c.read_line.result c.read_line.ensures
