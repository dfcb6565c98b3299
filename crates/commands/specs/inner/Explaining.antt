-- The text of an explanation.
use Rattle.std.specs.Prelude.{ℕ, List, Option}
use Rattle.std.specs.Str.Iter.{HasSubslice}
use Rattle.command_line.specs.declared.request.Explain.{Explain}
use Rattle.log_file.specs.Sinks.{line}
use Rattle.telling.specs.FirstLines.{IsGrown}
use Rattle.verdict.specs.Texts.{verdict_text}
use Rattle.verdict.specs.declared.answer.Verdict.{Verdict}
use Rattle.commands.specs.Checking.{FilesAreConsistent, FilesGet}
use Rattle.commands.specs.OtherOrders.{another_words}

-- the files get this verdict, the text begins with its line, and it says that another order explains all values only if one does
pub record IsExplained (told : List ℕ → Option (List ℕ)) (asked : Explain) (verdict : Verdict) (text : List ℕ) : Type 0 where
  pub gets : FilesGet told asked.check verdict
  pub first : IsGrown (line (verdict_text verdict)) text
  pub another : HasSubslice text another_words → FilesAreConsistent told asked.check
