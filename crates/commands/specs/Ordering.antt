-- What ordering files answers, and what standard output took of the order. The sink was `old` before and is `new` after.
use Rattle.std.specs.Prelude.{ℕ, List, Option, Ok}
use Rattle.std.specs.Borrow.{Bor}
use Rattle.merge_judge.specs.Answer.{SpellsOrder}
use Rattle.verdict.specs.FaultParts.{FaultParts}
use Rattle.verdict.specs.Judgement.{IsAnswerTo}
use Rattle.verdict.specs.declared.answer.Verdict.{Verdict}
use Rattle.verdict.specs.declared.answer.Verdict.TheVariants.{No}
use Rattle.commands.specs.LogFiles.{AreTextsOf}
use Rattle.log_file.specs.Sinks.{Sink, Took}

-- the set that the texts of the files spell gets this verdict
abbrev pub TextsGet : (List ℕ → Option (List ℕ)) → List (Bor (List ℕ)) → Verdict → Type 0
TextsGet told names verdict = (texts : List (List ℕ)) × AreTextsOf told names texts × IsAnswerTo texts (Ok verdict)

-- it gets a No
abbrev pub TextsGetNo : (List ℕ → Option (List ℕ)) → List (Bor (List ℕ)) → Type 0
TextsGetNo told names = (fault : FaultParts) × TextsGet told names (No fault)

-- the sink took the order text of a sequential order of the set that the texts of the files spell
abbrev pub TakesOrder : (List ℕ → Option (List ℕ)) → List (Bor (List ℕ)) → Sink → Sink → Type 0
TakesOrder told names old new = (texts : List (List ℕ)) × AreTextsOf told names texts × Took old new (SpellsOrder texts)
