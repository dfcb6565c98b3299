-- The exit statuses of answers, and what is printed of a verdict.
use Rattle.std.specs.Prelude.{ℕ, List, Option, None, Some, if◌then◌else◌}
use Rattle.trace_replay.specs.Texts.{verdict_status as replay_status, verdict_text as replay_text}
use Rattle.verdict.specs.Statuses.{verdict_status}
use Rattle.verdict.specs.Texts.{verdict_text}
use Rattle.commands.specs.SearchAnswers.{search_status, search_text}
use Rattle.commands.specs.declared.answer.CommandAnswer.{CommandAnswer}
use Rattle.commands.specs.declared.answer.CommandAnswer.TheVariants.{Judged, Ordered, Explained, Readable, Searched, Certified, Replayed, Counted, Done, Version}

abbrev pub answer_status : CommandAnswer → ℕ
answer_status (Judged verdict) = verdict_status verdict
answer_status (Ordered verdict) = verdict_status verdict
answer_status (Explained verdict) = verdict_status verdict
answer_status (Readable kind cores) = 0
answer_status (Searched answer) = search_status answer
answer_status (Certified answer) = 0
answer_status (Replayed verdict) = replay_status verdict
answer_status (Counted forbidden) = if forbidden then 1 else 0
answer_status (Done operations) = 0
answer_status Version = 0

-- the text of an answer that is a verdict
abbrev pub answer_text : CommandAnswer → Option (List ℕ)
answer_text (Judged verdict) = Some (verdict_text verdict)
answer_text (Searched answer) = Some (search_text answer)
answer_text (Replayed verdict) = Some (replay_text verdict)
answer_text other = None
