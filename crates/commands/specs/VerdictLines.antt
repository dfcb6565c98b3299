-- The line of a verdict: it comes first on an output, and the verdict is right of what was read.
use Rattle.std.specs.Prelude.{◌≡◌, ◌⊎◌, ℕ, List, Option}
use Rattle.command_line.specs.declared.request.Request.{Request}
use Rattle.command_line.specs.declared.request.Request.TheVariants.{Check, Order, Explain, Search, Confirm, Replay}
use Rattle.log_file.specs.Sinks.{Sink, Takes, TookAtMost, TookFirst, line}
use Rattle.trace_replay.specs.Answers.{IsVerdict}
use Rattle.trace_replay.specs.Texts.{verdict_status as replay_status, verdict_text as replay_text}
use Rattle.trace_replay.specs.declared.verdict.ReplayVerdict.{ReplayVerdict}
use Rattle.verdict.specs.Statuses.{verdict_status}
use Rattle.verdict.specs.Texts.{verdict_text}
use Rattle.verdict.specs.declared.answer.Verdict.{Verdict}
use Rattle.commands.specs.Checking.{FilesGet}
use Rattle.commands.specs.Ordering.{TextsGet}
use Rattle.commands.specs.Replaying.{TellsText}
use Rattle.commands.specs.SearchAnswers.{IsRightOf, search_status, search_text}
use Rattle.commands.specs.Traces.{TellsTrace}
use Rattle.commands.specs.declared.search_answer.SearchAnswer.{SearchAnswer}
use Rattle.commands.specs.Refusals.{refusal_status}
use Rattle.commands.specs.declared.refusal.Refusal.{Refusal}
use Rattle.command_line.specs.declared.request.TraceFiles.{TraceFiles}

-- the line of the verdict of this status on logs
abbrev pub IsLogLine : (Verdict → Type 0) → ℕ → List ℕ → Type 0
IsLogLine Gets status text = (verdict : Verdict) × Gets verdict × (status ≡ verdict_status verdict) × (text ≡ line (verdict_text verdict))

-- the line of the answer of this status to a trace
abbrev pub IsTraceLine : (List ℕ → Option (List ℕ)) → TraceFiles → ℕ → List ℕ → Type 0
IsTraceLine told files status text =
    (answer : SearchAnswer) × TellsTrace told files (λ cores. IsRightOf cores answer) × (status ≡ search_status answer) × (text ≡ line (search_text answer))

-- the line of the verdict of this status on the order of a trace's lines
abbrev pub IsReplayLine : (List ℕ → Option (List ℕ)) → List ℕ → ℕ → List ℕ → Type 0
IsReplayLine told name status text =
    (verdict : ReplayVerdict) × TellsText told name (λ bytes. IsVerdict bytes verdict) × (status ≡ replay_status verdict) × (text ≡ line (replay_text verdict))

-- the line of the verdict on what the request reads; the verdict has this exit status
abbrev pub IsVerdictLine : (List ℕ → Option (List ℕ)) → Request → ℕ → List ℕ → Type 0
IsVerdictLine told (Check asked) status text = IsLogLine (FilesGet told asked) status text
IsVerdictLine told (Explain asked) status text = IsLogLine (FilesGet told asked.check) status text
IsVerdictLine told (Order asked) status text = IsLogLine (TextsGet told asked.files.items) status text
IsVerdictLine told (Search asked) status text = IsTraceLine told asked.trace status text
IsVerdictLine told (Confirm asked) status text = IsTraceLine told asked.trace status text
IsVerdictLine told (Replay asked) status text = IsReplayLine told asked.trace.now status text
IsVerdictLine told other status text = ⊥

-- standard output took the line of the verdict first
abbrev pub SaysVerdict : (List ℕ → Option (List ℕ)) → Sink → Sink → Request → ℕ → Type 0
SaysVerdict told out out' asked status = (text : List ℕ) × IsVerdictLine told asked status text × TookFirst out out' text

-- standard error took it, or failed after a beginning of it
abbrev pub TellsVerdict : (List ℕ → Option (List ℕ)) → Sink → Sink → Request → ℕ → Type 0
TellsVerdict told err err' asked status = (text : List ℕ) × IsVerdictLine told asked status text × Takes err err' text

-- Standard output took nothing; or, where the refusal has status 4, at most a beginning of the line of the verdict and of what follows.
abbrev pub SaysNoMore : (List ℕ → Option (List ℕ)) → Sink → Sink → Request → Refusal → Type 0
SaysNoMore told out out' asked refusal =
    (out' ≡ out) ⊎ ((refusal_status refusal ≡ 4) × (status : ℕ) × (text : List ℕ) × IsVerdictLine told asked status text × TookAtMost out out' text)
