-- What a request came to, before standard error tells anything about it.
use Rattle.std.specs.Prelude.{◌≡◌, ⊤, ℕ, List, Option, Result, IfErr, IfOk}
use Rattle.host_files.specs.Files.{Files, KeepsFiles}
use Rattle.command_line.specs.declared.request.Request.{Request}
use Rattle.command_line.specs.declared.request.Request.TheVariants.{Explain, Inspect, Order, Vet}
use Rattle.commands.specs.Answers.{answer_status}
use Rattle.commands.specs.Promises.{IsAnswered, IsPutName, IsRefused, IsUnreadThere}
use Rattle.commands.specs.Ordering.{TextsGet}
use Rattle.commands.specs.declared.answer.CommandAnswer.TheVariants.{Ordered}
use Rattle.verdict.specs.declared.answer.Verdict.{Verdict}
use Rattle.commands.specs.Refusals.{refusal_status}
use Rattle.litmus.specs.Collecting.{TellsNo}
use Rattle.log_file.specs.Sinks.{Sink}
use Rattle.commands.specs.declared.answer.CommandAnswer.{CommandAnswer}
use Rattle.commands.specs.declared.place.Input.{Input}
use Rattle.commands.specs.declared.refusal.Refusal.{Refusal}
use Rattle.commands.specs.declared.refusal.Refusal.TheVariants.{Judge, Simulation, Run, Collect, Unread, Unwritten, LogUnwritten, OutOfMemory}

-- the answer to an order is the verdict, which is told on standard error
abbrev pub IsAside : (List ℕ → Option (List ℕ)) → Request → CommandAnswer → Type 0
IsAside told (Order asked) answer = (verdict : Verdict) × (answer ≡ Ordered verdict) × TextsGet told asked.files.items verdict
IsAside told other answer = ⊤

-- The request came to this answer or refusal, and left the folder and standard output like this.
pub record Came (old new : Files) (Unread : List ℕ → Type 0) (out out' : Sink) (asked : Request) (came : Result CommandAnswer Refusal) : Type 0 where
  pub files : KeepsFiles old.told new.told (IsPutName asked)
  pub answered : IfOk came (λ answer. IsAnswered old new out out' asked (answer_status answer))
  pub aside : IfOk came (IsAside old.told asked)
  pub refused : IfErr came (IsRefused old new Unread out out' asked)
  pub refuted : IfErr came (λ refusal. ¬ (refusal_status refusal ≡ 1))

-- a refusal that is neither of a run that left something, nor of one that got a No
abbrev pub IsOfFile : Refusal → Type 0
IsOfFile (Simulation fault) = ⊥
IsOfFile (Run fault) = ⊥
IsOfFile (Collect fault) = ¬ (TellsNo fault)
IsOfFile other = ⊤

-- such a refusal, of no logs and without number 28: for what a text says, say, or because memory ran out
abbrev pub IsOfText : Refusal → Type 0
IsOfText (Judge fault) = ⊥
IsOfText (Unread place) = ⊥
IsOfText other = IsOfFile other

-- the same, but with number 28 where this input couldn't be opened or read, which is `unread`
abbrev pub IsInputFault : Input → Type 0 → Refusal → Type 0
IsInputFault place unread (Unread other) = (other ≡ place) × unread
IsInputFault place unread other = IsOfText other

-- a refusal of what the request reads, or because memory ran out
pub record IsReadFault (Unread : List ℕ → Type 0) (asked : Request) (refusal : Refusal) : Type 0 where
  pub unread : IsUnreadThere Unread asked refusal
  pub of_file : IsOfFile refusal

-- something isn't written: an output or a log failed, or there was no memory
abbrev pub IsUnprinted : Refusal → Type 0
IsUnprinted (Unwritten place) = ⊤
IsUnprinted (LogUnwritten file) = ⊤
IsUnprinted OutOfMemory = ⊤
IsUnprinted other = ⊥

-- a refusal that isn't of an output
abbrev pub IsOfInput : Refusal → Type 0
IsOfInput (Unwritten place) = ⊥
IsOfInput other = ⊤

-- this refusal of the request is told with more lines below its first
abbrev pub IsToldMore : Request → Refusal → Type 0
IsToldMore (Explain asked) refusal = IsOfInput refusal
IsToldMore (Inspect asked) refusal = ⊤
IsToldMore (Vet asked) refusal = ⊤
IsToldMore other refusal = ⊥
