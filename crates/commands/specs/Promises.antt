-- What a call of the program promises. The folder and standard output were `old` and `out` before, and are `new` and `out'` after.
use Rattle.std.specs.Prelude.{◌≡◌, ◌⊎◌, ⊤, ℕ, List, [], Contains, Option, None, Some}
use Rattle.std.specs.Borrow.{Bor}
use Rattle.std.specs.Option.{IsSomeAnd}
use Rattle.command_line.specs.Asking.{AreRefused, Asks}
use Rattle.command_line.specs.Files.{IsApart, files_read}
use Rattle.command_line.specs.RunFiles.{IsLogName}
use Rattle.command_line.specs.declared.request.Request.{Request}
use Rattle.command_line.specs.declared.request.Request.TheVariants.{Check, Order, Explain, Inspect, Vet, Upgrade, Sim, Run, Litmus, Search, Confirm, Replay}
use Rattle.command_line.specs.declared.request.TraceFiles.{TraceFiles}
use Rattle.command_line.specs.declared.request.TraceFiles.TheVariants.{One, Logs, Sourced}
use Rattle.host_files.specs.Files.{Files}
use Rattle.mem_op.specs.Consistency.{IsConsistent}
use Rattle.merge_judge.specs.OrderText.{LacksEnd}
use Rattle.verdict.specs.declared.judge_fault.JudgeFault.TheVariants.{Read}
use Rattle.commands.specs.Checking.{FilesAreConsistent, FilesGetNo, FilesRunFlat, TextsAreConsistent}
use Rattle.commands.specs.Leaving.{LeavesYes}
use Rattle.commands.specs.LogFiles.{IsUnreadAt}
use Rattle.commands.specs.Numbers.{IsLeftName}
use Rattle.commands.specs.Ordering.{TakesOrder, TextsGetNo}
use Rattle.commands.specs.Outputs.{IsNameOf}
use Rattle.commands.specs.Refusals.{refusal_status, refusal_text}
use Rattle.commands.specs.Replaying.{IsConsistentText, IsOutOfOrder, TellsText}
use Rattle.commands.specs.Running.{LeavesRun}
use Rattle.commands.specs.Searching.{IsOutputName, ShowsAnswer}
use Rattle.commands.specs.VerdictLines.{SaysNoMore, SaysVerdict, TellsVerdict}
use Rattle.commands.specs.Tabling.{AreRunsCounted}
use Rattle.commands.specs.Confirming.{HasCertificate}
use Rattle.commands.specs.OtherOrders.{TellsAnother}
use Rattle.commands.specs.Simulating.{IsSimName, LeavesTraced}
use Rattle.log_file.specs.Sinks.{Sink, Takes, Took, line}
use Rattle.commands.specs.Traces.{TellsTrace, own_files}
use Rattle.commands.specs.Upgrading.{LeavesAnew}
use Rattle.commands.specs.declared.place.Input.{Input}
use Rattle.commands.specs.declared.place.Input.TheVariants as input
use Rattle.commands.specs.declared.refusal.Refusal.{Refusal}
use Rattle.commands.specs.declared.refusal.Refusal.TheVariants as refused
pub use Rattle.host_files.specs.Files.{KeepsFiles}
pub use Rattle.log_file.specs.Sinks.{sink_of}

-- the words ask for something that puts no file in the place of another, and this holds of it
abbrev pub AskFor : List (List ℕ) → (Request → Type 0) → Type 0
AskFor words Holds = (asked : Request) × Asks words asked × IsApart asked × Holds asked

-- ---- after 0

-- If a verdict was asked for, its files spell a set whose operations are sequentially consistent. If a trace was searched, confirmed or replayed, its
-- operations are sequentially consistent; if logs have the trace, their operations have their words, even when the sources are taken as given.
abbrev pub AreConsistent : (List ℕ → Option (List ℕ)) → Request → Type 0
AreConsistent told (Check asked) = FilesAreConsistent told asked
AreConsistent told (Order asked) = TextsAreConsistent told asked.files.items
AreConsistent told (Explain asked) = FilesAreConsistent told asked.check
AreConsistent told (Search asked) = TellsTrace told (own_files asked.trace) IsConsistent
AreConsistent told (Confirm asked) = TellsTrace told (own_files asked.trace) IsConsistent
AreConsistent told (Replay asked) = TellsText told asked.trace.now IsConsistentText
AreConsistent told other = ⊤

-- if the set was checked against programs, some whole run of these on the flat machine performs just the operations of the set
abbrev pub RunFlat : (List ℕ → Option (List ℕ)) → Request → Type 0
RunFlat told (Check asked) = FilesRunFlat told asked
RunFlat told (Explain asked) = FilesRunFlat told asked.check
RunFlat told other = ⊤

-- if an order was asked for, standard output took the order text of a sequential order of the set
abbrev pub AreOrdered : (List ℕ → Option (List ℕ)) → Sink → Sink → Request → Type 0
AreOrdered told out out' (Order asked) = TakesOrder told asked.files.items out out'
AreOrdered told out out' other = ⊤

-- if logs were to be written anew, the new files spell in format 2 the logs that the old ones spelled
abbrev pub AreUpgraded : Files → Files → Request → Type 0
AreUpgraded old new (Upgrade asked) = LeavesAnew old new asked
AreUpgraded old new other = ⊤

-- if a run was asked for, the judge says Yes to the logs that the run leaves, against its programs
abbrev pub LeaveYes : (List ℕ → Option (List ℕ)) → (List ℕ → Option (List ℕ)) → Request → Type 0
LeaveYes told told' (Sim asked) = LeavesYes told told' asked.programs.now asked.out.now
LeaveYes told told' (Run asked) = LeavesYes told told' asked.programs.now asked.out.now
LeaveYes told told' other = ⊤

-- ---- after 1

-- If a verdict was asked for, the set of its files gets No, and what standard output took of an order lacks the `end` line. If a trace was searched
-- or confirmed, its operations aren't sequentially consistent; they have the sources in place of the words if the sources are taken as given. If a
-- trace was replayed, the order of its lines isn't sequential.
abbrev pub AreWrong : (List ℕ → Option (List ℕ)) → Sink → Sink → Request → Type 0
AreWrong told out out' (Check asked) = FilesGetNo told asked
AreWrong told out out' (Order asked) = TextsGetNo told asked.files.items × Took out out' LacksEnd
AreWrong told out out' (Explain asked) = FilesGetNo told asked.check
AreWrong told out out' (Search asked) = TellsTrace told asked.trace (λ cores. ¬ (IsConsistent cores))
AreWrong told out out' (Confirm asked) = TellsTrace told asked.trace (λ cores. ¬ (IsConsistent cores))
AreWrong told out out' (Replay asked) = TellsText told asked.trace.now IsOutOfOrder
AreWrong told out out' other = ⊤

-- ---- after 0 or 1

-- standard output took the line of the verdict first
abbrev pub ArePrinted : (List ℕ → Option (List ℕ)) → Sink → Sink → Request → ℕ → Type 0
ArePrinted told out out' (Check asked) status = SaysVerdict told out out' (Check asked) status
ArePrinted told out out' (Explain asked) status = SaysVerdict told out out' (Explain asked) status
ArePrinted told out out' (Search asked) status = SaysVerdict told out out' (Search asked) status
ArePrinted told out out' (Confirm asked) status = SaysVerdict told out out' (Confirm asked) status
ArePrinted told out out' (Replay asked) status = SaysVerdict told out out' (Replay asked) status
ArePrinted told out out' other status = ⊤

-- of an order standard error took the line of the verdict, or failed after a beginning of it
abbrev pub AreToldAside : (List ℕ → Option (List ℕ)) → Sink → Sink → Request → ℕ → Type 0
AreToldAside told err err' (Order asked) status = TellsVerdict told err err' (Order asked) status
AreToldAside told err err' other status = ⊤

-- what a search was to put shows its answer
abbrev pub AreShown : (List ℕ → Option (List ℕ)) → (List ℕ → Option (List ℕ)) → Request → ℕ → Type 0
AreShown told told' (Search asked) status = ShowsAnswer told told' asked status
AreShown told told' other status = ⊤

-- standard output took the table of as many runs of the litmus test as were asked for
abbrev pub AreCounted : (List ℕ → Option (List ℕ)) → Sink → Sink → Request → ℕ → Type 0
AreCounted told out out' (Litmus asked) status = AreRunsCounted told asked out out' status
AreCounted told out out' other status = ⊤

-- the certificate that was looked at is one of the trace
abbrev pub AreVetted : (List ℕ → Option (List ℕ)) → Request → Type 0
AreVetted told (Vet asked) = HasCertificate told asked
AreVetted told other = ⊤

-- an explanation says that another order explains all values only where one does
abbrev pub TellAnother : (List ℕ → Option (List ℕ)) → Sink → Sink → Request → Type 0
TellAnother told out out' (Explain asked) = TellsAnother told asked out out'
TellAnother told out out' other = ⊤

-- the request was answered with this status
pub record IsAnswered (old new : Files) (out out' : Sink) (asked : Request) (status : ℕ) : Type 0 where
  pub sound : status ≡ 0 → AreConsistent old.told asked
  pub flat : status ≡ 0 → RunFlat old.told asked
  pub no : status ≡ 1 → AreWrong old.told out out' asked
  pub order : status ≡ 0 → AreOrdered old.told out out' asked
  pub printed : ArePrinted old.told out out' asked status
  pub shown : AreShown old.told new.told asked status
  pub counted : AreCounted old.told out out' asked status
  pub vetted : status ≡ 0 → AreVetted old.told asked
  pub another : TellAnother old.told out out' asked
  pub upgraded : status ≡ 0 → AreUpgraded old new asked
  pub yes : status ≡ 0 → IsApart asked → LeaveYes old.told new.told asked

-- ---- which files are put

-- a name under which the request may put a file: that of a log, of a run's numbers or events, of the totals of a litmus test's runs, of a picture or
-- of a certificate
abbrev pub IsPutName : Request → List ℕ → Type 0
IsPutName (Explain asked) name = IsNameOf asked.picture name
IsPutName (Upgrade asked) name = IsLogName asked.out.now name
IsPutName (Sim asked) name = IsSimName asked name
IsPutName (Run asked) name = IsLeftName asked.out.now asked.statistics name
IsPutName (Litmus asked) name = IsNameOf asked.statistics name
IsPutName (Search asked) name = IsOutputName asked name
IsPutName other name = ⊥

-- such a name, and no file of this name is read
abbrev pub IsPutUnread : Request → List ℕ → Type 0
IsPutUnread asked name = IsPutName asked name × ¬ (Contains (files_read asked) name)

-- ---- after a refusal

-- The refusal comes before any file is put. It is for a file that was read or couldn't be, for a number, for a run of a litmus test, or because a
-- search gave up. Each refusal with status 2 or 3 is such.
abbrev pub ComesFirst : Refusal → Type 0
ComesFirst (refused.Simulation fault) = ⊥
ComesFirst (refused.Run fault) = ⊥
ComesFirst (refused.Unwritten place) = ⊥
ComesFirst (refused.LogUnwritten file) = ⊥
ComesFirst refused.OutOfMemory = ⊥
ComesFirst refusal = ⊤

-- after a fault of a run, its logs up to the fault are left, as far as they could be written
abbrev pub LeavesSoFar : Files → Files → Request → Refusal → Type 0
LeavesSoFar old new (Sim asked) (refused.Simulation fault) = LeavesTraced old new asked fault
LeavesSoFar old new (Run asked) (refused.Run fault) = LeavesRun old new asked fault
LeavesSoFar old new asked refusal = ⊤

-- the one file of a trace; none if logs have it
abbrev pub trace_file : TraceFiles → Option (Bor (List ℕ))
trace_file (One name) = Some name
trace_file files = None

-- the files of the logs whose trace it is; none if one file has it
abbrev pub trace_logs : TraceFiles → List (Bor (List ℕ))
trace_logs (One name) = []
trace_logs (Logs names) = names.items
trace_logs (Sourced names) = names.items

-- the file that the request reads as this input, if there is one
abbrev pub file_at : Request → Input → Option (Bor (List ℕ))
file_at (Check asked) input.Programs = asked.program
file_at (Explain asked) input.Programs = asked.check.program
file_at (Explain asked) input.Names = asked.names
file_at (Inspect asked) input.Programs = Some asked.file
file_at (Inspect asked) input.Test = Some asked.file
file_at (Inspect asked) input.Trace = Some asked.file
file_at (Vet asked) input.Trace = trace_file asked.trace
file_at (Vet asked) input.Certificate = Some asked.certificate
file_at (Sim asked) input.Programs = Some asked.programs
file_at (Sim asked) input.Schedule = asked.schedule
file_at (Run asked) input.Programs = Some asked.programs
file_at (Litmus asked) input.Test = Some asked.test
file_at (Search asked) input.Trace = trace_file asked.trace
file_at (Search asked) input.Names = asked.names
file_at (Confirm asked) input.Trace = trace_file asked.trace
file_at (Confirm asked) input.Certificate = Some asked.certificate
file_at (Replay asked) input.Trace = Some asked.trace
file_at asked place = None

-- the files of the set of logs that the request reads
abbrev pub logs_read : Request → List (Bor (List ℕ))
logs_read (Check asked) = asked.files.items
logs_read (Order asked) = asked.files.items
logs_read (Explain asked) = asked.check.files.items
logs_read (Upgrade asked) = asked.files.items
logs_read (Search asked) = trace_logs asked.trace
logs_read (Confirm asked) = trace_logs asked.trace
logs_read (Vet asked) = trace_logs asked.trace
logs_read other = []

-- a refusal with number 28 names a file that couldn't be opened or read
abbrev pub IsUnreadThere : (List ℕ → Type 0) → Request → Refusal → Type 0
IsUnreadThere unread asked (refused.Judge (Read file)) = IsUnreadAt unread (logs_read asked) file
IsUnreadThere unread asked (refused.Unread place) = IsSomeAnd (file_at asked place) (λ name. unread name.now)
IsUnreadThere unread asked refusal = ⊤

-- What standard output took lacks the `end` line of an order. Of another verdict it took nothing, or a beginning where it failed. Where an explanation
-- is refused for a file, it is told there.
abbrev pub IsCutShort : (List ℕ → Option (List ℕ)) → Sink → Sink → Request → Refusal → Type 0
IsCutShort told out out' (Order asked) refusal = Took out out' LacksEnd
IsCutShort told out out' (Check asked) refusal = SaysNoMore told out out' (Check asked) refusal
IsCutShort told out out' (Explain asked) (refused.Unwritten place) = SaysNoMore told out out' (Explain asked) (refused.Unwritten place)
IsCutShort told out out' (Search asked) refusal = SaysNoMore told out out' (Search asked) refusal
IsCutShort told out out' (Confirm asked) refusal = SaysNoMore told out out' (Confirm asked) refusal
IsCutShort told out out' (Replay asked) refusal = SaysNoMore told out out' (Replay asked) refusal
IsCutShort told out out' other refusal = ⊤

-- What holds after this refusal of the request. If the refusal comes before any file is put, no file is changed. `Unread` holds of the name of a file
-- that couldn't be opened or read.
pub record IsRefused (old new : Files) (Unread : List ℕ → Type 0) (out out' : Sink) (asked : Request) (refusal : Refusal) : Type 0 where
  pub kept : ComesFirst refusal → new.told ≡ old.told
  pub left : LeavesSoFar old new asked refusal
  pub unread : IsUnreadThere Unread asked refusal
  pub cut : IsCutShort old.told out out' asked refusal

-- standard error took the line of this refusal, or failed after a beginning of it; and the refusal has this exit status
pub record IsTold (err err' : Sink) (exit : ℕ) (refusal : Refusal) : Type 0 where
  pub text : Takes err err' (line (refusal_text refusal))
  pub status : exit ≡ refusal_status refusal

-- a call that was refused: standard error was told why
abbrev pub IsRefusedCall : Files → Files → (List ℕ → Type 0) → Sink → Sink → Sink → Sink → ℕ → Request → Type 0
IsRefusedCall old new unread out out' err err' status asked =
    (refusal : Refusal) × IsTold err err' status refusal × IsRefused old new unread out out' asked refusal

-- Words that are refused for their usage, or for which there was no memory: the folder and standard output are as they were, and standard error took a
-- line, or failed after a beginning of it.
pub record AreUnasked (old new : Files) (words : List (List ℕ)) (out out' err err' : Sink) (status : ℕ) : Type 0 where
  pub files : new ≡ old
  pub output : out' ≡ out
  pub told : (text : List ℕ) × Takes err err' (line text)
  pub reason : ((status ≡ 3) × AreRefused words) ⊎ (status ≡ 4)
