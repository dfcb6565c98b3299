-- What a request came to, from what its command answered, and what a call promises of it.
use Rattle.std.proofs.Common.{arith, rules, refl, ◌≡◌, ◌≤◌, ◌<◌, ◌⊎◌, ◌∙◌, ap, subst, sym, ℕ, zero, suc, true, false, List, [], Option, None, Some, Result, Ok, Err, inl, inr}
use Rattle.std.proofs.lemmas.List.{append-nil}
use Rattle.std.specs.Prelude.{IfSome}
use Rattle.std.specs.Io.KnownBytes.{Appends}
use Rattle.std.specs.Borrow.{Bor}
use Rattle.log_file.specs.Devices.{TakesBeginning}
use Rattle.std.specs.Option.{IsSomeAnd}
use Rattle.command_line.specs.declared.request.Explain.{Explain}
use Rattle.command_line.specs.declared.request.Request.{Request}
use Rattle.command_line.specs.declared.request.Request.TheVariants as request
use Rattle.command_line.specs.declared.request.TraceFiles.{TraceFiles}
use Rattle.host_files.specs.Files.{Files, IsOnlyRead, IsUnread, KeepsFiles}
use Rattle.litmus.specs.Collecting.{TellsNo}
use Rattle.litmus.specs.declared.run_cause.RunCause.TheVariants as cause
use Rattle.litmus.specs.declared.run_fault.CollectFault.{CollectFault}
use Rattle.litmus.specs.declared.run_fault.CollectFault.TheVariants as table
use Rattle.mem_op.specs.Consistency.{IsConsistent}
use Rattle.verdict.specs.Statuses.{verdict_status}
use Rattle.verdict.specs.Texts.{verdict_text}
use Rattle.verdict.specs.declared.answer.Verdict.{Verdict}
use Rattle.verdict.specs.declared.answer.Verdict.TheVariants.{Yes, No}
use Rattle.verdict.specs.declared.judge_fault.JudgeFault.{JudgeFault}
use Rattle.verdict.specs.declared.judge_fault.JudgeFault.TheVariants.{Read}
use Rattle.commands.proofs.Files.{keeps_files, keeps_told, still_first}
use Rattle.commands.specs.Answers.{answer_status, answer_text}
use Rattle.commands.specs.Promises.{AreToldAside, IsAnswered, IsCutShort, IsPutName, IsRefused, IsRefusedCall, IsUnreadThere, LeavesSoFar, file_at}
use Rattle.commands.specs.Refusals.{collect_fault_status, judge_fault_status, refusal_status, refusal_text}
use Rattle.commands.specs.SearchAnswers.{IsRightOf, search_status}
use Rattle.commands.specs.VerdictLines.{IsVerdictLine, SaysNoMore, SaysVerdict}
use Rattle.trace_replay.specs.declared.verdict.ReplayVerdict.TheVariants as replayed
use Rattle.log_file.specs.Sinks.{Sink, Takes, line}
use Rattle.commands.specs.Traces.{TellsTrace}
use Rattle.commands.specs.declared.answer.CommandAnswer.{CommandAnswer}
use Rattle.commands.specs.declared.answer.CommandAnswer.TheVariants.{Judged, Ordered, Explained, Readable, Searched, Certified, Replayed, Counted, Done, Version}
use Rattle.commands.specs.declared.place.Input.{Input}
use Rattle.commands.specs.declared.refusal.Refusal.{Refusal}
use Rattle.commands.specs.declared.refusal.Refusal.TheVariants.{Judge, Simulation, Run, Collect, Unread, Unwritten, LogUnwritten, OutOfMemory}
use Rattle.commands.specs.declared.search_answer.SearchAnswer.{SearchAnswer}
use Rattle.commands.specs.declared.search_answer.SearchAnswer.TheVariants as searched
use Rattle.commands.specs.inner.Performing.{Came, IsAside, IsInputFault, IsOfFile, IsOfText, IsReadFault, IsToldMore, IsUnprinted}
use Rattle.commands.specs.inner.Printing.{IsPrinted}

-- ---- what the status of an answer says

pub right_no : (told : List ℕ → Option (List ℕ)) (files : TraceFiles) (answer : SearchAnswer) → TellsTrace told files (λ cores. IsRightOf cores answer)
    → search_status answer ≡ 1 → TellsTrace told files (λ cores. ¬ (IsConsistent cores))
right_no told files (searched.Yes operations) tells one = cc
right_no told files (searched.No operations) tells one = let (cores, is, right) = tells in (cores, is, right.0)
right_no told files (searched.NoBySources operations) tells one = let (cores, is, right) = tells in (cores, is, right.0)

-- an answer ends with 0 or 1
verdict_low : (verdict : Verdict) → ¬ (2 ≤ verdict_status verdict)
verdict_low (Yes count) two = absurd (omega (arith, two))
verdict_low (No fault) two = absurd (omega (arith, two))

low : (answer : CommandAnswer) → ¬ (2 ≤ answer_status answer)
low (Judged verdict) two = verdict_low verdict two
low (Ordered verdict) two = verdict_low verdict two
low (Explained verdict) two = verdict_low verdict two
low (Readable kind cores) two = absurd (omega (arith, two))
low (Searched (searched.Yes operations)) two = absurd (omega (arith, two))
low (Searched (searched.No operations)) two = absurd (omega (arith, two))
low (Searched (searched.NoBySources operations)) two = absurd (omega (arith, two))
low (Certified answer) two = absurd (omega (arith, two))
low (Replayed (replayed.Yes count)) two = absurd (omega (arith, two))
low (Replayed (replayed.No wrong)) two = absurd (omega (arith, two))
low (Counted true) two = absurd (omega (arith, two))
low (Counted false) two = absurd (omega (arith, two))
low (Done operations) two = absurd (omega (arith, two))
low Version two = absurd (omega (arith, two))

pub not_refused : (X : Type 0) (answer : CommandAnswer) (status : ℕ) → status ≡ answer_status answer → 2 ≤ status → X
not_refused X answer status same two = absurd (low answer (subst (λ (n : ℕ). 2 ≤ n) same two))

-- ---- what the status of a refusal says

not_zero : (refusal : Refusal) → ¬ (refusal_status refusal ≡ 0)
not_zero refusal is = search rules

-- no refusal has a status below 2
pub told_two : (X : Type 0) (refusal told : Refusal) (status : ℕ) → ¬ (refusal_status refusal ≡ 1) → (told ≡ refusal) ⊎ (told ≡ OutOfMemory)
    → status ≡ refusal_status told → status < 2 → X
told_two X refusal told zero not_one which same below = absurd (not_zero told (sym same))
told_two X refusal told (suc zero) not_one (inl is) same below = absurd (not_one (sym (ap refusal_status is) ∙ sym same))
told_two X refusal told (suc zero) not_one (inr is) same below = let memory : suc zero ≡ 4 = same ∙ ap refusal_status is in cc
told_two X refusal told (suc (suc more)) not_one which same below = absurd (omega (arith, below))

pub memory_status : (told : Refusal) (status : ℕ) → (told ≡ OutOfMemory) ⊎ (told ≡ OutOfMemory) → status ≡ refusal_status told → status ≡ 4
memory_status told status (inl is) same = same ∙ ap refusal_status is
memory_status told status (inr is) same = same ∙ ap refusal_status is

-- ---- what a request came to

-- no run had a fault
none_left : (old new : Files) (asked : Request) (refusal : Refusal) → IsUnprinted refusal → LeavesSoFar old new asked refusal
none_left old new (request.Sim asked) (Unwritten place) is = tt
none_left old new (request.Sim asked) (LogUnwritten file) is = tt
none_left old new (request.Sim asked) OutOfMemory is = tt
none_left old new (request.Sim asked) other is = absurd is
none_left old new (request.Run asked) (Unwritten place) is = tt
none_left old new (request.Run asked) (LogUnwritten file) is = tt
none_left old new (request.Run asked) OutOfMemory is = tt
none_left old new (request.Run asked) other is = absurd is
none_left old new other refusal is = tt

-- an answer wasn't printed, or there was no memory to tell a refusal
unprinted : (old new : Files) (Unreadable : List ℕ → Type 0) (out out' : Sink) (asked : Request) (refusal : Refusal) → IsUnprinted refusal
    → IsCutShort old.told out out' asked refusal → IsRefused old new Unreadable out out' asked refusal
unprinted old new Unreadable out out' asked (Unwritten place) is cut =
    record { kept = λ first. absurd first; left = none_left old new asked (Unwritten place) is; unread = tt; cut = cut }
unprinted old new Unreadable out out' asked (LogUnwritten file) is cut =
    record { kept = λ first. absurd first; left = none_left old new asked (LogUnwritten file) is; unread = tt; cut = cut }
unprinted old new Unreadable out out' asked OutOfMemory is cut =
    record { kept = λ first. absurd first; left = none_left old new asked OutOfMemory is; unread = tt; cut = cut }
unprinted old new Unreadable out out' asked other is cut = absurd is

unprinted_not_one : (refusal : Refusal) → IsUnprinted refusal → ¬ (refusal_status refusal ≡ 1)
unprinted_not_one (Unwritten place) is one = cc
unprinted_not_one (LogUnwritten file) is one = cc
unprinted_not_one OutOfMemory is one = cc
unprinted_not_one other is one = absurd is

module _ (old new : Files) (Unreadable : List ℕ → Type 0) (out out' : Sink) (asked : Request) where
  pub answered : (answer : CommandAnswer) → KeepsFiles old.told new.told (IsPutName asked) → IsAnswered old new out out' asked (answer_status answer)
      → IsAside old.told asked answer → Came old new Unreadable out out' asked (Ok answer)
  answered answer files is aside = record { files = files; answered = is; aside = aside; refused = tt; refuted = tt }

  pub refused : (refusal : Refusal) → KeepsFiles old.told new.told (IsPutName asked) → IsRefused old new Unreadable out out' asked refusal
      → ¬ (refusal_status refusal ≡ 1) → Came old new Unreadable out out' asked (Err refusal)
  refused refusal files why not_one = record { files = files; answered = tt; aside = tt; refused = why; refuted = not_one }

  -- there was an answer, and it wasn't printed
  pub not_printed : (refusal : Refusal) → IsUnprinted refusal → KeepsFiles old.told new.told (IsPutName asked) → IsCutShort old.told out out' asked refusal
      → Came old new Unreadable out out' asked (Err refusal)
  not_printed refusal why files cut = refused refusal files (unprinted old new Unreadable out out' asked refusal why cut) (unprinted_not_one refusal why)

-- ---- what standard output took of an answer

module _ (told : List ℕ → Option (List ℕ)) (out out' : Sink) (asked : Request) where
  -- it took the line of the verdict
  pub said : (status : ℕ) (text : List ℕ) → IsVerdictLine told asked status text → Appends out.contents out'.contents text → SaysVerdict told out out' asked status
  said status text is took = (text, is, ([], subst (Appends out.contents out'.contents) (sym (append-nil text)) took))

  -- it took a beginning of that line
  pub unsaid : (answer : CommandAnswer) (status : ℕ) (text : List ℕ) (refusal : Refusal) → answer_text answer ≡ Some text → IsVerdictLine told asked status (line text)
      → IsPrinted answer out out' (Err refusal) → SaysNoMore told out out' asked refusal
  unsaid answer status text (Unwritten place) same is printed =
      let begun : TakesBeginning out.contents out'.contents (line text) =
      subst (λ (o : Option (List ℕ)). IfSome o (λ bytes. TakesBeginning out.contents out'.contents (line bytes))) same printed in
      inr (refl, status, line text, is, ([], subst (TakesBeginning out.contents out'.contents) (sym (append-nil (line text))) begun))
  unsaid answer status text OutOfMemory same is printed = inl printed
  unsaid answer status text other same is printed = absurd printed

module _ (old new : Files) (Unreadable : List ℕ → Type 0) (out out' : Sink) (asked : Request) where
  -- the answer was printed, or it wasn't
  pub printed : (answer : CommandAnswer) (came : Result CommandAnswer Refusal) → IsPrinted answer out out' came → KeepsFiles old.told new.told (IsPutName asked)
      → (IfSome (answer_text answer) (λ text. Appends out.contents out'.contents (line text)) → IsAnswered old new out out' asked (answer_status answer))
      → IsAside old.told asked answer → ((refusal : Refusal) → IsPrinted answer out out' (Err refusal) → IsCutShort old.told out out' asked refusal)
      → Came old new Unreadable out out' asked came
  printed answer (Ok same) is files holds aside cut =
      subst (λ (a : CommandAnswer). Came old new Unreadable out out' asked (Ok a)) (sym is.0) (answered old new Unreadable out out' asked answer files (holds is.1) aside)
  printed answer (Err (Unwritten place)) is files holds aside cut =
      not_printed old new Unreadable out out' asked (Unwritten place) tt files (cut (Unwritten place) is)
  printed answer (Err OutOfMemory) is files holds aside cut = not_printed old new Unreadable out out' asked OutOfMemory tt files (cut OutOfMemory is)
  printed answer (Err other) is files holds aside cut = absurd is

-- ---- a file was refused

no_run : (old new : Files) (asked : Request) (refusal : Refusal) → IsOfFile refusal → LeavesSoFar old new asked refusal
no_run old new (request.Sim asked) (Simulation fault) of = absurd of
no_run old new (request.Run asked) (Run fault) of = absurd of
no_run old new asked refusal of = search rules

judge_not_one : (fault : JudgeFault) → ¬ (judge_fault_status fault ≡ 1)
judge_not_one fault one = search rules

collect_not_one : (fault : CollectFault) → ¬ (TellsNo fault) → ¬ (collect_fault_status fault ≡ 1)
collect_not_one (table.Run k (cause.No fault)) of one = of tt
collect_not_one other of one = cc

pub not_one : (refusal : Refusal) → IsOfFile refusal → ¬ (refusal_status refusal ≡ 1)
not_one (Judge fault) of one = judge_not_one fault one
not_one (Collect fault) of one = collect_not_one fault of one
not_one other of one = cc

module _ (old new : Files) (Unreadable : List ℕ → Type 0) (out out' : Sink) (asked : Request) where
  pub read_refused : (refusal : Refusal) → IsReadFault Unreadable asked refusal → IsOnlyRead old new → IsCutShort old.told out out' asked refusal
      → Came old new Unreadable out out' asked (Err refusal)
  read_refused refusal fault read cut =
      refused old new Unreadable out out' asked refusal (keeps_files old new (IsPutName asked) read)
      (record { kept = λ first. keeps_told old new read; left = no_run old new asked refusal fault.of_file; unread = fault.unread; cut = cut }) (not_one refusal fault.of_file)

pub of_text : (place : Input) (unread : Type 0) (refusal : Refusal) → IsOfText refusal → IsInputFault place unread refusal
of_text place unread (Unread other) why = absurd why
of_text place unread other why = why

module _ (Unreadable : List ℕ → Type 0) (asked : Request) where
  pub text_fault : (refusal : Refusal) → IsOfText refusal → IsReadFault Unreadable asked refusal
  text_fault (Judge fault) why = absurd why
  text_fault (Unread place) why = absurd why
  text_fault other why = record { unread = tt; of_file = why }

  -- of a file whose name is given
  pub given_fault : (place : Input) (given : Option (Bor (List ℕ))) (refusal : Refusal) → file_at asked place ≡ given
      → IsInputFault place (IsSomeAnd given (λ name. Unreadable name.now)) refusal → IsReadFault Unreadable asked refusal
  given_fault place given (Unread other) is (same, unread) = record {
    unread = subst (λ (p : Input). IsSomeAnd (file_at asked p) (λ name. Unreadable name.now)) (sym same)
        (subst (λ (o : Option (Bor (List ℕ))). IsSomeAnd o (λ name. Unreadable name.now)) (sym is) unread);
    of_file = tt;
  }
  given_fault place given other is why = text_fault other why

  -- of a file that it reads alone
  pub input_fault : (place : Input) (name : Bor (List ℕ)) (refusal : Refusal) → file_at asked place ≡ Some name → IsInputFault place (Unreadable name.now) refusal
      → IsReadFault Unreadable asked refusal
  input_fault place name refusal is why = given_fault place (Some name) refusal is why

-- ---- after more was told of a refusal

-- a file that couldn't be read is one still
pub still_unread : {S : Type 0} (remaining : S → Option (List ℕ)) (failed : S → ℕ) (old middle new : Files) → IsOnlyRead middle new → (name : List ℕ)
    → IsUnread remaining failed old middle name → IsUnread remaining failed old new name
still_unread remaining failed old middle new (inl same) name unread = subst (λ (files : Files). IsUnread remaining failed old files name) (sym same) unread
still_unread remaining failed old middle new (inr (other, is)) name (inl first) = inl (still_first old middle new name other first is)
still_unread remaining failed old middle new (inr more) name (inr read) = inr read

some_still : (P Q : List ℕ → Type 0) → ((name : List ℕ) → P name → Q name) → (given : Option (Bor (List ℕ))) → IsSomeAnd given (λ name. P name.now)
    → IsSomeAnd given (λ name. Q name.now)
some_still P Q turned None is = is
some_still P Q turned (Some name) is = turned name.now is

unread_there : (P Q : List ℕ → Type 0) → ((name : List ℕ) → P name → Q name) → (asked : Request) (refusal : Refusal) → IsUnreadThere P asked refusal → IsUnreadThere Q asked refusal
unread_there P Q turned asked (Judge (Read file)) is = (is.0, λ d. turned _ (is.1 d))
unread_there P Q turned asked (Unread place) is = some_still P Q turned (file_at asked place) is
unread_there P Q turned asked other is = tt

-- what was cut short of the output is so too if there was no memory to tell why
no_more_memory : (told : List ℕ → Option (List ℕ)) (out out' : Sink) (asked : Request) (refusal : Refusal) → SaysNoMore told out out' asked refusal
    → SaysNoMore told out out' asked OutOfMemory
no_more_memory told out out' asked refusal (inl same) = inl same
no_more_memory told out out' asked refusal (inr (four, status, text, is, begun)) = inr (refl, status, text, is, begun)

cut_memory : (told : List ℕ → Option (List ℕ)) (out out' : Sink) (asked : Request) (refusal : Refusal) → IsCutShort told out out' asked refusal
    → IsCutShort told out out' asked OutOfMemory
cut_memory told out out' (request.Check asked) refusal cut = no_more_memory told out out' (request.Check asked) refusal cut
cut_memory told out out' (request.Order asked) refusal cut = cut
cut_memory told out out' (request.Explain asked) refusal cut = tt
cut_memory told out out' (request.Search asked) refusal cut = no_more_memory told out out' (request.Search asked) refusal cut
cut_memory told out out' (request.Confirm asked) refusal cut = no_more_memory told out out' (request.Confirm asked) refusal cut
cut_memory told out out' (request.Replay asked) refusal cut = no_more_memory told out out' (request.Replay asked) refusal cut
cut_memory told out out' other refusal cut = tt

-- an explanation that was refused for a file isn't cut short
explained_cut : (told : List ℕ → Option (List ℕ)) (out out' : Sink) (asked : Explain) (refusal : Refusal) → IsToldMore (request.Explain asked) refusal
    → IsCutShort told out out' (request.Explain asked) refusal
explained_cut told out out' asked (Unwritten place) more = absurd more
explained_cut told out out' asked other more = tt

told_more : (old middle new : Files) (P Q : List ℕ → Type 0) (out sink sink' : Sink) (asked : Request) (refusal : Refusal) → IsRefused old middle P out sink asked refusal
    → IsToldMore asked refusal → IsOnlyRead middle new → ((name : List ℕ) → P name → Q name) → IsRefused old new Q out sink' asked refusal
told_more old middle new P Q out sink sink' (request.Explain asked) refusal is more read turned = record {
  kept = λ first. keeps_told middle new read ∙ is.kept first;
  left = tt;
  unread = unread_there P Q turned (request.Explain asked) refusal is.unread;
  cut = explained_cut old.told out sink' asked refusal more;
}
told_more old middle new P Q out sink sink' (request.Inspect asked) refusal is more read turned =
    record { kept = λ first. keeps_told middle new read ∙ is.kept first; left = tt; unread = unread_there P Q turned (request.Inspect asked) refusal is.unread; cut = tt }
told_more old middle new P Q out sink sink' (request.Vet asked) refusal is more read turned =
    record { kept = λ first. keeps_told middle new read ∙ is.kept first; left = tt; unread = unread_there P Q turned (request.Vet asked) refusal is.unread; cut = tt }
told_more old middle new P Q out sink sink' other refusal is more read turned = absurd more

told_after : (old middle new : Files) (unread : Files → List ℕ → Type 0) (out sink sink' : Sink) (asked : Request) (refusal : Refusal)
    → IsRefused old middle (unread middle) out sink asked refusal → IsToldMore asked refusal ⊎ ((new ≡ middle) × (sink' ≡ sink)) → IsOnlyRead middle new
    → ((name : List ℕ) → unread middle name → unread new name) → IsRefused old new (unread new) out sink' asked refusal
told_after old middle new unread out sink sink' asked refusal is (inl more) read turned =
    told_more old middle new (unread middle) (unread new) out sink sink' asked refusal is more read turned
told_after old middle new unread out sink sink' asked refusal is (inr same) read turned =
    subst (λ (files : Files). IsRefused old files (unread files) out sink' asked refusal) (sym same.0)
    (subst (λ (s : Sink). IsRefused old middle (unread middle) out s asked refusal) (sym same.1) is)

pub refused_call : (old middle new : Files) (unread : Files → List ℕ → Type 0) (out sink sink' err err' : Sink) (asked : Request) (refusal told : Refusal) (status : ℕ)
    → IsRefused old middle (unread middle) out sink asked refusal → IsToldMore asked refusal ⊎ ((new ≡ middle) × (sink' ≡ sink)) → IsOnlyRead middle new
    → ((name : List ℕ) → unread middle name → unread new name) → (told ≡ refusal) ⊎ (told ≡ OutOfMemory) → Takes err err' (line (refusal_text told))
    → status ≡ refusal_status told → IsRefusedCall old new (unread new) out sink' err err' status asked
refused_call old middle new unread out sink sink' err err' asked refusal told status is more read turned which takes same =
    (told, record { text = takes; status = same }, go which)
  where
    after : IsRefused old new (unread new) out sink' asked refusal
    after = told_after old middle new unread out sink sink' asked refusal is more read turned

    go : (told ≡ refusal) ⊎ (told ≡ OutOfMemory) → IsRefused old new (unread new) out sink' asked told
    go (inl own) = subst (IsRefused old new (unread new) out sink' asked) (sym own) after
    go (inr memory) =
        subst (IsRefused old new (unread new) out sink' asked) (sym memory)
        (unprinted old new (unread new) out sink' asked OutOfMemory tt (cut_memory old.told out sink' asked refusal after.cut))

-- the verdict of an order is told on standard error
pub told_aside : (told : List ℕ → Option (List ℕ)) (err err' : Sink) (asked : Request) (answer : CommandAnswer) → IsAside told asked answer
    → ((verdict : Verdict) → answer ≡ Ordered verdict → Takes err err' (line (verdict_text verdict))) → AreToldAside told err err' asked (answer_status answer)
told_aside told err err' (request.Order asked) answer (verdict, same, gets) takes =
    (line (verdict_text verdict), (verdict, gets, ap answer_status same, refl), takes verdict same)
told_aside told err err' other answer is takes = tt
