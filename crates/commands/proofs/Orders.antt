-- What an order of files comes to, by what the judge that merges answers to their sources.
use Rattle.std.proofs.Common.{◌≡◌, ◌<◌, refl, length, ℕ, List, [], ◌∷◌, ◌++◌, length-append, Option, Ok, arith}
use Rattle.std.specs.Fmt.{decimal}
use Rattle.std.specs.Prelude.{codes}
use Rattle.std.proofs.KnownBytes.{Appends-nil}
use Rattle.std.specs.Borrow.{Bor}
use Rattle.command_line.specs.declared.request.Order.{Order}
use Rattle.command_line.specs.declared.request.Request.TheVariants as request
use Rattle.log_file.specs.Sets.{ReaderFailed}
use Rattle.log_file.specs.Sinks.{Sink, Took}
use Rattle.merge_judge.specs.Answer.{WritesOrder}
use Rattle.merge_judge.specs.OrderText.{LacksEnd, order_text}
use Rattle.merge_judge.specs.declared.merge_fault.MergeFault.{MergeFault}
use Rattle.merge_judge.specs.declared.merge_fault.MergeFault.TheVariants.{Judge as MergeJudge, Write as MergeWrite}
use Rattle.verdict.specs.Statuses.{verdict_status}
use Rattle.verdict.specs.declared.answer.Verdict.{Verdict}
use Rattle.verdict.specs.declared.answer.Verdict.TheVariants.{Yes, No}
use Rattle.verdict.specs.declared.judge_fault.JudgeFault.TheVariants.{BadConfig, Log, Read, OutOfMemory}
use Rattle.host_files.specs.Files.{Files, IsUnread}
use Rattle.commands.specs.LogFiles.{AreSourcesOf, AreTextsOf}
use Rattle.verdict.specs.Judgement.{IsAnswerTo}
use Rattle.commands.proofs.LogFiles.{unread_at}
use Rattle.commands.specs.Checking.{TextsAreConsistent}
use Rattle.commands.specs.Ordering.{TakesOrder, TextsGetNo}
use Rattle.commands.specs.Promises.{IsAnswered}
use Rattle.commands.specs.Refusals.{from_merge}
use Rattle.commands.specs.inner.Performing.{IsReadFault}

-- the text of an order isn't empty
some_text : 0 < length (order_text [])
some_text = omega (arith, length-append (codes "end ") (decimal 0 ++ 10 ∷ []))

-- nothing was written
pub nothing : (sink : Sink) → Took sink sink LacksEnd
nothing sink = ([], Appends-nil sink.contents, ([], (0, some_text, refl)))

-- the answer to the texts of the files, and what was written of the order
abbrev pub OrdersTexts : (List ℕ → Option (List ℕ)) → List (Bor (List ℕ)) → Sink → Sink → Verdict → Type 0
OrdersTexts told names out out' verdict = (texts : List (List ℕ)) × AreTextsOf told names texts × IsAnswerTo texts (Ok verdict) × Took out out' (WritesOrder texts (Ok verdict))

-- the order of the set was written, so the set is consistent
consistent : (told : List ℕ → Option (List ℕ)) (names : List (Bor (List ℕ))) (old new : Sink) → TakesOrder told names old new → TextsAreConsistent told names
consistent told names old new (texts, tell, (written, appends, (logs, (spell, (order, is, text))))) = (texts, tell, (logs, spell, (order, is)))

-- with a Yes the order was written
ordered : (told : List ℕ → Option (List ℕ)) (names : List (Bor (List ℕ))) (out out' : Sink) (verdict : Verdict) → OrdersTexts told names out out' verdict
    → verdict_status verdict ≡ 0 → TakesOrder told names out out'
ordered told names out out' (Yes count) (texts, tell, answers, took) zero = (texts, tell, took)
ordered told names out out' (No fault) is zero = cc

-- with a No it lacks its end
unordered : (told : List ℕ → Option (List ℕ)) (names : List (Bor (List ℕ))) (out out' : Sink) (verdict : Verdict) → OrdersTexts told names out out' verdict
    → verdict_status verdict ≡ 1 → TextsGetNo told names × Took out out' LacksEnd
unordered told names out out' (Yes count) is one = cc
unordered told names out out' (No fault) (texts, tell, answers, took) one = ((fault, (texts, tell, answers)), took)

pub order_answer : (old new : Files) (out out' : Sink) (asked : Order) (verdict : Verdict) → OrdersTexts old.told asked.files.items out out' verdict
    → IsAnswered old new out out' (request.Order asked) (verdict_status verdict)
order_answer old new out out' asked verdict is = record {
  sound = λ zero. consistent old.told asked.files.items out out' (ordered old.told asked.files.items out out' verdict is zero);
  flat = λ zero. tt;
  no = unordered old.told asked.files.items out out' verdict is;
  order = ordered old.told asked.files.items out out' verdict is;
  printed = tt;
  shown = tt;
  counted = tt;
  vetted = λ zero. tt;
  another = tt;
  upgraded = λ zero. tt;
  yes = λ zero apart. tt;
}

-- the files weren't merged
pub merge_fault : {S : Type 0} (remaining : S → Option (List ℕ)) (failed : S → ℕ) (old new : Files) (asked : Order) (sources later : List S) (fault : MergeFault)
    → AreSourcesOf old.told remaining sources asked.files.items → ((file : ℕ) → fault ≡ MergeJudge (Read file) → ReaderFailed failed sources later file)
    → IsReadFault (IsUnread remaining failed old new) (request.Order asked) (from_merge fault)
merge_fault remaining failed old new asked sources later (MergeJudge (Read file)) are fails =
    record { unread = unread_at remaining failed old new sources later asked.files.items file are (fails file refl); of_file = tt }
merge_fault remaining failed old new asked sources later (MergeJudge (Log file line fault)) are fails = record { unread = tt; of_file = tt }
merge_fault remaining failed old new asked sources later (MergeJudge (BadConfig count)) are fails = record { unread = tt; of_file = tt }
merge_fault remaining failed old new asked sources later (MergeJudge OutOfMemory) are fails = record { unread = tt; of_file = tt }
merge_fault remaining failed old new asked sources later MergeWrite are fails = record { unread = tt; of_file = tt }
