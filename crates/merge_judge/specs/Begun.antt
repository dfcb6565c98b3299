-- What a merge has written if it doesn't answer Yes.
use Rattle.std.specs.Prelude.{◌≡◌, ℕ, ◌<◌, ◌⊎◌, List, [], ◌∷◌, ◌++◌, true, None, Result, Ok, Err, length, take, slice_index_or}
use Rattle.log_record.specs.declared.format.Format.{Format}
use Rattle.log_record.specs.declared.record.Record.{Record}
use Rattle.log_record.specs.declared.record.Entry.{Entry}
use Rattle.log_record.specs.Entries.{entries, entry_cmp, record_at}
use Rattle.log_file.specs.Log.{IsLog, Spells, begun, text_of}
use Rattle.line_stamps.specs.Ordered.{In}
use Rattle.std.specs.Ordering.{is_lt}
use Rattle.log_file.specs.Sets.{SpellSet, text_at}
use Rattle.verdict.specs.declared.answer.Verdict.{Verdict}
use Rattle.verdict.specs.declared.answer.Verdict.TheVariants.{Yes, No}
use Rattle.verdict.specs.declared.judge_fault.JudgeFault.TheVariants.{BadConfig, Log, OutOfMemory, Read}
use Rattle.verdict.specs.declared.rule.Rule.TheVariants.{CoreOrder}
use Rattle.verdict.specs.ByKey.{by_key, ids_by_key}
use Rattle.verdict.specs.Judgement.{IsYes}
use Rattle.verdict.specs.VerdictOf.{verdict_of}
use Rattle.merge_judge.specs.declared.merge_fault.MergeFault.{MergeFault}
use Rattle.merge_judge.specs.declared.merge_fault.MergeFault.TheVariants.{Judge, Write}
use Rattle.merge_judge.specs.OrderText.{id_lines, order_text}

-- the text begins like this core's log, with the header and the lines of these records; or there are no records
abbrev pub BeginsLog : ℕ → ℕ → List ℕ → List Record → Type 0
BeginsLog core cores text records =
    (records ≡ []) ⊎ ((format : Format) × ((rest : List ℕ)
    × IsLog format core cores records × (text ≡ text_of (begun format core cores records) ++ rest)))

-- each text begins with the records of its log
pub record BeginSet (texts : List (List ℕ)) (logs : List (List Record)) : Type 0 where
  pub many : length logs ≡ length texts
  pub each : (k : ℕ) → k < length texts → BeginsLog k (length texts) (text_at texts k) (slice_index_or logs k [])

-- This core's text spells just its log here; or it begins with the records of that log and one more, which comes after all records
-- here by key; or there are no records here.
abbrev pub EndsAfter : List (List ℕ) → List (List Record) → ℕ → Type 0
EndsAfter texts logs core =
    Spells core (length texts) (text_at texts core) (slice_index_or logs core [])
    ⊎ (((next : Record) × (BeginsLog core (length texts) (text_at texts core) (slice_index_or logs core [] ++ next ∷ [])
    × ((e : Entry) → In e (entries logs) → is_lt (entry_cmp e (record { id = record { core = core; index = length (slice_index_or logs core []) }; logged = next })) ≡ true)))
    ⊎ (entries logs ≡ []))

-- in the order of keys, these records come first among all records of the texts
abbrev pub ComeFirst : List (List ℕ) → List (List Record) → Type 0
ComeFirst texts logs = (whole : List (List Record)) × (SpellSet texts whole × ((later : List Entry) × (by_key whole ≡ by_key logs ++ later)))

-- The record at the fault of a No isn't one of these. If the rule isn't core order, these come first by key, so before it.
abbrev pub EndBefore : List (List ℕ) → Result Verdict MergeFault → List (List Record) → Type 0
EndBefore texts (Ok (No fault)) logs = (record_at logs fault.id ≡ None) × ((fault.rule ≡ CoreOrder) ⊎ ComeFirst texts logs)
EndBefore texts (Ok (Yes count)) logs = Unit {0}
EndBefore texts (Err fault) logs = Unit {0}

-- A beginning of the id lines, in the order of keys, of records that the texts begin with: the verdict on these records is
-- Yes, and they end before the fault.
pub record BeginsOrder (texts : List (List ℕ)) (result : Result Verdict MergeFault) (written : List ℕ) : Type 0 where
  pub logs : List (List Record)
  pub begun : BeginSet texts logs
  pub next : (core : ℕ) → core < length texts → EndsAfter texts logs core
  pub yes : IsYes (verdict_of logs)
  pub before : EndBefore texts result logs
  pub lines : (n : ℕ) × (written ≡ take n (id_lines (ids_by_key logs)))

-- a beginning of the whole order text of the set that the texts spell, on which the verdict is Yes
abbrev pub BeginsWhole : List (List ℕ) → List ℕ → Type 0
BeginsWhole texts written =
    (logs : List (List Record)) × (SpellSet texts logs × (IsYes (verdict_of logs) × ((n : ℕ) × (written ≡ take n (order_text (ids_by_key logs))))))

-- With a bad count nothing is written. Else ids are written, up to the fault; refused memory or a failed write may also come at
-- the `end` line.
abbrev pub StopsBefore : List (List ℕ) → Result Verdict MergeFault → List ℕ → Type 0
StopsBefore texts (Ok (Yes count)) written = Unit {0}
StopsBefore texts (Ok (No fault)) written = BeginsOrder texts (Ok (No fault)) written
StopsBefore texts (Err (Judge (BadConfig count))) written = written ≡ []
StopsBefore texts (Err (Judge (Log file line fault))) written = BeginsOrder texts (Err (Judge (Log file line fault))) written
StopsBefore texts (Err (Judge (Read file))) written = BeginsOrder texts (Err (Judge (Read file))) written
StopsBefore texts (Err (Judge OutOfMemory)) written = BeginsOrder texts (Err (Judge OutOfMemory)) written ⊎ BeginsWhole texts written
StopsBefore texts (Err Write) written = BeginsOrder texts (Err Write) written ⊎ BeginsWhole texts written
