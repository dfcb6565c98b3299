-- A merge with what it has checked and written, and what it answers.
use Rattle.std.specs.Prelude.{◌≡◌, ◌≢◌, ℕ, ◌≤◌, Bool, true, false, List, [], ◌∷◌, ◌++◌, refl, Option, Some, None, is_none, ◌&&◌, length, take, Result, Ok, Err, IfSome, map, ◌⊎◌, ◌+◌}
use Rattle.std.proofs.Common.{sym, ◌∙◌, ap, arith, append_assoc, append-nil, length-append, inl, inr, subst}
use Rattle.std.specs.Option.{option_or}
use Rattle.std.specs.Io.KnownBytes.{Appends}
use Rattle.std.proofs.lemmas.List.{map-append, length-map, length_push}
use Rattle.std.proofs.lemmas.Grind.{flat_map-append}
use Rattle.mem_op.specs.declared.id.OpId.{OpId}
use Rattle.mem_op.specs.declared.id.Source.{Source}
use Rattle.log_record.specs.declared.record.Record.{Record}
use Rattle.log_record.specs.declared.record.Entry.{Entry}
use Rattle.address_check.specs.declared.fault.AddressFault.{AddressFault}
use Rattle.merge_judge.specs.declared.merge.Merge.{Merge}
use Rattle.merge_judge.specs.OrderText.{LacksEnd, end_line, id_line, id_lines, order_text}
use Rattle.merge_judge.specs.inner.Judging.{line_where, IsMergedBy}
use Rattle.merge_judge.specs.inner.Lanes.{IsMerged, IsTaken, add}
use Rattle.merge_judge.specs.inner.Merging.{HasMerged}
use Rattle.merge_judge.specs.LaneParts.{LaneParts}
use Rattle.merge_judge.specs.inner.Memory.{Holds, IsMemory, first_along, fault_after}
use Rattle.merge_judge.proofs.Added.{entries_few}
use Rattle.merge_judge.proofs.Places.{there}
use Rattle.merge_judge.proofs.Shown.{IsShown, ids, order_where, shown_more}
use Rattle.merge_judge.proofs.WritingFacts.{front_of, end_line_some, appends_none}
use Rattle.log_file.specs.declared.device_fault.WriteFault.{WriteFault}
use Rattle.log_file.specs.declared.device_fault.WriteFault.TheVariants.{OutOfMemory as NoMemory, Write as WriteFailed}
use Rattle.verdict.specs.declared.judge_fault.JudgeFault.{JudgeFault}
use Rattle.verdict.specs.declared.judge_fault.JudgeFault.TheVariants.{BadConfig, Log, OutOfMemory, Read}
use Rattle.log_file.specs.Devices.{Failed, TellsFailure}
use Rattle.log_file.specs.Sets.{TellEach}
use Rattle.verdict.specs.Judgement.{IsAnswerTo, IsYes}
use Rattle.verdict.specs.ByKey.{ids_by_key}
use Rattle.merge_judge.specs.Begun.{BeginsOrder, BeginsWhole, StopsBefore}
use Rattle.log_file.proofs.Sets.{each_tells}
use Rattle.merge_judge.specs.Answer.{IsQuietUpTo, judged}
use Rattle.merge_judge.specs.declared.merge_fault.MergeFault.{MergeFault}
use Rattle.merge_judge.specs.declared.merge_fault.MergeFault.TheVariants.{Judge, Write}
use Rattle.merge_judge.specs.WriteFaults.{from_write}
use Rattle.verdict.specs.Counts.{IsBadCount}
use Rattle.mem_op.specs.Consistency.{IsSequentialOrder}
use Rattle.log_record.specs.Entries.{operations_of}
use Rattle.log_file.proofs.Devices.{appends_more, told}
use Rattle.verdict.specs.declared.answer.Verdict.{Verdict}
use Rattle.verdict.specs.declared.answer.Verdict.TheVariants.{Yes, No}
use Rattle.verdict.specs.FaultParts.{FaultParts}
use Rattle.verdict.proofs.Bridge.{yes_is_sequential}
use Rattle.merge_judge.specs.inner.FinalVerdict.{IsFinalVerdict}
use Rattle.merge_judge.specs.inner.Writing.{IsWritten}
use Rattle.merge_judge.proofs.Quiet.{quiet_clean, quiet_write}
use Rattle.merge_judge.proofs.Stopped.{before_fault, begins_order, none_begins}
use Rattle.merge_judge.proofs.Texts.{begun_texts}
use Rattle.merge_judge.proofs.Along.{first_along-push}

pub record MergeSoFar {S L : Type 0} (remaining : S → Option (List ℕ)) (failed : S → ℕ) (old new : Option (List ℕ)) (failed_before failed_now : ℕ) (before after : List S) (merge : Merge L) (values : List ℕ) (sources : List Source) (kept : List ℕ) (fault : Option AddressFault) (count : ℕ) : Type 0 where
  pub merged : List (List Record)
  pub done : List Entry
  pub is_merged : HasMerged remaining failed before after merge merged done
  pub counted : count ≡ length done
  pub whole : IsMemory values sources
  pub holds : fault ≡ None → Holds values sources done
  pub first : fault ≡ first_along [] done
  pub written : List ℕ
  pub appends : Appends old new written
  pub order : List OpId
  pub lines : written ++ kept ≡ id_lines order
  pub shown : IsShown order merged done merge.lanes.items
  pub all : fault ≡ None → merge.clean ≡ true → order ≡ ids done
  pub quiet : failed_now ≡ failed_before

-- ---- how many records there are

pub few_done : {S : Type 0} {remaining : S → Option (List ℕ)} {failed : S → ℕ} {before after : List S} {lanes : List LaneParts} {clean : Bool} {merged : List (List Record)} {done : List Entry} → IsMerged remaining failed before after lanes clean merged done → length done ≤ 67108864
few_done {S} {remaining} {failed} {before} {after} {lanes} {clean} {merged} {done} m =
    let few = entries_few 0 1048576 merged (λ k w. let l = there lanes k (omega (arith, w, m.all.logs, m.all.many)) in (m.all.lane k l.0 l.1).at.few) in
    omega (arith, few, m.total, m.all.logs, m.all.few)

-- ---- what lacks the end line

pub lacks_end : (written rest : List ℕ) (order : List OpId) → written ++ rest ≡ id_lines order → LacksEnd written
lacks_end written rest order is =
    let whole : written ++ (rest ++ end_line (length order)) ≡ order_text order = sym (append_assoc written rest (end_line (length order))) ∙ ap (λ xs. xs ++ end_line (length order)) is in
    (order, (length written, omega (arith, ap length whole, length-append written (rest ++ end_line (length order)), length-append rest (end_line (length order)), end_line_some (length order)), sym (front_of written (rest ++ end_line (length order)) (order_text order) whole)))

pub lacks_more : (written rest : List ℕ) (order : List OpId) → written ++ rest ≡ order_text order → rest ≢ [] → LacksEnd written
lacks_more written [] order is some = absurd (some refl)
lacks_more written (b ∷ rest) order is some =
    (order, (length written, omega (arith, ap length is, length-append written (b ∷ rest)), sym (front_of written (b ∷ rest) (order_text order) is)))

pub id_lines-push : (order : List OpId) (id : OpId) → id_lines (order ++ id ∷ []) ≡ id_lines order ++ id_line id
id_lines-push order id = flat_map-append id_line order (id ∷ []) ∙ ap (λ xs. id_lines order ++ xs) (append-nil (id_line id))

pub earlier_none : {X : Type 0} (o p : Option X) → option_or o p ≡ None → o ≡ None
earlier_none None p h = refl
earlier_none (Some x) p h = absurd cc

-- ---- lines

pub lines_where : (yes : Bool) (order : List OpId) (id : OpId) → id_lines (order_where yes order id) ≡ id_lines order ++ line_where yes id
lines_where true order id = id_lines-push order id
lines_where false order id = sym (append-nil (id_lines order))

pub joined : (written kept part rest line text : List ℕ) → written ++ kept ≡ text → part ++ rest ≡ kept ++ line → (written ++ part) ++ rest ≡ text ++ line
joined written kept part rest line text lines is =
    append_assoc written part rest ∙ ap (λ xs. written ++ xs) is ∙ sym (append_assoc written kept line) ∙ ap (λ xs. xs ++ line) lines

-- ---- an end without a verdict

-- what ends in place of a verdict has no word of the texts but how they begin
module _ {S : Type 0} (remaining : S → Option (List ℕ)) (failed : S → ℕ) (old new : Option (List ℕ)) (before after : List S) (written : List ℕ) (appends : Appends old new written) (lacks : LacksEnd written) (texts : List (List ℕ)) (tells : TellEach remaining before texts) where
  early : (fault : MergeFault) → IfSome (judged (Err fault)) (IsAnswerTo texts) → StopsBefore texts (Err fault) written → ((file : ℕ) → fault ≡ Judge (Read file) → ⊥) → IsQuietUpTo failed before after (judged (Err fault)) → IsMergedBy remaining failed old new before after (Err fault)
  early fault answers stops unread quiet = record {
    texts = texts;
    tells = tells;
    answers = answers;
    written = written;
    appends = appends;
    writes = lacks;
    stops = stops;
    read = λ file h. absurd (unread file h);
    quiet = quiet;
  }

  pub ends_early : (f : WriteFault) → BeginsOrder texts (Err (from_write f)) written ⊎ BeginsWhole texts written → IsQuietUpTo failed before after (judged (Err (from_write f))) → IsMergedBy remaining failed old new before after (Err (from_write f))
  ends_early NoMemory stops quiet = early (Judge OutOfMemory) tt stops (λ file h. cc) quiet
  ends_early WriteFailed stops quiet = early Write tt stops (λ file h. cc) quiet

-- a failed write is told, and nothing else as one
pub told_by : (f : WriteFault) (r : Result Verdict MergeFault) (fault : MergeFault) → r ≡ Err fault → fault ≡ from_write f → (mid old new : ℕ) → mid ≡ old
    → TellsFailure (◌≡◌ {A = Result (Unit {0}) WriteFault} (Err f) (Err WriteFailed)) mid new → TellsFailure (r ≡ Err Write) old new
told_by NoMemory r fault is from mid old new same t = (λ e. absurd cc, λ other. t.1 (λ e. cc) ∙ same)
told_by WriteFailed r fault is from mid old new same t = (λ e. subst (λ n. Failed n new) same (t.0 refl), λ other. absurd (other cc))

pub no_memory : {S : Type 0} (remaining : S → Option (List ℕ)) (failed : S → ℕ) (old : Option (List ℕ)) (before after : List S) → IsMergedBy remaining failed old old before after (Err (Judge OutOfMemory))
no_memory remaining failed old before after =
    let texts = map (λ reader. told (remaining reader)) before in
    ends_early remaining failed old old before after [] (appends_none old) (lacks_end [] [] [] refl) texts (each_tells remaining before) NoMemory
    (inl (none_begins remaining before OutOfMemory)) tt

-- ---- one more record

module _ {S L : Type 0} {remaining : S → Option (List ℕ)} {failed : S → ℕ} {old now : Option (List ℕ)} {failed_before failed_now : ℕ} {before after after_new : List S} {merge : Merge L} {values : List ℕ} {sources : List Source} {kept : List ℕ} {fault : Option AddressFault} {count : ℕ}
    (s : MergeSoFar remaining failed old now failed_before failed_now before after merge values sources kept fault count) (merge_new : Merge L) (e : Entry) (fault_new : Option AddressFault)
    (found : (done : List Entry) → (fault ≡ None → Holds values sources done) → fault_new ≡ option_or fault (fault_after done e))
    (clean_kept : merge_new.clean ≡ true → merge.clean ≡ true) (taken : IsTaken e.id.core e.logged merge.lanes.items merge_new.lanes.items)
    (m : HasMerged remaining failed before after_new merge_new (add s.merged e.id.core e.logged) (s.done ++ e ∷ [])) where
  abbrev on : Bool
  on = is_none fault_new && merge_new.clean

  abbrev order_new : List OpId
  order_new = order_where on s.order e.id

  first_new : fault_new ≡ first_along [] (s.done ++ e ∷ [])
  first_new = found s.done s.holds ∙ ap (λ o. option_or o (fault_after s.done e)) s.first ∙ sym (first_along-push [] s.done e)

  -- the new order is that of all records, where none has a fault
  all_new : fault_new ≡ None → merge_new.clean ≡ true → order_new ≡ ids (s.done ++ e ∷ [])
  all_new none steady =
      ap (λ b. order_where b s.order e.id) (ap (λ o. is_none o && merge_new.clean) none ∙ steady)
      ∙ ap (λ xs. xs ++ e.id ∷ []) (s.all (earlier_none fault (fault_after s.done e) (sym (found s.done s.holds) ∙ none)) (clean_kept steady))
      ∙ sym (map-append (λ (x : Entry). x.id) s.done (e ∷ []))

  shown_new : IsShown order_new (add s.merged e.id.core e.logged) (s.done ++ e ∷ []) merge_new.lanes.items
  shown_new = shown_more s.merged s.done s.order e fault_new merge_new.clean merge.lanes.items taken s.shown m first_new all_new

  lines_new : (part rest : List ℕ) → part ++ rest ≡ kept ++ line_where on e.id → (s.written ++ part) ++ rest ≡ id_lines order_new
  lines_new part rest is = joined s.written kept part rest (line_where on e.id) (id_lines s.order) s.lines is ∙ sym (lines_where on s.order e.id)

  pub one_more : (new : Option (List ℕ)) (failed_new : ℕ) (values_new : List ℕ) (sources_new : List Source) (kept_new : List ℕ) (count_new : ℕ) → IsMemory values_new sources_new
      → ((done : List Entry) → (fault ≡ None → Holds values sources done) → fault_new ≡ None → Holds values_new sources_new (done ++ e ∷ []))
      → IsWritten {E = WriteFault} now new (kept ++ line_where on e.id) (Ok tt) kept_new → count_new ≡ count + 1 → failed_new ≡ failed_now
      → MergeSoFar remaining failed old new failed_before failed_new before after_new merge_new values_new sources_new kept_new fault_new count_new
  one_more new failed_new values_new sources_new kept_new count_new whole holds w counted quiet = record {
    merged = add s.merged e.id.core e.logged;
    done = s.done ++ e ∷ [];
    is_merged = m;
    counted = omega (arith, s.counted, length_push s.done e, counted);
    whole = whole;
    holds = holds s.done s.holds;
    first = first_new;
    written = s.written ++ w.0;
    appends = appends_more old now new s.written w.0 s.appends w.1.1;
    order = order_new;
    lines = ap (λ xs. (s.written ++ w.0) ++ xs) (sym w.1.3) ∙ lines_new w.0 w.1.0 w.1.2;
    shown = shown_new;
    all = all_new;
    quiet = quiet ∙ s.quiet;
  }

  -- a write that fails at it
  pub look_fails : (new : Option (List ℕ)) (kept_new : List ℕ) (f : WriteFault) → merge_new.clean ≡ true → IsWritten now new (kept ++ line_where on e.id) (Err f) kept_new → IsMergedBy remaining failed old new before after_new (Err (from_write f))
  look_fails new kept_new f steady w =
      let all = lines_new w.0 w.1.0 w.1.2 in
      let t = begun_texts m.all in
      ends_early remaining failed old new before after_new (s.written ++ w.0) (appends_more old now new s.written w.0 s.appends w.1.1) (lacks_end (s.written ++ w.0) w.1.0 order_new all) t.0 t.1.0 f
      (inl (begins_order t.0 (Err (from_write f)) order_new (add s.merged e.id.core e.logged) (s.done ++ e ∷ []) merge_new.lanes.items (s.written ++ w.0) w.1.0 shown_new t.1.1 all tt))
      (quiet_write failed before after_new f (quiet_clean m.all steady))

-- ---- all logs have ended

module _ {S L : Type 0} {remaining : S → Option (List ℕ)} {failed : S → ℕ} {old mid : Option (List ℕ)} {failed_before failed_now : ℕ} {before after_was after : List S} {merge : Merge L} {values : List ℕ} {sources : List Source} {kept : List ℕ} {fault : Option AddressFault} {count : ℕ} {lanes : List LaneParts} {clean : Bool}
    (s : MergeSoFar remaining failed old mid failed_before failed_now before after_was merge values sources kept fault count)
    (m : IsMerged remaining failed before after lanes clean s.merged s.done) (same : lanes ≡ merge.lanes.items) where
  shown : IsShown s.order s.merged s.done lanes
  shown = subst (λ ls. IsShown s.order s.merged s.done ls) (sym same) s.shown

  -- a set without a verdict
  pub merged_fault : (found : JudgeFault) → (IsBadCount found → ⊥) → IsFinalVerdict remaining failed before after lanes s.merged (Err found) → IsMergedBy remaining failed old mid before after (Err (Judge found))
  merged_fault found counts f = record {
    texts = f.texts;
    tells = f.tells;
    answers = f.answers;
    written = s.written;
    appends = s.appends;
    writes = lacks_end s.written kept s.order s.lines;
    stops = go found counts;
    read = λ file h. f.failed_at file (let e : found ≡ Read file = cc in e);
    quiet = f.quiet;
  }
    where
      begins : (x : JudgeFault) → BeginsOrder f.texts (Err (Judge x)) s.written
      begins x = begins_order f.texts (Err (Judge x)) s.order s.merged s.done lanes s.written kept shown f.begun s.lines tt

      go : (x : JudgeFault) → (IsBadCount x → ⊥) → StopsBefore f.texts (Err (Judge x)) s.written
      go (BadConfig count) h = absurd (h tt)
      go (Log file line g) h = begins (Log file line g)
      go (Read file) h = begins (Read file)
      go OutOfMemory h = inl (begins OutOfMemory)

  -- a set with a No
  pub merged_no : (found : FaultParts) → IsFinalVerdict remaining failed before after lanes s.merged (Ok (No found)) → IsMergedBy remaining failed old mid before after (Ok (No found))
  merged_no found f = record {
    texts = f.texts;
    tells = f.tells;
    answers = f.answers;
    written = s.written;
    appends = s.appends;
    writes = lacks_end s.written kept s.order s.lines;
    stops = begins_order f.texts (Ok (No found)) s.order s.merged s.done lanes s.written kept shown f.begun s.lines (before_fault s.order s.merged s.done lanes shown f.texts found m.by_key_so_far f.clean.0 f.clean.1);
    read = tt;
    quiet = f.quiet;
  }

  -- a Yes: all records were merged without a fault, and their order is written
  module _ (n : ℕ) (f : IsFinalVerdict remaining failed before after lanes s.merged (Ok (Yes n))) (counted : n ≡ count) (sound : fault ≡ None) (still : clean ≡ true → merge.clean ≡ true) where
    steady : clean ≡ true
    steady = m.all.clean_is.1 f.clean.2

    order_is : s.order ≡ ids s.done
    order_is = s.all sound (still steady)

    by_key_is : s.order ≡ ids_by_key s.merged
    by_key_is = order_is ∙ ap ids (m.by_key_so_far (λ k l h. (f.clean.2 k l h).0))

    all_is : (part rest : List ℕ) → part ++ rest ≡ kept ++ end_line n → (s.written ++ part) ++ rest ≡ order_text s.order
    all_is part rest is =
        joined s.written kept part rest (end_line n) (id_lines s.order) s.lines is
        ∙ ap (λ k. id_lines s.order ++ end_line k) (counted ∙ s.counted ∙ sym (ap length order_is ∙ length-map s.done (λ (e : Entry). e.id)))

    pub merged_yes : (new : Option (List ℕ)) → IsWritten {E = WriteFault} mid new (kept ++ end_line n) (Ok tt) [] → IsMergedBy remaining failed old new before after (Ok (Yes n))
    merged_yes new w = record {
      texts = f.texts;
      tells = f.tells;
      answers = f.answers;
      written = s.written ++ w.0;
      appends = appends_more old mid new s.written w.0 s.appends w.1.1;
      writes = (
        s.merged,
        (
          f.clean.0,
          (
            s.order,
            subst (λ xs. IsSequentialOrder (operations_of s.merged) xs) (sym by_key_is) (yes_is_sequential s.merged n (sym f.clean.1)),
            sym (append-nil (s.written ++ w.0)) ∙ ap (λ xs. (s.written ++ w.0) ++ xs) (sym w.1.3) ∙ all_is w.0 w.1.0 w.1.2,
          ),
        ),
      );
      stops = tt;
      read = tt;
      quiet = f.quiet;
    }

    pub end_fails : (new : Option (List ℕ)) (x : WriteFault) → IsWritten mid new (kept ++ end_line n) (Err x) [] → IsMergedBy remaining failed old new before after (Err (from_write x))
    end_fails new x w =
        let all = all_is w.0 w.1.0 w.1.2 in
        ends_early remaining failed old new before after (s.written ++ w.0) (appends_more old mid new s.written w.0 s.appends w.1.1)
        (lacks_more (s.written ++ w.0) w.1.0 s.order all w.1.4) f.texts f.tells x
        (inr (s.merged, (f.clean.0, (subst IsYes f.clean.1 tt, (length (s.written ++ w.0), sym (front_of (s.written ++ w.0) w.1.0 (order_text s.order) all) ∙ ap (λ ids. take (length (s.written ++ w.0)) (order_text ids)) by_key_is)))))
        (quiet_write failed before after x (quiet_clean m.all steady))

-- after a bad count nothing was written
pub nothing_after : (texts : List (List ℕ)) (f : JudgeFault) → IsBadCount f → StopsBefore texts (Err (Judge f)) []
nothing_after texts (BadConfig count) bad = refl
nothing_after texts (Log file line f) bad = absurd bad
nothing_after texts OutOfMemory bad = absurd bad
nothing_after texts (Read file) bad = absurd bad
