-- The answer to a set whose logs were merged to their ends.
use Rattle.std.specs.Prelude.{◌≡◌, ℕ, suc, ◌+◌, ◌<◌, ◌⊎◌, Bool, true, List, [], ◌∷◌, ◌++◌, refl, Option, Some, None, Ok, Err, length, slice_get}
use Rattle.std.specs.Option.{option_map, option_map_or}
use Rattle.std.specs.Ordering.{is_lt}
use Rattle.std.proofs.lemmas.Bool.Decides.{nat_tests}
use Rattle.std.proofs.Common.{sym, ◌∙◌, ap, subst, inl, inr, arith, append-nil}
use Rattle.std.proofs.lemmas.Bool.{cases_lt, false_from_ne_true}
use Rattle.std.proofs.lemmas.Option.{get_or_from_slice_get, slice_get-get_or, slice_get_within}
use Rattle.line_stamps.specs.Ordered.{IsLeastIn}
use Rattle.line_stamps.proofs.Ordered.{least_is, one_least}
use Rattle.log_record.specs.declared.record.Record.{Record}
use Rattle.log_record.specs.declared.record.Entry.{Entry}
use Rattle.log_record.specs.Entries.{entries}
use Rattle.core_program.specs.Least.{IsLeastWhere}
use Rattle.core_check.specs.CoreOrder.{is_core_fault}
use Rattle.core_check.specs.CoreFaults.{least_core_fault, order_fault, order_faults}
use Rattle.core_check.specs.FaultOrder.{core_fault_cmp}
use Rattle.mem_op.specs.Limits.{operation_limit}
use Rattle.merge_judge.proofs.Places.{each_by, there}
use Rattle.core_check.specs.declared.fault.RuleFault.{RuleFault}
use Rattle.core_check.proofs.FaultFacts.{core_fault_total, tied_core_faults}
use Rattle.core_check.proofs.OrderFaultFacts.{FaultIn, fault_in_log, fault_of_log, record_at_fault}
use Rattle.log_file.specs.declared.fault.LogFault.{LogFault}
use Rattle.log_file.specs.declared.fault.LogFault.TheVariants.{At, OutOfMemory, Read}
use Rattle.log_file.specs.Answers.{IsFaultOrDevice}
use Rattle.log_file.specs.Log.{Spells}
use Rattle.log_file.specs.Sets.{NoneFailed, SpellBefore, SpellFrom, SpellSet, TellEach, text_at, ReaderFailed}
use Rattle.verdict.specs.Judgement.{IsAnswerTo}
use Rattle.verdict.specs.SetFaults.{from_set}
use Rattle.merge_judge.specs.LaneParts.{LaneParts}
use Rattle.merge_judge.specs.inner.Lanes.{AllEnded, IsMerged, NoFalls, front_list, log_at}
use Rattle.merge_judge.specs.Answer.{IsQuietUpTo}
use Rattle.merge_judge.specs.inner.FinalVerdict.{AreBegun, IsClean, NoneFaulty, NoneFalls, IsFinalVerdict}
use Rattle.address_check.specs.declared.fault.AddressFault.{AddressFault}
use Rattle.address_check.specs.AddressFaults.{least_address_fault}
use Rattle.verdict.specs.declared.answer.Verdict.{Verdict}
use Rattle.verdict.specs.declared.answer.Verdict.TheVariants.{Yes, No}
use Rattle.verdict.specs.declared.judge_fault.JudgeFault.TheVariants.{Read as ReadFile}
use Rattle.verdict.specs.declared.rule.Rule.TheVariants.{CoreOrder}
use Rattle.verdict.specs.Faults.{from_address}
use Rattle.verdict.specs.VerdictOf.{verdict_of, verdict_with}
use Rattle.merge_judge.specs.inner.Memory.{first_along}
use Rattle.merge_judge.proofs.Along.{along_is_least}
use Rattle.merge_judge.proofs.Quiet.{quiet_all, quiet_to}
use Rattle.merge_judge.proofs.Texts.{begun_texts}

-- ---- the answer

spell_from : (core cores : ℕ) (texts : List (List ℕ)) (logs : List (List Record)) → length logs ≡ length texts → ((k c : ℕ) → k < length texts → c ≡ core + k → Spells c cores (text_at texts k) (log_at logs k)) → SpellFrom core cores texts logs
spell_from core cores [] [] long h = tt
spell_from core cores [] (log ∷ logs) long h = absurd (omega (arith, long))
spell_from core cores (text ∷ texts) [] long h = absurd (omega (arith, long))
spell_from core cores (text ∷ texts) (log ∷ logs) long h =
    (h 0 core (omega arith) (omega arith), spell_from (core + 1) cores texts logs (omega (arith, long)) (λ k c l is. h (suc k) c (omega arith) (omega (arith, is))))

-- the least fault of core order
pub least_core : (logs : List (List Record)) (o : Option RuleFault) → IsLeastIn core_fault_cmp (order_faults logs) o → o ≡ least_core_fault logs
least_core logs o h =
    one_least core_fault_cmp core_fault_total (order_faults logs) (order_faults logs) o (least_core_fault logs)
    (λ a b p q tied. tied_core_faults a b tied) (λ f p. p) (λ f p. p) h (least_is core_fault_cmp core_fault_total (order_faults logs))

less_fault : (f : RuleFault) (core index : ℕ) → is_lt (core_fault_cmp f (order_fault (record { core = core; index = index }))) ≡ true → (f.id.core < core) ⊎ ((f.id.core ≡ core) × (f.id.index < index))
less_fault f core index lt = elim (cases_lt f.id.core core) [
  | inl low ↦ inl low
  | inr high ↦ (let same : f.id.core ≡ core = grind (arith, nat_tests) in let low : f.id.index < index = grind (arith, nat_tests) in inr (same, low))
]

module _ {S : Type 0} {remaining : S → Option (List ℕ)} {failed : S → ℕ} {before after : List S} {lanes : List LaneParts} {clean : Bool} {merged : List (List Record)} {done : List Entry}
    (m : IsMerged remaining failed before after lanes clean merged done) (ended : AllEnded lanes) where
  given : (texts : List (List ℕ)) × (TellEach remaining before texts × AreBegun texts lanes merged)
  given = begun_texts m.all

  abbrev texts : List (List ℕ)
  texts = given.0

  begun : AreBegun texts lanes merged
  begun = given.1.1

  spelled : (k : ℕ) (l : LaneParts) → slice_get lanes k ≡ Some l → l.fault ≡ None → Spells k (length texts) (text_at texts k) (log_at merged k)
  spelled k l hl none = (begun.each k l hl).whole (ended k l hl) none

  spelled_before : (file : ℕ) → file < length lanes → NoneFaulty lanes file → SpellBefore texts file
  spelled_before file w none k low = (log_at merged k, (let l = there lanes k (omega (arith, w, low)) in spelled k l.0 l.1 (none k l.0 low l.1)))

  -- the first fault of the set
  set_fault : (file : ℕ) (fault : LogFault) (l : LaneParts) → slice_get lanes file ≡ Some l → l.fault ≡ Some fault → NoneFaulty lanes file → IsAnswerTo texts (Err (from_set file fault))
  set_fault file fault l hl some none = go fault ((begun.each file l hl).faults fault some)
    where
      w : file < length lanes
      w = slice_get_within lanes file l hl

      go : (f : LogFault) → IsFaultOrDevice file (length texts) (text_at texts file) f → IsAnswerTo texts (Err (from_set file f))
      go (At line f) holds = record { there = omega (arith, w, begun.lanes_many); before = spelled_before file w none; first = holds }
      go OutOfMemory holds = tt
      go Read holds = (omega (arith, w, begun.lanes_many), spelled_before file w none)

  spell_set : NoneFaulty lanes (length lanes) → SpellSet texts merged
  spell_set none = spell_from 0 (length texts) texts merged begun.many
      (λ k c w is. (let same : c ≡ k = omega arith in let l = there lanes k (omega (arith, w, begun.lanes_many)) in
      rw same (spelled k l.0 l.1 (none k l.0 (omega (arith, w, begun.lanes_many)) l.1))))

  -- ---- faults of core order

  fall_of : (k : ℕ) (l : LaneParts) (o : Option ℕ) → slice_get lanes k ≡ Some l → l.falls ≡ o → IsLeastWhere (is_core_fault (log_at merged k)) o
  fall_of k l o hl is =
      subst (λ rs. IsLeastWhere (is_core_fault rs) o) (ap (λ f. log_at merged k ++ front_list f) (ended k l hl) ∙ append-nil (log_at merged k))
      (subst (λ p. IsLeastWhere (is_core_fault (log_at merged k ++ front_list l.front)) p) is (m.all.lane k l hl).at.first_fall)

  falls_at : (f : RuleFault) → FaultIn merged f → is_core_fault (log_at merged f.id.core) f.id.index ≡ true
  falls_at f found = subst (λ rs. is_core_fault rs f.id.index ≡ true) (sym (get_or_from_slice_get merged f.id.core found.log [] found.place)) found.falls_there

  -- a log that doesn't fall has no such fault
  not_falling : (f : RuleFault) → FaultIn merged f → ((l : LaneParts) → slice_get lanes f.id.core ≡ Some l → l.falls ≡ None) → ⊥
  not_falling f found none =
      let l = there lanes f.id.core (omega (arith, slice_get_within merged f.id.core found.log found.place, m.all.logs, m.all.many)) in
      let no_fall = fall_of f.id.core l.0 None l.1 (none l.0 l.1) f.id.index in
      let falls_here = falls_at f found in
      cc

  pub none_falls : NoneFalls lanes (length lanes) → None ≡ least_core_fault merged
  none_falls none = least_core merged None (λ f p. not_falling f (fault_in_log merged f p) (λ l hl. none f.id.core l (slice_get_within lanes f.id.core l hl) hl))

  pub first_falls : (core index : ℕ) (l : LaneParts) → slice_get lanes core ≡ Some l → l.falls ≡ Some index → NoneFalls lanes core → Some (order_fault (record { core = core; index = index })) ≡ least_core_fault merged
  first_falls core index l hl some none = least_core merged (Some fault) (
    fault_of_log merged (record { core = core; index = index }) (log_at merged core) (slice_get-get_or merged core [] w) least.0,
    λ f p. false_from_ne_true (is_lt (core_fault_cmp f fault)) (λ lt. not_before f (fault_in_log merged f p) (less_fault f core index lt)),
  )
    where
      fault : RuleFault
      fault = order_fault (record { core = core; index = index })

      w : core < length merged
      w = omega (arith, slice_get_within lanes core l hl, m.all.logs, m.all.many)

      least : IsLeastWhere (is_core_fault (log_at merged core)) (Some index)
      least = fall_of core l (Some index) hl some

      not_before : (f : RuleFault) → FaultIn merged f → (f.id.core < core) ⊎ ((f.id.core ≡ core) × (f.id.index < index)) → ⊥
      not_before f found (inl low) = not_falling f found (λ x hx. none f.id.core x low hx)
      not_before f found (inr (same, low)) = let falls_here = subst (λ c. is_core_fault (log_at merged c) f.id.index ≡ true) same (falls_at f found) in let no_fall = least.1 f.id.index low in cc

  -- the index of a fall is that of a record
  pub fall_within : (core index : ℕ) (l : LaneParts) → slice_get lanes core ≡ Some l → l.falls ≡ Some index → (core < 64) × (index < operation_limit)
  fall_within core index l hl some =
      let r = record_at_fault (log_at merged core) index (fall_of core l (Some index) hl some).0 in
      let few = (m.all.lane core l hl).at.few in
      (omega (arith, slice_get_within lanes core l hl, m.all.few, m.all.many), omega (arith, slice_get_within (log_at merged core) index r.0 r.1, few))

  -- none failed before the file that is told, and its own reader only where that is told
  quiet_at : (file : ℕ) (fault : LogFault) (l : LaneParts) → slice_get lanes file ≡ Some l → l.fault ≡ Some fault → NoneFaulty lanes file → IsQuietUpTo failed before after (Some (Err (from_set file fault)))
  quiet_at file (At line f) l hl some none =
      let sound = each_by (λ k x. k < file + 1 → x.fault ≡ Some Read → ⊥) lanes file l hl (λ less read. cc) (λ k x other hx less read. (let whole = none k x (omega arith) hx in cc)) in
      quiet_to m.all (file + 1) (λ k x less hx. sound k x hx less)
  quiet_at file OutOfMemory l hl some none = tt
  quiet_at file Read l hl some none = quiet_to m.all file (λ k x less hx read. (let sound = none k x less hx in cc))

  -- where no log has a fault
  quiet_whole : NoneFaulty lanes (length lanes) → NoneFailed failed before after
  quiet_whole whole = quiet_all m.all (λ k l hl read. (let sound = whole k l (slice_get_within lanes k l hl) hl in cc))

  read_failed : (file other : ℕ) (fault : LogFault) (l : LaneParts) → slice_get lanes file ≡ Some l → l.fault ≡ Some fault → from_set file fault ≡ ReadFile other → ReaderFailed failed before after other
  read_failed file other (At line f) l hl some h = absurd cc
  read_failed file other OutOfMemory l hl some h = absurd cc
  read_failed file other Read l hl some h = let p = m.all.lane file l hl in let same : other ≡ file = cc in rw same (p.first, (p.now, p.is_first, p.is_now, p.at.read some))

  pub final_fault : (file : ℕ) (fault : LogFault) (l : LaneParts) → slice_get lanes file ≡ Some l → l.fault ≡ Some fault → NoneFaulty lanes file → IsFinalVerdict remaining failed before after lanes merged (Err (from_set file fault))
  final_fault file fault l hl some none = record {
    texts = texts;
    tells = given.1.0;
    begun = begun;
    answers = set_fault file fault l hl some none;
    clean = tt;
    failed_at = λ other h. read_failed file other fault l hl some h;
    quiet = quiet_at file fault l hl some none;
  }

  final : (verdict : Verdict) → IsAnswerTo texts (Ok verdict) → IsClean lanes merged texts (Ok verdict) → NoneFaulty lanes (length lanes) → IsFinalVerdict remaining failed before after lanes merged (Ok verdict)
  final verdict answers clean whole = record {
    texts = texts;
    tells = given.1.0;
    begun = begun;
    answers = answers;
    clean = clean;
    failed_at = tt;
    quiet = quiet_whole whole;
  }

  pub final_fall : (core index : ℕ) (l : LaneParts) → slice_get lanes core ≡ Some l → l.falls ≡ Some index → NoneFalls lanes core → NoneFaulty lanes (length lanes)
      → IsFinalVerdict remaining failed before after lanes merged (Ok (No (record { id = record { core = core; index = index }; rule = CoreOrder })))
  final_fall core index l hl some none whole =
      final (No (record { id = record { core = core; index = index }; rule = CoreOrder })) (merged, spell_set whole, ap (λ o. verdict_with o merged) (first_falls core index l hl some none))
      (spell_set whole, inl (refl, (fall_of core l (Some index) hl some).0)) whole

  module _ (none : NoneFalls lanes (length lanes)) (whole : NoneFaulty lanes (length lanes)) (address : Option AddressFault) (first : NoFalls lanes → address ≡ first_along [] done) where
    steady : NoFalls lanes
    steady k l hl = none k l (slice_get_within lanes k l hl) hl

    least_address : address ≡ least_address_fault (entries merged)
    least_address = first steady ∙ ap (first_along []) (m.by_key_so_far steady) ∙ along_is_least merged

    verdict_is : option_map_or No (option_map from_address address) (Yes (length done)) ≡ verdict_of merged
    verdict_is =
        ap (λ o. option_map_or No (option_map from_address o) (Yes (length done))) least_address
        ∙ ap (λ n. option_map_or No (option_map from_address (least_address_fault (entries merged))) (Yes n)) m.total
        ∙ ap (λ o. verdict_with o merged) (none_falls none)

    pub final_address : (fault : AddressFault) → address ≡ Some fault → IsFinalVerdict remaining failed before after lanes merged (Ok (No (from_address fault)))
    final_address fault is =
        final (No (from_address fault)) (merged, spell_set whole, ap (λ o. option_map_or No (option_map from_address o) (Yes (length done))) (sym is) ∙ verdict_is)
        (spell_set whole, inr (steady, (fault, sym least_address ∙ is, refl))) whole

    pub final_yes : (count : ℕ) → count ≡ length done → address ≡ None → IsFinalVerdict remaining failed before after lanes merged (Ok (Yes count))
    final_yes count counted is =
        let says : Yes count ≡ verdict_of merged = ap (λ n. Yes n) counted ∙ ap (λ o. option_map_or No (option_map from_address o) (Yes (length done))) (sym is) ∙ verdict_is in
        final (Yes count) (merged, spell_set whole, says) (spell_set whole, says, λ k l hl. (steady k l hl, whole k l (slice_get_within lanes k l hl) hl)) whole
