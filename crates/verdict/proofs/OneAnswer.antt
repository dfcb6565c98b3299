-- The texts of a set have one verdict, or one first fault.
use Rattle.std.specs.Prelude.{◌≡◌, ◌<◌, ℕ, zero, suc, ◌+◌, List, [], ◌∷◌, length, refl, Result, Ok, Err}
use Rattle.std.proofs.Common.{sym, ◌∙◌, ap, subst, inl, inr, arith}
use Rattle.std.proofs.lemmas.Bool.{cases_order}
use Rattle.log_record.specs.declared.record.Record.{Record}
use Rattle.log_file.specs.declared.fault.FormatFault.{FormatFault}
use Rattle.log_file.specs.Log.{Spells, IsFirstFault, number}
use Rattle.log_file.specs.Sets.{SpellFrom, SpellSet, text_at, IsFirstOfSet}
use Rattle.log_file.proofs.Once.{one_log}
use Rattle.log_file.proofs.Spelled.{spelled_quiet}
use Rattle.verdict.specs.declared.answer.Verdict.{Verdict}
use Rattle.verdict.specs.declared.judge_fault.JudgeFault.{JudgeFault}
use Rattle.verdict.specs.declared.judge_fault.JudgeFault.TheVariants.{Log}
use Rattle.verdict.specs.Judgement.{IsAnswerBy, IsVerdictBy, IsOfTexts}

-- texts spell one set
one_set : (core cores : ℕ) (texts : List (List ℕ)) (logs others : List (List Record)) → SpellFrom core cores texts logs → SpellFrom core cores texts others → logs ≡ others
one_set core cores [] [] [] h k = refl
one_set core cores [] [] (other ∷ others) h k = absurd k
one_set core cores (text ∷ texts) (log ∷ logs) [] h k = absurd k
one_set core cores (text ∷ texts) (log ∷ logs) (other ∷ others) h k =
    let first : log ≡ other = one_log core cores text log other h.0 k.0 in
    let later : logs ≡ others = one_set (core + 1) cores texts logs others h.1 k.1 in
    cc
one_set core cores texts logs others h k = absurd h

-- the text of each file of a set that is spelled spells a log
spelled_at : (core cores number : ℕ) (texts : List (List ℕ)) (logs : List (List Record)) (file : ℕ) → number ≡ core + file → SpellFrom core cores texts logs → file < length texts → (log : List Record) × Spells number cores (text_at texts file) log
spelled_at core cores number [] logs file e h l = absurd (omega arith)
spelled_at core cores number (text ∷ texts) [] file e h l = absurd h
spelled_at core cores number (text ∷ texts) (log ∷ logs) zero e h l = (log, subst (λ c. Spells c cores text log) (let z : core ≡ number = omega arith in z) h.0)
spelled_at core cores number (text ∷ texts) (log ∷ logs) (suc file) e h l = spelled_at (core + 1) cores number texts logs file (omega arith) h.1 (omega arith)

-- a set that is spelled has no fault
spelled_or_faulty : (texts : List (List ℕ)) (logs : List (List Record)) (file line : ℕ) (fault : FormatFault) → SpellSet texts logs → IsFirstOfSet texts file line fault → ⊥
spelled_or_faulty texts logs file line fault h k =
    let found = spelled_at 0 (length texts) file texts logs file (omega arith) h k.there in
    spelled_quiet file (length texts) (text_at texts file) found.0 found.1 line fault k.first.holds

one_number : (f g : FormatFault) → number f ≡ number g → f ≡ g
one_number f g same = grind arith

-- a text has one first fault
one_first : (core cores : ℕ) (text : List ℕ) (k j : ℕ) (f g : FormatFault) → IsFirstFault core cores text k f → IsFirstFault core cores text j g → (k ≡ j) × (f ≡ g)
one_first core cores text k j f g h i =
    let least = h.least j g i.holds in
    let other_least = i.least k f h.holds in
    (grind arith, one_number f g (grind arith))

-- of two first faults of a set neither is at a file before the other's
not_before : (texts : List (List ℕ)) (file line other_file other_line : ℕ) (fault other : FormatFault) → IsFirstOfSet texts file line fault → IsFirstOfSet texts other_file other_line other → file < other_file → ⊥
not_before texts file line other_file other_line fault other h k l =
    let spelled = k.before file l in
    spelled_quiet file (length texts) (text_at texts file) spelled.0 spelled.1 line fault h.first.holds

same_fault : (texts : List (List ℕ)) (file line other_file other_line : ℕ) (fault other : FormatFault) → IsFirstOfSet texts file line fault → IsFirstOfSet texts other_file other_line other → ◌≡◌ {A = JudgeFault} (Log file line fault) (Log other_file other_line other)
same_fault texts file line other_file other_line fault other h k = elim (cases_order file other_file) [
  | inl same ↦ at_one_file same
  | inr apart ↦ absurd (elim apart [
    | inl l ↦ not_before texts file line other_file other_line fault other h k l
    | inr l ↦ not_before texts other_file other_line file line other fault k h l
  ])
]
  where
    at_one_file : file ≡ other_file → ◌≡◌ {A = JudgeFault} (Log file line fault) (Log other_file other_line other)
    at_one_file e =
        let there : IsFirstFault file (length texts) (text_at texts file) other_line other = subst (λ n. IsFirstFault n (length texts) (text_at texts n) other_line other) (sym e) k.first in
        let one = one_first file (length texts) (text_at texts file) line other_line fault other h.first there in
        let lines : line ≡ other_line = one.0 in
        let faults : fault ≡ other = one.1 in
        cc

same_verdict : (judged : List (List Record) → Verdict) (texts : List (List ℕ)) (a b : Verdict) → IsVerdictBy judged texts a → IsVerdictBy judged texts b → a ≡ b
same_verdict judged texts a b h k = h.2 ∙ ap judged (one_set 0 (length texts) texts h.0 k.0 h.1 k.1) ∙ sym k.2

pub one_answer : (judged : List (List Record) → Verdict) (texts : List (List ℕ)) (a b : Result Verdict JudgeFault) → IsOfTexts a → IsOfTexts b → IsAnswerBy judged texts a → IsAnswerBy judged texts b → a ≡ b
one_answer judged texts (Ok a) (Ok b) p q h k = ap (λ v. Ok v) (same_verdict judged texts a b h k)
one_answer judged texts (Ok a) (Err (Log file line fault)) p q h k = absurd (spelled_or_faulty texts h.0 file line fault h.1 k)
one_answer judged texts (Err (Log file line fault)) (Ok b) p q h k = absurd (spelled_or_faulty texts k.0 file line fault k.1 h)
one_answer judged texts (Err (Log file line fault)) (Err (Log other_file other_line other)) p q h k = ap (λ e. Err e) (same_fault texts file line other_file other_line fault other h k)
one_answer judged texts (Ok a) (Err fault) p q h k = absurd q
one_answer judged texts (Err (Log file line fault)) (Err other) p q h k = absurd q
one_answer judged texts (Err fault) b p q h k = absurd p
