-- A text is that of one refutation, and has one first bad line.
use Rattle.std.proofs.Common.{rules, ◌≡◌, ℕ, ◌<◌, ◌^◌, List, [], ◌++◌, length, refl, sym, ap, ◌∙◌, inl, inr, append-nil}
use Rattle.std.specs.Prelude.{codes}
use Rattle.std.proofs.lemmas.List.{append_cancel_left}
use Rattle.std.proofs.lemmas.Option.{some_pair_parts}
use Rattle.mem_op.specs.declared.id.OpId.{OpId}
use Rattle.refutation.specs.declared.fault.CertificateFault.{CertificateFault}
use Rattle.refutation.specs.declared.fault.CertificateFault.TheVariants.{BadCertificate, OutOfMemory}
use Rattle.refutation.specs.declared.step.Step.{Step}
use Rattle.refutation.specs.Grammar.{id_text, reason_text, name_text, fields_text, step_text, steps_text, end_line, IdFits, PathFits, Fits}
use Rattle.refutation.specs.Texts.{Spells, NoStepInFront, Begins, EndsBadly, IsFirstMisshapen, IsFault}
use Rattle.refutation.specs.TextLaws.{SpelledIsRead, AtMostOneFault}
use Rattle.refutation.specs.inner.Reading.{named_at}
use Rattle.refutation.proofs.Lines.{step_no_lf}
use Rattle.refutation.proofs.Parts.{named_again, ranges_are_words}
use Rattle.refutation.proofs.StateTexts.{sets-once}
use Rattle.refutation.proofs.StepLines.{name_first}
use Rattle.text_lines.proofs.Fields.{field_below_again}
use Rattle.text_lines.proofs.Items.{AreLines, cut_once}
use Rattle.text_lines.proofs.SpacedWords.{numbers_are_words, spaced_once}

-- ---- a step's line is that of one step

named-once : {a b : OpId} {xs ys : List ℕ} → IdFits a → IdFits b → id_text a ++ (codes " :" ++ xs) ≡ id_text b ++ (codes " :" ++ ys) → (a ≡ b) × (xs ≡ ys)
named-once {a} {b} {xs} {ys} p q e = some_pair_parts _ _ _ _ (sym (named_again a xs p) ∙ ap named_at e ∙ named_again b ys q)

reason-once : (s t : ℕ) (v w : OpId) (p q : List ℕ) → (s < 2 ^ 64) × IdFits v × PathFits p → (t < 2 ^ 64) × IdFits w × PathFits q → reason_text s v p ≡ reason_text t w q → (s ≡ t) × (v ≡ w) × (p ≡ q)
unfolding reason_text
reason-once s t v w p q f g e = search (rules, some_pair_parts, field_below_again, named-once, spaced_once, numbers_are_words)

fields-once : (a b : Step) → Fits a → Fits b → name_text a ≡ name_text b → fields_text a ≡ fields_text b → a ≡ b
unfolding fields_text
fields-once a b p q name e = search (rules, named-once, spaced_once, ranges_are_words, reason-once, numbers_are_words, sets-once)

step-once : (a b : Step) → Fits a → Fits b → step_text a ≡ step_text b → a ≡ b
step-once a b p q e = search (rules, name_first, fields-once, append_cancel_left)

-- ---- one text

step_lines : AreLines step_text Fits
step_lines = record { no_lf = step_no_lf; once = step-once }

-- the `end` line is no step's
end-no_step : (count : ℕ) → NoStepInFront (end_line count)
end-no_step count = search rules

-- what begins with the header does so in one way
begun-once : (bytes : List ℕ) (p q : List Step) (xs ys : List ℕ) → Begins bytes p xs → Begins bytes q ys → (p ≡ q) × (xs ≡ ys)
begun-once bytes p q xs ys a b = search (rules, cut_once, step_lines, append_cancel_left)

spelled-begun : (bytes : List ℕ) (steps : List Step) → Spells bytes steps → Begins bytes steps (end_line (length steps))
spelled-begun bytes steps spells = record { each_fits = spells.0; text = spells.1; none_in_front = end-no_step (length steps) }

-- it doesn't end badly
ends-well : (count line : ℕ) → EndsBadly (end_line count) count line → ⊥
ends-well count line (inl none) = none.1 [] (sym (append-nil (end_line count)))
ends-well count line (inr more) = more.1.1 (sym (append_cancel_left (end_line count) [] more.1.0 (append-nil (end_line count) ∙ more.1.2)))

-- where it ends badly is told once
ends-once : (rest : List ℕ) (count j k : ℕ) → EndsBadly rest count j → EndsBadly rest count k → j ≡ k
ends-once rest count j k a b = search rules

no-fault : (bytes : List ℕ) (steps : List Step) (fault : CertificateFault) → Spells bytes steps → IsFault bytes fault → fault ≡ OutOfMemory
no-fault bytes steps OutOfMemory spells bad = refl
no-fault bytes steps (BadCertificate line) spells (inl lacks) = absurd (lacks.1 (steps_text steps ++ end_line (length steps)) spells.1)
no-fault bytes steps (BadCertificate line) spells (inr begun) =
    let same = begun-once bytes begun.0 steps begun.1 (end_line (length steps)) begun.2 (spelled-begun bytes steps spells) in
    absurd (ends-well (length steps) line (rw (same.0, same.1) at begun.3))

pub spelled : SpelledIsRead
spelled = record {
  one_refutation = λ bytes p q a b. (begun-once bytes p q (end_line (length p)) (end_line (length q)) (spelled-begun bytes p a) (spelled-begun bytes q b)).0;
  no_fault = no-fault;
}

first-once : (bytes : List ℕ) (j k : ℕ) → IsFirstMisshapen bytes j → IsFirstMisshapen bytes k → j ≡ k
first-once bytes j k (inl a) (inl b) = a.0 ∙ sym b.0
first-once bytes j k (inl a) (inr b) = absurd (a.1 (steps_text b.0 ++ b.1) b.2.text)
first-once bytes j k (inr a) (inl b) = absurd (b.1 (steps_text a.0 ++ a.1) a.2.text)
first-once bytes j k (inr a) (inr b) =
    let same = begun-once bytes a.0 b.0 a.1 b.1 a.2 b.2 in
    ends-once b.1 (length b.0) j k (rw (same.0, same.1) at a.3) b.3

pub at_most_one : AtMostOneFault
at_most_one bytes (BadCertificate j) (BadCertificate k) a b f g = ap (λ (n : ℕ). BadCertificate n) (first-once bytes j k a b)
at_most_one bytes OutOfMemory other a b f g = absurd (f refl)
at_most_one bytes (BadCertificate j) OutOfMemory a b f g = absurd (g refl)
