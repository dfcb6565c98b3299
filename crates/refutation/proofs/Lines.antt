-- Lines of a text, one by one.
use Rattle.std.proofs.Common.{rules, ◌≡◌, ℕ, ◌<◌, ◌^◌, Bool, true, false, List, [], ◌∷◌, ◌++◌, Option, Some, None, refl, sym, ap, ◌∙◌, append_assoc}
use Rattle.std.specs.Prelude.{codes, if◌then◌else◌}
use Rattle.std.proofs.lemmas.List.{append_cancel_left}
use Rattle.decimal_text.specs.Numbers.{numeral, as_u64}
use Rattle.decimal_text.specs.Reading.{field_at, front_map}
use Rattle.decimal_text.proofs.Lines.{NoLf, NoLf-append, numeral_no_lf, const_no_lf}
use Rattle.decimal_text.proofs.Numbers.{as_u64_some}
use Rattle.decimal_text.proofs.Reading.{field_again}
use Rattle.mem_op.specs.declared.id.OpId.{OpId}
use Rattle.refutation.specs.declared.step.Point.{Point}
use Rattle.refutation.specs.declared.step.Range.{Range}
use Rattle.refutation.specs.declared.step.Step.{Step}
use Rattle.refutation.specs.Grammar.{id_text, point_text, is_same_point, range_text, reason_text, fields_text, step_text, end_line}
use Rattle.refutation.specs.Texts.{NoStepInFront}
use Rattle.refutation.specs.inner.Telling.{TellsLine}
use Rattle.refutation.proofs.StateTexts.{numbers_no_lf, states_no_lf}
use Rattle.text_lines.specs.Lines.{IsOneLine}
use Rattle.text_lines.proofs.Fields.{number_no_lf}
use Rattle.text_lines.proofs.SpacedWords.{spaced_no_lf}
use Rattle.text_lines.proofs.TextLines.{first_line}

-- ---- no line feed

pub id_no_lf : (id : OpId) → NoLf (id_text id)
unfolding id_text
id_no_lf id = NoLf-append (numeral id.core) (46 ∷ numeral id.index) (numeral_no_lf id.core) (refl, numeral_no_lf id.index)

point_no_lf : (p : Point) → NoLf (point_text p)
point_no_lf p = search (rules, id_no_lf) depth 12

range_no_lf : (range : Range) → NoLf (range_text range)
unfolding range_text
range_no_lf range = NoLf-append (point_text range.first) _ (point_no_lf range.first) (last (is_same_point range.first range.last))
  where
    last : (b : Bool) → NoLf (if b then [] else codes ".." ++ point_text range.last)
    last true = tt
    last false = NoLf-append (codes "..") (point_text range.last) (const_no_lf (codes "..") refl) (point_no_lf range.last)

reason_no_lf : (source : ℕ) (write : OpId) (path : List ℕ) → NoLf (reason_text source write path)
unfolding reason_text
reason_no_lf source write path = search (rules, NoLf-append, number_no_lf, id_no_lf, numbers_no_lf) depth 12

pub step_no_lf : (step : Step) → NoLf (step_text step)
unfolding fields_text
step_no_lf step = search (rules, NoLf-append, id_no_lf, reason_no_lf, numbers_no_lf, states_no_lf, spaced_no_lf range_text range_no_lf) depth 16

-- ---- the first line

-- none, where the first line isn't a step's
pub none_of_other : (text line behind : List ℕ) → TellsLine line None → IsOneLine line → text ≡ line ++ 10 ∷ behind → NoStepInFront text
none_of_other text line behind none one is = λ step rest there.
    none step there.0 (first_line text line behind (step_text step) rest one (step_no_lf step) is there.1)

-- ---- the last line

-- the number and the bytes after an `end` line that is there
pub end_front : (rest behind more : List ℕ) (count : ℕ) (front : Option (Option ℕ × List ℕ)) → rest ≡ codes "end " ++ behind → front ≡ front_map as_u64 (field_at 10 behind) → count < 2 ^ 64
    → rest ≡ end_line count ++ more → front ≡ Some (Some count, more)
end_front rest behind more count front is read low end =
    let text = end ∙ ap (λ xs. codes "end " ++ xs) (append_assoc (numeral count) (10 ∷ []) more) in
    let same = append_cancel_left (codes "end ") behind (numeral count ++ 10 ∷ more) (sym is ∙ text) in
    read ∙ rw (same, field_again 10 count more refl) (ap (λ n. Some (n, more)) (sym (as_u64_some count low)))
