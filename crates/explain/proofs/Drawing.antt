-- Which explanations are drawn, by their verdicts.
use Rattle.std.specs.Prelude.{◌≡◌, ◌≤◌, ◌↔◌, ℕ, List, length, Option, None, Some}
use Rattle.std.specs.Option.{option_map_or}
use Rattle.std.proofs.Common.{sym, ◌∙◌, subst}
use Rattle.std.proofs.lemmas.List.Sorted.{length_permutation}
use Rattle.line_stamps.specs.Least.{least_of}
use Rattle.log_record.specs.declared.record.Entry.{Entry}
use Rattle.log_record.specs.declared.record.Record.{Record}
use Rattle.log_record.specs.Entries.{entries}
use Rattle.core_program.specs.declared.instruction.Instruction.{Instruction}
use Rattle.core_check.specs.declared.fault.RuleFault.{RuleFault}
use Rattle.core_check.specs.FaultOrder.{core_fault_cmp}
use Rattle.verdict.specs.CoreFaultsOf.{core_faults}
use Rattle.verdict.specs.FaultParts.{FaultParts}
use Rattle.verdict.specs.Bases.{IsExaminationOf, IsBasisOf}
use Rattle.verdict.specs.VerdictOf.{first_fault, verdict_with}
use Rattle.verdict.specs.declared.answer.Verdict.{Verdict}
use Rattle.verdict.specs.declared.answer.Verdict.TheVariants.{Yes, No}
use Rattle.verdict.specs.declared.basis.Examined.{Examined}
use Rattle.verdict.specs.declared.basis.Basis.{Basis}
use Rattle.verdict.specs.declared.basis.Basis.TheVariants.{Logs, Index}
use Rattle.explain.specs.Explanations.{Explains}
use Rattle.explain.specs.Pictures.{HasPicture, IsDrawn, most_drawn}
use Rattle.explain.specs.declared.explanation.Explanation.{Explanation}
use Rattle.explain.specs.declared.explanation.Explanation.TheVariants.{Load, CoreOrder, Program, Summed}

-- a Yes is to as many operations as there are
yes_count : (count n : ℕ) (fault : Option FaultParts) → Yes count ≡ option_map_or No fault (Yes n) → count ≡ n
yes_count count n None says = cc
yes_count count n (Some fault) says = absurd cc

index_length : (o : Option RuleFault) (logs : List (List Record)) (es : List Entry) → IsBasisOf o logs (Index es) → length (entries logs) ≡ length es
index_length None logs es is = sym (length_permutation (entries logs) es is.0)
index_length (Some fault) logs es is = absurd is

-- an explanation is drawn exactly where its verdict has a picture
pub drawn_by_verdict : (programs : Option (List (List Instruction))) (logs : List (List Record)) (examined : Examined) (why : Explanation)
    → IsExaminationOf programs logs examined → Explains programs examined.verdict examined.basis why → IsDrawn why ↔ HasPicture examined.verdict
drawn_by_verdict programs logs examined why is explains = go examined.verdict examined.basis why is.verdict is.basis explains
  where
    least : Option RuleFault
    least = least_of core_fault_cmp (core_faults programs logs)

    go : (v : Verdict) (b : Basis) (w : Explanation) → v ≡ verdict_with least logs → IsBasisOf least logs b → Explains programs v b w → IsDrawn w ↔ HasPicture v
    go (No fault) b (Load found) says on e = (λ x. tt, λ x. tt)
    go (No fault) b (CoreOrder fall) says on e = (λ x. tt, λ x. tt)
    go (No fault) b (Program departure) says on e = (λ x. tt, λ x. tt)
    go (No fault) (Logs set) (Summed summary) says on e = absurd e
    go (No fault) (Index es) (Summed summary) says on e = absurd e
    go (Yes count) (Logs set) w says on e = absurd (on_logs w e)
      where
        on_logs : (w : Explanation) → Explains programs (Yes count) (Logs set) w → ⊥
        on_logs (Load found) x = x
        on_logs (CoreOrder fall) x = x
        on_logs (Program departure) x = x
        on_logs (Summed summary) x = x
    go (Yes count) (Index es) (Load found) says on e = absurd e
    go (Yes count) (Index es) (CoreOrder fall) says on e = absurd e
    go (Yes count) (Index es) (Program departure) says on e = absurd e
    go (Yes count) (Index es) (Summed summary) says on e =
        let many : length es ≡ count = sym (yes_count count (length (entries logs)) (first_fault least logs) says ∙ index_length least logs es on) in
        (λ some. subst (λ (n : ℕ). n ≤ most_drawn) many (e.told.0 some), λ few. e.told.1 (subst (λ (n : ℕ). n ≤ most_drawn) (sym many) few))
