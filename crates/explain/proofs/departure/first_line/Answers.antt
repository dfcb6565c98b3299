-- One section more, or the same lines where there is no further section.
use Rattle.std.proofs.Common.{◌≡◌, ◌∙◌, ℕ, zero, suc, ◌+◌, add-one, List, [], ◌∷◌, length, take, None, arith, ap, sym, refl}
use Rattle.std.specs.Prelude.{slice_get}
use Rattle.std.specs.Option.{option_copied}
use Rattle.core_program.specs.Grammar.{sections}
use Rattle.core_program.specs.declared.instruction.Instruction.{Instruction}
use Rattle.core_program.proofs.Jumps.{length-sections-next}
use Rattle.explain.proofs.departure.first_line.Goals as goal
use Rattle.explain.proofs.departure.first_line.Goals.{in-Some, in_default}

none_taken : {X : Type 0} (xs : List X) (n : ℕ) → slice_get xs n ≡ None → take (suc n) xs ≡ take n xs
none_taken [] zero none = refl
none_taken [] (suc n) none = refl
none_taken (x ∷ xs) zero none = absurd cc
none_taken (x ∷ xs) (suc n) none = ap (λ ys. x ∷ ys) (none_taken xs n none)

pub loop-number-preserved : goal.loop-number-preserved
loop-number-preserved c =
    let set = c.args.programs.now.programs in
    let n = c.loop-number.number in
    let found : option_copied c.get.result ≡ slice_get set n = c.get.ensures ∙ ap (slice_get set) c.at.ensures in
    let next : length (sections 0 (take (n + 1) set)) ≡ length (sections 0 (take (suc n) set)) = ap (λ (k : ℕ). length (sections 0 (take k set))) (add-one n) in
    elim c.match-get.branch [
      | in-Some w ↦ (
          let program = w.in-Some.program.now in
          let more = length-sections-next set n program (sym found ∙ ap option_copied w.in-Some.is) in
          let long : length w.instructions.result.now ≡ length program = ap length w.instructions.ensures.value in
          record { is = omega (arith, w.line-is, more, long, next); small = omega (arith, w.line-is, long, w.instructions.ensures.shape.short) }
          )
      | in_default w ↦ (
          let same = ap (λ (programs : List (List Instruction)). length (sections 0 programs)) (none_taken set n (sym found ∙ ap option_copied w.in_default.is)) in
          record { is = omega (arith, w.line-is, same, next); small = omega (arith, w.line-is) }
          )
    ]
