use Rattle.std.proofs.Common.{◌≡◌, ◌∙◌, ap, subst, inl, inr, arith, slice_index_or}
use Rattle.std.proofs.lemmas.Bool.{cases_lt}
use Rattle.std.proofs.lemmas.List.{get_or_default}
use Rattle.core_program.specs.Shape.{IsProgram}
use Rattle.core_program.proofs.program_set.each_is_program.Goals as goal

pub loop-program-preserved : goal.loop-program-preserved
loop-program-preserved c k d below = elim (cases_lt k c.loop-program.program-index) [
  | inl earlier ↦ c.loop-program.invariant k d earlier
  | inr here ↦ subst IsProgram
      (c.program-item.is ∙ get_or_default c.args.programs.now c.loop-program.program-index c.program-item.result d c.loop-program-test.true
      ∙ ap (λ n. slice_index_or c.args.programs.now n d) (let same : c.loop-program.program-index ≡ k = omega arith in same))
      c.instructions-instructions.ensures.shape
]

pub returns : goal.returns
returns c k d below = c.loop-program.invariant k d (omega arith)
