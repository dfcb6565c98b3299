use Rattle.std.proofs.Common.{refl}
use Rattle.refutation.proofs.StepLines.{line-none}
use Rattle.refutation.proofs.line.read_step.Goals as goal

pub returns-in_default-after_text-4 : goal.returns-in_default-after_text-4
returns-in_default-after_text-4 c =
    line-none c.args.line.now (c.in_default.ensures.none refl) (c.in_default-after_text.ensures.none refl) (c.in_default-after_text-2.ensures.none refl)
    (c.in_default-after_text-3.ensures.none refl) (c.in_default-after_text-4.ensures.none refl)
