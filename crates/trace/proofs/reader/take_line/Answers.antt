use Rattle.std.proofs.Common.{◌≤◌, ℕ, List, [], ◌∷◌, length, length-append, arith, ap, sym, subst, ◌∙◌}
use Rattle.mem_op.specs.Consistency.{Operation}
use Rattle.mem_op.specs.Limits.{operation_limit}
use Rattle.trace.specs.declared.line.TraceLine.TheVariants.{Performs}
use Rattle.trace.specs.Grammar.{IsLine}
use Rattle.flat_replay.specs.Accesses.{own_operations}
use Rattle.trace.specs.Texts.{with_line}
use Rattle.trace.specs.inner.Taking.{IsLineRefusal}
use Rattle.trace.proofs.LineTexts.{line_takes, no_line}
use Rattle.trace.proofs.Saying.{trace_of-push, too_many}
use Rattle.trace.proofs.reader.take_line.Goals as goal

pub returns-in_default : goal.returns-in_default
returns-in_default c said stands = (
  (let was = stands.counted in let more = c.saturating_add.ensures in omega arith),
  no_line c.args.line.now (sym c.in_default.is ∙ c.read_line.ensures),
)

pub returns-in-Ok : goal.returns-in-Ok
returns-in-Ok c said stands = record {
  last = c.in-Some.said;
  is_line = line_takes c.args.line.now c.in-Some.said (sym c.read_line.ensures ∙ c.in-Some.is);
  stands = record {
    size = c.in-Ok.ensures.size;
    trace = c.in-Ok.ensures.added ∙ ap (λ cores. with_line cores c.in-Some.said) stands.trace ∙ sym (trace_of-push said c.in-Some.said);
    counted = (let was = stands.counted in let more = c.saturating_add.ensures in let one = length-append said (c.in-Some.said ∷ []) in omega arith);
  };
}

pub returns-in-Err-TooMany : goal.returns-in-Err-TooMany
returns-in-Err-TooMany c said stands = (
  (let was = stands.counted in let more = c.saturating_add.ensures in omega arith),
  subst (λ (cores : List (List Operation)). (core : ℕ) × (operation : Operation) × IsLine c.args.line.now (Performs core operation) × (operation_limit ≤ length (own_operations cores core)))
      stands.trace
      (too_many c.args.trace.now c.args.line.now c.in-Some.said (line_takes c.args.line.now c.in-Some.said (sym c.read_line.ensures ∙ c.in-Some.is)) (subst (IsLineRefusal c.args.trace.now c.in-Some.said) c.in-Err-TooMany.field-0-is c.in-Err-TooMany.ensures.refused)),
)
