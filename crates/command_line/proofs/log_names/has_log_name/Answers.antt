use Rattle.std.proofs.Common.{rules, arith, ◌≡◌, ◌∙◌, subst, sym, true, false}
use Rattle.std.specs.Prelude.{Contains}
use Rattle.command_line.specs.Asking.{texts}
use Rattle.command_line.specs.RunFiles.{log_name}
use Rattle.command_line.proofs.NamesApart.{below_more}
use Rattle.command_line.proofs.log_names.has_log_name.Goals as goal

pub loop-core-preserved : goal.loop-core-preserved
loop-core-preserved c =
    let names = c.args.names.now in
    let log : c.as_str.result.now ≡ log_name c.args.out.now c.loop-core.core-counter = search rules in
    below_more (λ n. ¬ (Contains (texts names) (log_name c.args.out.now n))) c.loop-core.core-counter c.loop-core.invariant
    (λ has. let finds : true ≡ false = sym (c.is_among.ensures.1 (subst (Contains (texts names)) (sym log) has)) ∙ c.if-is_among.false in absurd cc)

pub returns : goal.returns
returns c = (
  λ yes. absurd cc,
  λ has. let (name, among, (n, below, is)) = has in absurd (c.loop-core.invariant n (omega arith) (subst (Contains (texts c.args.names.now)) is among)),
)
