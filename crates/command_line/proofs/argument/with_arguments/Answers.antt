use Rattle.std.proofs.Common.{◌∙◌, ◌+◌, ap, sym, drop, map}
use Rattle.std.proofs.lemmas.List.{at_drop_all, at_drop_more}
use Rattle.clap.specs.Words.{App, Rule, app_of, with_rule}
use Rattle.command_line.specs.inner.Arguments.{rule_of, with_rules}
use Rattle.command_line.proofs.Rules.{simple_rule}
use Rattle.command_line.proofs.argument.with_arguments.Goals as goal

pub with_argument-requires : goal.with_argument-requires
with_argument-requires c = ap (λ (r : Rule). r.is_simple) c.clap_argument.ensures ∙ simple_rule _

pub loop-argument-preserved : goal.loop-argument-preserved
loop-argument-preserved c =
    let before = app_of c.loop-argument.made in
    let step = at_drop_more (λ more. with_rules before (map rule_of more)) c.args.arguments.now c.loop-argument.argument-index _ c.loop-argument-test.true in
    let made = c.in_ok-made.ensures ∙ ap (with_rule before) c.clap_argument.ensures in
    ap (λ (app : App). with_rules app (map rule_of (drop (c.loop-argument.argument-index + 1) c.args.arguments.now))) made ∙ sym step
    ∙ c.loop-argument.invariant

pub returns : goal.returns
returns c = sym (at_drop_all (λ more. with_rules (app_of c.loop-argument.made) (map rule_of more)) c.args.arguments.now _ c.loop-argument-test.false)
    ∙ c.loop-argument.invariant
