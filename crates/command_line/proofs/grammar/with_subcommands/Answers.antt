use Rattle.std.proofs.Common.{◌∙◌, ◌+◌, ap, sym, drop}
use Rattle.std.proofs.lemmas.List.{at_drop_all, at_drop_more}
use Rattle.clap.specs.Words.{App, app_of, with_subcommand}
use Rattle.command_line.specs.inner.Arguments.{with_subcommands}
use Rattle.command_line.proofs.grammar.with_subcommands.Goals as goal

pub loop-subcommand-preserved : goal.loop-subcommand-preserved
unfolding with_subcommands
loop-subcommand-preserved c =
    let before = app_of c.loop-subcommand.made in
    let step = at_drop_more (with_subcommands before) c.args.subcommands.now c.loop-subcommand.subcommand-index _ c.loop-subcommand-test.true in
    let made = c.in_ok-made.ensures ∙ ap (λ (app : App). with_subcommand before app.top) c.in_ok-clap_command.ensures.app in
    ap (λ (app : App). with_subcommands app (drop (c.loop-subcommand.subcommand-index + 1) c.args.subcommands.now)) made ∙ sym step
    ∙ c.loop-subcommand.invariant

pub returns : goal.returns
unfolding with_subcommands
returns c = sym (at_drop_all (with_subcommands (app_of c.loop-subcommand.made)) c.args.subcommands.now _ c.loop-subcommand-test.false)
    ∙ c.loop-subcommand.invariant
