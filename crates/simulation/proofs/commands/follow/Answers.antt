use Rattle.std.proofs.Common.{rules, ◌≡◌, ◌<◌, ◌++◌, ◌∷◌, [], ◌+◌, ◌∙◌, ap, length, take, subst, sym, Err, List, arith}
use Rattle.std.proofs.lemmas.List.{take_more}
use Rattle.std.proofs.lemmas.Option.{slice_get-get_or}
use Rattle.std.specs.Prelude.{Some}
use Rattle.simulation.specs.Commands.{Follows, no_command, one_more}
use Rattle.simulation.specs.declared.command.Command.{Command}
use Rattle.simulation.proofs.commands.follow.Goals as goal

pub loop-command-init : goal.loop-command-init
loop-command-init c = no_command

pub returns-in_err-obey : goal.returns-in_err-obey
returns-in_err-obey c =
    let is : c.from_residual.result ≡ Err c.in_err-obey.field-0.0 = search rules in
    let command = c.command-item.result in
    let below : c.loop-command.command-index < length c.args.commands.now = omega (arith, c.loop-command-test.true, c.loop-command.auto.command-index-end) in
    rw is record {
      at = c.loop-command.command-index;
      command = command;
      stands = slice_get-get_or c.args.commands.now c.loop-command.command-index command below ∙ ap (λ x. Some x) (sym c.command-item.is);
      between = c.loop-command.machine;
      followed = c.loop-command.invariant;
      refused = c.in_err-obey.ensures;
    }

pub loop-command-preserved : goal.loop-command-preserved
loop-command-preserved c =
    let n = c.loop-command.command-index in
    let command = c.command-item.result in
    let below : n < length c.args.commands.now = omega (arith, c.loop-command-test.true, c.loop-command.auto.command-index-end) in
    let more : take (n + 1) c.args.commands.now ≡ take n c.args.commands.now ++ command ∷ [] =
    take_more c.args.commands.now n command below ∙ ap (λ x. take n c.args.commands.now ++ x ∷ []) (sym c.command-item.is) in
    subst (λ (commands : List Command). Follows c.args.machine.now commands c.obey.new.machine) (sym more)
    (one_more (take n c.args.commands.now) command c.loop-command.machine c.obey.new.machine c.loop-command.invariant c.in_ok-obey.ensures)
