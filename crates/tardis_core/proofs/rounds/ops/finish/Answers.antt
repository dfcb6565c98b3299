use Rattle.std.proofs.Common.{sym, ◌∙◌}
use Rattle.std.proofs.lemmas.Result.{err_from_is_err_and}
use Rattle.tardis_core.specs.Rounds.{no_op, next_op}
use Rattle.tardis_core.proofs.RoundRuns.{ops_run, then_run}
use Rattle.tardis_core.proofs.rounds.ops.finish.Goals as goal

pub loop-core-init : goal.loop-core-init
loop-core-init c = no_op

pub loop-core-preserved : goal.loop-core-preserved
loop-core-preserved c = next_op c.loop-core.machine c.perform_next.new.machine c.loop-core.invariant c.in_ok-perform_next.ensures.op

pub returns-in_err-perform_next-clause-finish : goal.returns-in_err-perform_next-clause-finish
returns-in_err-perform_next-clause-finish c =
    let p = err_from_is_err_and c.from_residual.result c.from_residual.ensures.1 in
    rw (p.1, p.2) record {
      between = c.loop-core.machine;
      ops = c.loop-core.invariant;
      is_left = sym c.has_next.ensures ∙ c.loop-core-test.true;
      fault_of = c.in_err-perform_next.ensures.op;
    }

pub returns-in_err-perform_next-clause-run : goal.returns-in_err-perform_next-clause-run
returns-in_err-perform_next-clause-run c =
    then_run c.args.machine.now c.loop-core.machine c.perform_next.new.machine
    (ops_run c.args.core c.args.machine.now c.loop-core.machine c.loop-core.invariant) c.in_err-perform_next.ensures.run

pub returns-clause-run : goal.returns-clause-run
returns-clause-run c = ops_run c.args.core c.args.machine.now c.loop-core.machine c.loop-core.invariant
