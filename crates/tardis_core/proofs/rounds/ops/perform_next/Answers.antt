use Rattle.std.proofs.Common.{◌+◌, arith}
use Rattle.std.proofs.lemmas.Result.{err_from_is_err_and}
use Rattle.core_machine.specs.Parts.{world}
use Rattle.tardis_core.specs.Rounds.{ToTurn, no_round, one_more, stopped}
use Rattle.tardis_core.proofs.RoundRuns.{rounds_run, stopped_run, then_run, performed_later, still_waits}
use Rattle.tardis_core.proofs.Stages.{then_same}
use Rattle.tardis_core.proofs.Works.{same_work}
use Rattle.tardis_core.proofs.rounds.ops.perform_next.Goals as goal

pub loop-init : goal.loop-init
loop-init c = record { rounds = no_round; same = same_work c.args.core (world c.args.machine.now) }

pub returns-in_err-make_round-clause-op : goal.returns-in_err-make_round-clause-op
returns-in_err-make_round-clause-op c =
    let p = err_from_is_err_and c.from_residual.result c.from_residual.ensures.1 in
    rw (p.1, p.2)
    (stopped c.loop.counter c.loop.machine c.loop-test.true c.loop.invariant.rounds
    (still_waits c.args.core c.args.machine.now c.loop.machine c.requires c.loop.invariant.same) c.in_err-make_round.ensures)

pub returns-in_err-make_round-clause-run : goal.returns-in_err-make_round-clause-run
returns-in_err-make_round-clause-run c =
    then_run c.args.machine.now c.loop.machine c.make_round.new.machine
    (rounds_run c.args.core c.args.machine.now c.loop.counter c.loop.machine c.loop.invariant.rounds)
    (stopped_run c.args.core ToTurn c.loop.machine c.make_round.new.machine c.in_err-make_round.field-0.0 c.in_err-make_round.ensures)

pub returns-then-branch-clause-op : goal.returns-then-branch-clause-op
returns-then-branch-clause-op c =
    let did = c.in_ok-make_round.ensures in
    let performed = rw c.if-branch.true at did.1 in
    let waits = still_waits c.args.core c.args.machine.now c.loop.machine c.requires c.loop.invariant.same in
    record {
      count = c.loop.counter + 1;
      limit = omega (arith, c.loop-test.true);
      rounds = one_more c.loop.counter c.loop.machine c.make_round.new.machine c.loop.invariant.rounds waits did.0;
      performed = performed_later c.args.core (world c.args.machine.now) (world c.loop.machine) (world c.make_round.new.machine) c.loop.invariant.same performed;
    }

pub returns-then-branch-clause-run : goal.returns-then-branch-clause-run
returns-then-branch-clause-run c =
    let did = c.in_ok-make_round.ensures in
    let waits = still_waits c.args.core c.args.machine.now c.loop.machine c.requires c.loop.invariant.same in
    rounds_run c.args.core c.args.machine.now (c.loop.counter + 1) c.make_round.new.machine
    (one_more c.loop.counter c.loop.machine c.make_round.new.machine c.loop.invariant.rounds waits did.0)

pub loop-preserved : goal.loop-preserved
loop-preserved c =
    let did = c.in_ok-make_round.ensures in
    let same = rw c.if-branch.false at did.1 in
    let waits = still_waits c.args.core c.args.machine.now c.loop.machine c.requires c.loop.invariant.same in
    record {
      rounds = one_more c.loop.counter c.loop.machine c.make_round.new.machine c.loop.invariant.rounds waits did.0;
      same = then_same c.args.core (world c.args.machine.now) (world c.loop.machine) (world c.make_round.new.machine) c.loop.invariant.same same;
    }

pub returns-clause-run : goal.returns-clause-run
returns-clause-run c = rounds_run c.args.core c.args.machine.now c.loop.counter c.loop.machine c.loop.invariant.rounds
