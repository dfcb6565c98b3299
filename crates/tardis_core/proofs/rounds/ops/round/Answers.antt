use Rattle.tardis_core.specs.Rounds.{ToTurn, Over}
use Rattle.tardis_core.proofs.RoundRuns.{part_run, stopped_run}
use Rattle.tardis_core.proofs.rounds.ops.round.Goals as goal

pub returns-in_err-make_round-clause-run : goal.returns-in_err-make_round-clause-run
returns-in_err-make_round-clause-run c =
    stopped_run c.args.core ToTurn c.args.machine.now c.make_round.new.machine c.in_err-make_round.field-0.0 c.in_err-make_round.ensures

pub returns-clause-run : goal.returns-clause-run
returns-clause-run c =
    let did = c.in_ok-make_round.ensures in part_run c.args.core ToTurn c.args.machine.now c.make_round.new.machine Over did.0
