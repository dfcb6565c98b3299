use Rattle.std.proofs.Common.{inr}
use Rattle.core_machine.proofs.Reached.{reached_start, reached_next, refused_here}
use Rattle.tardis_core.proofs.Judged.{memory_passes}
use Rattle.tardis_core.proofs.running.run.Goals as goal

pub loop-at-init : goal.loop-at-init
loop-at-init c = reached_start c.args.programs.now.programs c.args.config.now c.in-Ok.machine c.in-Ok.ensures.parts c.in-Ok.ensures.opening

pub returns-in-Err-clause-passes : goal.returns-in-Err-clause-passes
returns-in-Err-clause-passes c = memory_passes c.in-Err.fault c.in-Err.ensures.refused

pub returns-in-Err-step-clause-refused : goal.returns-in-Err-step-clause-refused
returns-in-Err-step-clause-refused c =
    inr (refused_here c.args.programs.now.programs c.args.config.now c.args.events.now c.loop-at.at c.index-events-at.result c.loop-at-test.true c.index-events-at.is
    c.loop-at.machine c.step.new.self c.loop-at.invariant c.in-Err-step.fault c.in-Err-step.ensures.outcome)

pub loop-at-preserved : goal.loop-at-preserved
loop-at-preserved c =
    reached_next c.args.programs.now.programs c.args.config.now c.args.events.now c.loop-at.at c.index-events-at.result c.loop-at-test.true c.index-events-at.is
    c.loop-at.machine c.step.new.self c.loop-at.invariant c.in_default.field-0 c.in_default.ensures.outcome c.in_default.ensures.leads

pub returns-clause-yes : goal.returns-clause-yes
returns-clause-yes c = c.runs_get_yes.ensures.yes c.args.programs.now.programs c.args.config.now _ (_, c.loop-at.invariant.run)

pub returns-clause-ended : goal.returns-clause-ended
returns-clause-ended c = λ ended. c.ended_runs_get_yes.ensures.yes c.args.programs.now.programs c.args.config.now _ (_, c.loop-at.invariant.run) ended
