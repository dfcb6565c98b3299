use Rattle.std.proofs.Common.{rules}
use Rattle.tardis_core.proofs.Judged.{ended_after, yes_before, yes_after, passes}
use Rattle.tardis_core.proofs.machine.Core.step.Goals as goal

pub returns-clause-before : goal.returns-clause-before
returns-clause-before c = let keeps = rw c.self.view_is at c.keeps.ensures in yes_before c.runs_get_yes.ensures.yes c.args.self.now keeps.reached

pub returns-clause-after : goal.returns-clause-after
returns-clause-after c = let keeps = rw c.self.view_is at c.keeps.ensures in yes_after c.runs_get_yes.ensures.yes c.args.event c.args.self.now c.apply.result c.apply.new.self keeps.reached c.apply.ensures.leads

pub returns-clause-ended : goal.returns-clause-ended
returns-clause-ended c = let keeps = rw c.self.view_is at c.keeps.ensures in ended_after c.ended_runs_get_yes.ensures.yes c.args.event c.args.self.now c.apply.result c.apply.new.self keeps.reached c.apply.ensures.leads

pub returns-clause-passes : goal.returns-clause-passes
returns-clause-passes c = let keeps = rw c.self.view_is at c.keeps.ensures in passes c.never_refused.ensures.passes c.args.event c.args.self.now c.apply.result c.apply.new.self keeps c.apply.ensures.outcome

pub returns-clause-leads : goal.returns-clause-leads
returns-clause-leads c = search rules

pub returns-clause-outcome : goal.returns-clause-outcome
returns-clause-outcome c = search rules
