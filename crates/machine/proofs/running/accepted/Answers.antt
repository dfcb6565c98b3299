use Rattle.std.proofs.Common.{subst}
use Rattle.std.specs.Prelude.{All}
use Rattle.core_unit.specs.Kept.{Replays}
use Rattle.machine.proofs.Judged.{yes_where_run}
use Rattle.machine.proofs.Kept.{kept_after, slices_after}
use Rattle.machine.proofs.Refused.{refused_so}
use Rattle.manager_slice.specs.Replay.{Replays as SliceReplays}
use Rattle.machine.proofs.running.accepted.Goals as goal

pub returns-clause-logs : goal.returns-clause-logs
returns-clause-logs c =
    kept_after c.accept_run.result _ (subst (All Replays) c.deref.ensures.value c.each_replays.ensures) c.accept_run.ensures.left

pub returns-clause-yes : goal.returns-clause-yes
returns-clause-yes c = yes_where_run c.merged_logs_get_yes.ensures.whole c.args.programs.now.programs c.args.config.now c.accept_run.result c.accept_run.ensures.run

pub returns-clause-refused : goal.returns-clause-refused
returns-clause-refused c =
    refused_so c.args.programs.now.programs c.args.config.now _ _ _ c.accept_run.result c.accept_run.ensures.refused c.accept_run.ensures.left c.accept_run.ensures.slices

pub returns-clause-slices : goal.returns-clause-slices
returns-clause-slices c =
    slices_after c.accept_run.result _ (subst (All SliceReplays) c.deref-2.ensures.value c.each_slice_replays.ensures) c.accept_run.ensures.slices
