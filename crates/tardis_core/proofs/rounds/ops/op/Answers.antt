use Rattle.std.proofs.Common.{rules}
use Rattle.tardis_core.proofs.RoundRuns.{stays}
use Rattle.tardis_core.proofs.rounds.ops.op.Goals as goal

pub returns-then-not-has_next-clause-run : goal.returns-then-not-has_next-clause-run
returns-then-not-has_next-clause-run c = stays c.args.machine.now

pub returns-then-not-has_next-clause-op : goal.returns-then-not-has_next-clause-op
returns-then-not-has_next-clause-op c = search rules
