use Rattle.std.proofs.Common.{subst, sym}
use Rattle.trace.specs.Growing.{IsOfSize}
use Rattle.commands.proofs.LogTraces.{size_of_logs}
use Rattle.commands.proofs.log_traces.trace_of.Goals as goal

pub keyed-requires-clause-size : goal.keyed-requires-clause-size
keyed-requires-clause-size c = subst IsOfSize (sym c.in_ok-accesses_of.ensures) (size_of_logs c.args.logs.now c.requires.few c.requires.short)
