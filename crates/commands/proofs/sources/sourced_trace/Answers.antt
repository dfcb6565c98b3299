use Rattle.commands.proofs.SourceNumbers.{fits}
use Rattle.commands.proofs.sources.sourced_trace.Goals as goal

pub keyed-requires-clause-size : goal.keyed-requires-clause-size
keyed-requires-clause-size c = fits c.in_ok-numbered_logs.field-0.items c.args.worded.now c.args.logs.now c.in_ok-numbered_logs.ensures c.requires.few c.requires.short
