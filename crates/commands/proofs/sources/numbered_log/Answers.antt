use Rattle.std.proofs.Common.{arith}
use Rattle.commands.proofs.SourceNumbers.{record_more}
use Rattle.commands.proofs.sources.numbered_log.Goals as goal

pub loop-i-preserved : goal.loop-i-preserved
loop-i-preserved c =
    let more = record_more c.args.worded.now c.args.core c.loop-i.i c.args.log.now c.index-log-i.result (omega arith) in
    grind arith
