-- What was taken so far are lines of no record.
use Rattle.std.proofs.Common.{length}
use Rattle.log_file.proofs.TakenParts.{TakesFront}
use Rattle.log_file.proofs.record_reader.RecordReader.feed_one.Given as goal

abbrev pub invariant-loop-at : goal.invariant-loop-at
invariant-loop-at l = TakesFront l.fn.self l.self l.piece l.rest

abbrev pub decreases-loop-at : goal.decreases-loop-at
decreases-loop-at l = length l.rest
