-- What was taken and what is left are all of the piece.
use Rattle.std.proofs.Common.{◌≡◌, ◌++◌, length}
use Rattle.log_file.specs.Answering.{fed_text}
use Rattle.log_file.proofs.TakenParts.{TakesBut}
use Rattle.log_file.proofs.record_reader.RecordReader.feed_all.Given as goal

abbrev pub invariant-loop-used : goal.invariant-loop-used
invariant-loop-used g l =
    TakesBut l.fn.self l.self (g.L.RecordList.records l.records) (fed_text l.fn.self (g.L.RecordList.records l.fn.records) ++ l.piece) l.rest
    × (g.L.RecordList.base l.records ≡ g.L.RecordList.base l.fn.records)

abbrev pub decreases-loop-used : goal.decreases-loop-used
decreases-loop-used g l = length l.rest
