-- The files so far spell their logs, whose entries are kept, and the readers after them are as they were.
use Rattle.std.proofs.Common.{◌≡◌, List, length, drop}
use Rattle.log_record.specs.declared.record.Record.{Record}
use Rattle.log_file.specs.SetKeeping.{KeepsLogs}
use Rattle.log_file.specs.Sets.{NoneFailed}
use Rattle.log_file.proofs.Sets.{LogsSoFar}
use Rattle.log_file.proofs.log_set.LogSet.read.Given as goal

abbrev pub invariant-loop-file : goal.invariant-loop-file
invariant-loop-file g l =
    ((logs : List (List Record)) × LogsSoFar g.S.ByteSource.remaining l.fn.readers l.file l.cores logs
    × KeepsLogs l.entries.items l.ends.items logs)
    × (drop l.file l.readers ≡ drop l.file l.fn.readers)
    × (l.cores ≡ length l.fn.readers)
    × NoneFailed g.S.ByteSource.failed l.fn.readers l.readers
