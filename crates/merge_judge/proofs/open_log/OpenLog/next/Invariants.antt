-- What was read was fed but for a piece, and no record came of it.
use Rattle.std.proofs.Common.{◌≡◌, ◌-◌, ◌^◌, ℕ, List, Option}
use Rattle.log_record.specs.declared.record.Record.{Record}
use Rattle.merge_judge.specs.inner.Following.{Follows}
use Rattle.merge_judge.proofs.Following.{HasRead}
use Rattle.merge_judge.proofs.open_log.OpenLog.next.Given as goal

abbrev pub invariant-reading : goal.invariant-reading
invariant-reading g l = record {
  read : HasRead l.self l.reads;
  follows : (core cores : ℕ) (first : Option (List ℕ)) (records : List Record) → Follows core cores first (g.S.ByteSource.remaining l.fn.source) l.fn.self records → Follows core cores first (g.S.ByteSource.remaining l.source) l.self records;
  quiet : g.S.ByteSource.failed l.source ≡ g.S.ByteSource.failed l.fn.source;
}

abbrev pub decreases-reading : goal.decreases-reading
decreases-reading g l = 2 ^ 64 - l.reads
