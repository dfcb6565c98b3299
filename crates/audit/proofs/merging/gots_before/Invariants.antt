use Rattle.std.proofs.Common.{◌≡◌, ◌≤◌, length, take}
use Rattle.audit.specs.Lists.{transcripts, transcript_of}
use Rattle.audit.specs.Pairs.{gots}
use Rattle.audit.proofs.merging.gots_before.Given as goal

abbrev pub invariant-loop-k : goal.invariant-loop-k
invariant-loop-k l = record { is : l.taken ≡ length (gots l.count l.slice (take l.k (transcript_of (transcripts l.units) l.core))); small : l.taken ≤ l.k }
