use Rattle.std.proofs.Common.{◌≡◌}
use Rattle.manager_slice.specs.Lines.{last_shared}
use Rattle.manager_slice.proofs.lines.ServedLines.giving_way.Given as goal

abbrev pub invariant-loop-addr : goal.invariant-loop-addr
invariant-loop-addr l = last_shared l.addr-iterator.iter ≡ last_shared l.self-inside.lines.entries
