-- What holds as each line goes back: there are ever fewer, and nothing is in hand where nothing was.
use Rattle.std.proofs.Common.{◌≡◌, None, IsSome}
use Rattle.std.specs.FinMap as map
use Rattle.core_unit.specs.Parts.{SameUnit}
use Rattle.machine.proofs.core_thread.give_lines_back.Given as goal

abbrev pub invariant-loop-addr : goal.invariant-loop-addr
invariant-loop-addr g l = record {
  same : SameUnit l.fn.unit l.unit;
  free : l.fn.unit.hand ≡ None → l.unit.hand ≡ None;
  barred : IsSome l.fn.unit.hand → l.unit ≡ l.fn.unit;
}

abbrev pub decreases-loop-addr : goal.decreases-loop-addr
decreases-loop-addr g l = map.len l.unit.cache.lines
