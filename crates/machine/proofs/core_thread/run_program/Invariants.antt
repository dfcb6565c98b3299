use Rattle.std.proofs.Common.{◌≡◌, None}
use Rattle.core_unit.specs.Parts.{SameUnit}
use Rattle.machine.proofs.core_thread.run_program.Given as goal

abbrev pub invariant-loop : goal.invariant-loop
invariant-loop g l = record {
  same : SameUnit l.fn.unit l.unit;
  free : l.fn.unit.hand ≡ None → l.unit.hand ≡ None;
}
