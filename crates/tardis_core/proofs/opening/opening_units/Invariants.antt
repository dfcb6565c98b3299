-- The units of the cores so far.
use Rattle.std.proofs.Common.{◌≡◌, take}
use Rattle.core_machine.specs.Opening.{new_units}
use Rattle.tardis_core.proofs.opening.opening_units.Given as goal

abbrev pub invariant-loop-number : goal.invariant-loop-number
invariant-loop-number l = l.units.items ≡ new_units l.config 0 (take l.number l.programs.programs)
