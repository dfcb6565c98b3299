-- The texts of the faults: a number and a name.
use Rattle.std.specs.Prelude.{ℕ, List}
use Rattle.core_unit.specs.Faults as unit
use Rattle.manager_slice.specs.Faults as slice
use Rattle.core_machine.specs.declared.fault.CoreFault.{CoreFault}
use Rattle.core_machine.specs.declared.fault.CoreFault.TheVariants.{Unit, Slice}

abbrev pub fault_text : CoreFault → List ℕ
fault_text (Unit fault) = unit.fault_text fault
fault_text (Slice fault) = slice.fault_text fault
