-- The texts of the faults: whose it is, a number and a name.
use Rattle.std.specs.Prelude.{ℕ, List, ◌++◌, codes}
use Rattle.std.specs.Fmt.{decimal}
use Rattle.mem_op.specs.Names.{name_text}
use Rattle.mem_op.specs.declared.fault_name.FaultName.TheVariants as named
use Rattle.manager_slice.specs.Faults as slice
use Rattle.manager_slice.specs.declared.fault.SliceFault.{SliceFault}
use Rattle.manager_slice.specs.declared.fault.SliceFault.TheVariants as slice_fault
use Rattle.tardis_core.specs.RoundFaults.{cause_text}
use Rattle.simulation.specs.declared.fault.SimulationFault.{SimulationFault}
use Rattle.simulation.specs.declared.fault.SimulationFault.TheVariants.{Core, Slice, OutOfMemory}

-- lack of memory for a spill isn't a fault of the slice
abbrev pub slice_text : ℕ → SliceFault → List ℕ
slice_text number slice_fault.OutOfMemory = name_text named.OutOfMemory
slice_text number fault = codes "slice " ++ (decimal number ++ (codes ": " ++ slice.fault_text fault))

abbrev pub fault_text : SimulationFault → List ℕ
fault_text (Core fault) = codes "core " ++ (decimal fault.core ++ (codes ": " ++ cause_text fault.fault))
fault_text (Slice number fault) = slice_text number fault
fault_text OutOfMemory = name_text named.OutOfMemory
