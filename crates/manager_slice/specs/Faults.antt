-- The texts of the faults: a number and a name.
use Rattle.std.specs.Prelude.{ℕ, List}
use Rattle.mem_op.specs.Names.{name_text}
use Rattle.mem_op.specs.declared.fault_name.FaultName.TheVariants as named
use Rattle.manager_slice.specs.declared.fault.SliceFault.{SliceFault}
use Rattle.manager_slice.specs.declared.fault.SliceFault.TheVariants.{NotOwner, StampLimit, HistoryFull, OutOfMemory}

abbrev pub fault_text : SliceFault → List ℕ
fault_text NotOwner = name_text named.NotOwner
fault_text StampLimit = name_text named.StampLimit
fault_text HistoryFull = name_text named.HistoryFull
fault_text OutOfMemory = name_text named.OutOfMemory
