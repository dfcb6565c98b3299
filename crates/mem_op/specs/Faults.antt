-- The texts of the faults: a number and a name.
use Rattle.std.specs.Prelude.{ℕ, List}
use Rattle.mem_op.specs.Names.{name_text}
use Rattle.mem_op.specs.declared.fault_name.FaultName.TheVariants as named
use Rattle.mem_op.specs.declared.fault.RangeFault.{RangeFault}
use Rattle.mem_op.specs.declared.fault.RangeFault.TheVariants.{AddrRange, CoreRange, IndexRange}

abbrev pub fault_text : RangeFault → List ℕ
fault_text AddrRange = name_text named.AddrRange
fault_text CoreRange = name_text named.CoreRange
fault_text IndexRange = name_text named.IndexRange
