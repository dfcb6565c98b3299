-- The texts of faults of reading.
use Rattle.std.specs.Prelude.{ℕ, List}
use Rattle.mem_op.specs.Names.{name_text}
use Rattle.mem_op.specs.declared.fault_name.FaultName.TheVariants as named
use Rattle.log_file.specs.declared.device_fault.ReadFault.{ReadFault}
use Rattle.log_file.specs.declared.device_fault.ReadFault.TheVariants.{OutOfMemory, Read}

abbrev pub read_fault_text : ReadFault → List ℕ
read_fault_text OutOfMemory = name_text named.OutOfMemory
read_fault_text Read = name_text named.Read
