-- The texts of the faults of writing: a number and a name.
use Rattle.std.specs.Prelude.{ℕ, List}
use Rattle.mem_op.specs.Names.{name_text}
use Rattle.mem_op.specs.declared.fault_name.FaultName.TheVariants as named
use Rattle.log_file.specs.declared.device_fault.WriteFault.{WriteFault}
use Rattle.log_file.specs.declared.device_fault.WriteFault.TheVariants.{OutOfMemory, Write}
use Rattle.log_file.specs.declared.write_fault.LogWriteFault.{LogWriteFault}
use Rattle.log_file.specs.declared.write_fault.LogWriteFault.TheVariants as log

abbrev pub write_fault_text : WriteFault → List ℕ
write_fault_text OutOfMemory = name_text named.OutOfMemory
write_fault_text Write = name_text named.Write

abbrev pub log_write_fault_text : LogWriteFault → List ℕ
log_write_fault_text log.SwapInFormatOne = name_text named.SwapInFormatOne
log_write_fault_text log.OutOfMemory = name_text named.OutOfMemory
log_write_fault_text log.Write = name_text named.Write
