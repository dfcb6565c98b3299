-- The texts of the faults: a number and a name.
use Rattle.std.specs.Prelude.{ℕ, List}
use Rattle.mem_op.specs.Names.{name_text}
use Rattle.mem_op.specs.declared.fault_name.FaultName.TheVariants as named
use Rattle.log_record.specs.declared.fault.LineFault.{LineFault}
use Rattle.log_record.specs.declared.fault.LineFault.TheVariants.{BadLine, OutOfRange}

abbrev pub fault_text : LineFault → List ℕ
fault_text BadLine = name_text named.BadLine
fault_text OutOfRange = name_text named.OutOfRange
