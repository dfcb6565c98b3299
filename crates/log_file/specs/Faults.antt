-- The texts of the faults: a number and a name, after the line if there is one.
use Rattle.std.specs.Prelude.{ℕ, List, ◌++◌, codes}
use Rattle.std.specs.Fmt.{decimal}
use Rattle.mem_op.specs.Names.{name_text}
use Rattle.mem_op.specs.declared.fault_name.FaultName.TheVariants as named
use Rattle.log_file.specs.declared.fault.FormatFault.{FormatFault}
use Rattle.log_file.specs.declared.fault.FormatFault.TheVariants.{BadHeader, BadLine, OutOfRange, TooMany, CountDiffers, TrailingBytes, Truncated, WrongCore}
use Rattle.log_file.specs.declared.fault.LogFault.{LogFault}
use Rattle.log_file.specs.declared.fault.LogFault.TheVariants.{At, OutOfMemory, Read}

abbrev pub fault_text : FormatFault → List ℕ
fault_text BadHeader = name_text named.BadHeader
fault_text BadLine = name_text named.BadLine
fault_text OutOfRange = name_text named.OutOfRange
fault_text TooMany = name_text named.TooMany
fault_text CountDiffers = name_text named.CountDiffers
fault_text TrailingBytes = name_text named.TrailingBytes
fault_text Truncated = name_text named.Truncated
fault_text WrongCore = name_text named.WrongCore

abbrev pub log_fault_text : LogFault → List ℕ
log_fault_text (At line fault) = codes "line " ++ decimal line ++ codes ": " ++ fault_text fault
log_fault_text OutOfMemory = name_text named.OutOfMemory
log_fault_text Read = name_text named.Read
