-- The text of a fault of a set: the file and the line, if there are any, a number and a name.
use Rattle.std.specs.Prelude.{ℕ, List, ◌++◌, codes}
use Rattle.std.specs.Fmt.{decimal}
use Rattle.mem_op.specs.Names.{name_text}
use Rattle.mem_op.specs.declared.fault_name.FaultName.TheVariants as named
use Rattle.log_file.specs.declared.fault.LogFault.{LogFault}
use Rattle.log_file.specs.declared.fault.LogFault.TheVariants.{At, OutOfMemory, Read}
use Rattle.log_file.specs.declared.fault.SetFault.{SetFault}
use Rattle.log_file.specs.Faults.{fault_text}

abbrev pub text_in_file : ℕ → LogFault → List ℕ
text_in_file file (At line fault) =
    codes "file " ++ decimal file ++ codes " line " ++ decimal line ++ codes ": " ++ fault_text fault
text_in_file file Read = codes "file " ++ decimal file ++ codes ": " ++ name_text named.Read
text_in_file file OutOfMemory = name_text named.OutOfMemory

abbrev pub set_fault_text : SetFault → List ℕ
set_fault_text e = text_in_file e.file e.fault
