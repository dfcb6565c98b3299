-- The texts of the faults: a number and a name.
use Rattle.std.specs.Prelude.{ℕ, List}
use Rattle.mem_op.specs.Names.{name_text}
use Rattle.mem_op.specs.declared.fault_name.FaultName.TheVariants as named
use Rattle.line_stamps.specs.declared.fault.StampFault.{StampFault}
use Rattle.line_stamps.specs.declared.fault.StampFault.TheVariants.{StampLimit, RankLimit}

abbrev pub fault_text : StampFault → List ℕ
fault_text StampLimit = name_text named.StampLimit
fault_text RankLimit = name_text named.RankLimit
