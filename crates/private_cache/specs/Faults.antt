-- The texts of the faults: a number and a name.
use Rattle.std.specs.Prelude.{ℕ, List}
use Rattle.mem_op.specs.Names.{name_text}
use Rattle.mem_op.specs.declared.fault_name.FaultName.TheVariants as named
use Rattle.private_cache.specs.declared.fault.FillFault.{FillFault}
use Rattle.private_cache.specs.declared.fault.FillFault.TheVariants.{OutOfMemory, BadReply}

abbrev pub fault_text : FillFault → List ℕ
fault_text OutOfMemory = name_text named.OutOfMemory
fault_text BadReply = name_text named.BadReply
