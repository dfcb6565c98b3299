-- The texts of the faults, a number and a name, and the cache's faults as faults of a unit.
use Rattle.std.specs.Prelude.{ℕ, List}
use Rattle.mem_op.specs.Names.{name_text}
use Rattle.mem_op.specs.declared.fault_name.FaultName.TheVariants as named
use Rattle.line_stamps.specs.Faults as stamp
use Rattle.private_cache.specs.declared.fault.FillFault.{FillFault}
use Rattle.private_cache.specs.declared.fault.FillFault.TheVariants as fill
use Rattle.core_unit.specs.declared.fault.UnitFault.{UnitFault}
use Rattle.core_unit.specs.declared.fault.UnitFault.TheVariants.{BadReply, TranscriptFull, Stamp, OutOfMemory}

abbrev pub fault_text : UnitFault → List ℕ
fault_text BadReply = name_text named.BadReply
fault_text TranscriptFull = name_text named.TranscriptFull
fault_text (Stamp fault) = stamp.fault_text fault
fault_text OutOfMemory = name_text named.OutOfMemory

-- why a reply is refused when the cache doesn't fill its line
abbrev pub of_fill : FillFault → UnitFault
of_fill fill.BadReply = BadReply
of_fill fill.OutOfMemory = OutOfMemory
