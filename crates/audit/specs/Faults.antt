-- The texts of the faults: whose it is, a number and a name.
use Rattle.std.specs.Prelude.{ℕ, List, ◌++◌, codes}
use Rattle.std.specs.Fmt.{decimal}
use Rattle.mem_op.specs.Names.{name_text}
use Rattle.mem_op.specs.declared.fault_name.FaultName.TheVariants as named
use Rattle.manager_slice.specs.Faults as slice
use Rattle.core_unit.specs.Faults as unit
use Rattle.audit.specs.declared.fault.AuditFault.{AuditFault}
use Rattle.audit.specs.declared.machine_fault.Cause.{Cause}
use Rattle.audit.specs.declared.machine_fault.Cause.TheVariants.{GaveUp, Stopped, Spawn, Audit, Unit as UnitRefused, Slice as SliceRefused, OutOfMemory}

-- a fault of core c
abbrev pub core_text : ℕ → List ℕ → List ℕ
core_text c text = codes "core " ++ (decimal c ++ (codes ": " ++ text))

-- a difference of a core and a slice
abbrev pub audit_text : AuditFault → List ℕ
audit_text fault =
    codes "core " ++ (decimal fault.core ++ (codes " slice " ++ (decimal fault.slice ++ (codes " place " ++ (decimal fault.place ++ (codes ": " ++ name_text named.Audit))))))

abbrev pub fault_text : ℕ → Cause → List ℕ
fault_text c GaveUp = core_text c (name_text named.GaveUp)
fault_text c Stopped = core_text c (name_text named.Stopped)
fault_text c Spawn = core_text c (name_text named.Spawn)
fault_text c (Audit fault) = audit_text fault
fault_text c (UnitRefused fault) = core_text c (unit.fault_text fault)
fault_text c (SliceRefused fault) = core_text c (slice.fault_text fault)
fault_text c OutOfMemory = name_text named.OutOfMemory
