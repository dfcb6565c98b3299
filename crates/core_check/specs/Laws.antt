-- Laws of core faults.
use Rattle.std.specs.Prelude.{◌≡◌, ◌↔◌, true, List, Some, map, slice_get}
use Rattle.std.specs.declared.cmp.Ordering.TheVariants.{Equal}
use Rattle.std.specs.Cmp.{IsTotalOrder}
use Rattle.mem_op.specs.declared.id.OpId.{OpId}
use Rattle.line_stamps.specs.Ordered.{In}
use Rattle.core_program.specs.declared.instruction.Instruction.{Instruction}
use Rattle.core_program.specs.Conforming.{DiffersAt}
use Rattle.core_program.specs.Shape.{IsProgram}
use Rattle.log_record.specs.declared.record.Record.{Record}
use Rattle.log_record.specs.Entries.{operation_of}
use Rattle.core_check.specs.FaultParts.{CoreFaultParts}
use Rattle.core_check.specs.FaultOrder.{core_fault_cmp}
use Rattle.core_check.specs.CoreOrder.{is_core_fault}
use Rattle.core_check.specs.CoreFaults.{order_fault, order_faults, program_fault_at, program_faults}

abbrev pub CoreFaultsAreTotallyOrdered : Type 0
CoreFaultsAreTotallyOrdered = IsTotalOrder core_fault_cmp

abbrev pub TiedCoreFaultsAreOne : Type 0
TiedCoreFaultsAreOne = (a b : CoreFaultParts) → core_fault_cmp a b ≡ Equal → a ≡ b

abbrev pub OrderFaultsAreWhereLogsFall : Type 0
OrderFaultsAreWhereLogsFall =
    (logs : List (List Record)) (id : OpId) (log : List Record) →
    slice_get logs id.core ≡ Some log → In (order_fault id) (order_faults logs) ↔ (is_core_fault log id.index ≡ true)

abbrev pub ProgramFaultsAreWhereLogsDiffer : Type 0
ProgramFaultsAreWhereLogsDiffer =
    (programs : List (List Instruction)) (logs : List (List Record)) (id : OpId) (program : List Instruction) (log : List Record) →
    IsProgram program → slice_get programs id.core ≡ Some program → slice_get logs id.core ≡ Some log →
    In (program_fault_at id) (program_faults programs logs) ↔ DiffersAt program (map operation_of log) id.index
