-- The faults of cores and of addresses as faults of a verdict.
use Rattle.core_check.specs.declared.fault.CoreRule.{CoreRule}
use Rattle.core_check.specs.declared.fault.CoreRule.TheVariants.{CoreOrder as OfCoreOrder, Program as OfProgram}
use Rattle.core_check.specs.declared.fault.RuleFault.{RuleFault}
use Rattle.address_check.specs.declared.fault.AddressRule.{AddressRule}
use Rattle.address_check.specs.declared.fault.AddressRule.TheVariants.{Source as OfSource, Value as OfValue}
use Rattle.address_check.specs.declared.fault.AddressFault.{AddressFault}
use Rattle.verdict.specs.declared.rule.Rule.{Rule}
use Rattle.verdict.specs.declared.rule.Rule.TheVariants.{CoreOrder, Program, Source, Value}
use Rattle.verdict.specs.FaultParts.{FaultParts}

abbrev pub core_rule : CoreRule → Rule
core_rule OfCoreOrder = CoreOrder
core_rule OfProgram = Program

abbrev pub from_core : RuleFault → FaultParts
from_core f = record { id = f.id; rule = core_rule f.rule }

abbrev pub address_rule : AddressRule → Rule
address_rule OfSource = Source
address_rule OfValue = Value

abbrev pub from_address : AddressFault → FaultParts
from_address f =
    record { id = record { core = f.key.core; index = f.key.index }; rule = address_rule f.rule }
