-- The parts of an address fault.
use Rattle.line_stamps.specs.KeyParts.{KeyParts}
use Rattle.address_check.specs.declared.fault.AddressRule.{AddressRule}

-- the key of a load or a swap, and the rule that it breaks
pub record FaultParts : Type 0 where
  pub key : KeyParts
  pub rule : AddressRule
