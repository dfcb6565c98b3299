-- The parts of a core fault.
use Rattle.mem_op.specs.Parts.{IdParts}
use Rattle.core_check.specs.declared.fault.CoreRule.{CoreRule}

-- the rule that is broken, and the id at which it is broken
pub record CoreFaultParts : Type 0 where
  pub rule : CoreRule
  pub id : IdParts
