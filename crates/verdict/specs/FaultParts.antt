-- The parts of a fault.
use Rattle.mem_op.specs.Parts.{IdParts}
use Rattle.verdict.specs.declared.rule.Rule.{Rule}

-- the id of a record, and the rule that it breaks
pub record FaultParts : Type 0 where
  pub id : IdParts
  pub rule : Rule
