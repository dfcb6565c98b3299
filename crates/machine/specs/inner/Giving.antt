-- How a core takes the reply to its message, and what it has left after it gave its lines back.
use Rattle.std.specs.Prelude.{◌≡◌, None, Ok}
use Rattle.line_stamps.specs.declared.message.Reply.{Reply}
use Rattle.private_cache.specs.Steps.{IsLeastExclusive}
use Rattle.core_unit.specs.Outcomes.{OutcomeLeads, take_outcome}
use Rattle.core_unit.specs.Parts.{UnitParts}
use Rattle.core_unit.specs.declared.outcome.Outcome.{Outcome}

-- the unit took this reply to its message in hand, which led it from p to q
pub record HasTaken (p : UnitParts) (reply : Reply) (q : UnitParts) : Type 0 where
  pub outcome : Outcome
  pub takes : OutcomeLeads (take_outcome p reply) (Ok outcome) p q

-- no line is Exclusive, and nothing is in hand
pub record HasGivenAll (p : UnitParts) : Type 0 where
  pub lines : IsLeastExclusive p.cache None
  pub hand : p.hand ≡ None
