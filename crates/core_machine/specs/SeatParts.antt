-- The parts of a core's seat.
use Rattle.std.specs.Prelude.{Option}
use Rattle.line_stamps.specs.declared.message.Reply.{Reply}
use Rattle.core_unit.specs.Parts.{UnitParts}

-- a core, and the reply to the message in its hand, once the message is served
pub record SeatParts : Type 0 where
  pub unit : UnitParts
  pub kept : Option Reply
