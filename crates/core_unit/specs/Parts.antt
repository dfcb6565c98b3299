-- The parts of a core unit that contracts see.
use Rattle.std.specs.Prelude.{◌≡◌, ℕ, List, Option, Some, None}
use Rattle.line_stamps.specs.declared.message.Message.{Message}
use Rattle.line_stamps.specs.declared.message.Message.TheVariants.{ShReq, ExReq, WbRep, FlushRep}
use Rattle.line_stamps.specs.declared.message.Reply.{Reply}
use Rattle.lease_rule.specs.ConfigParts.{ConfigParts}
use Rattle.log_record.specs.declared.record.Record.{Record}
use Rattle.core_program.specs.declared.instruction.Instruction.{Instruction}
use Rattle.core_program.specs.State.{State}
use Rattle.private_cache.specs.CacheParts.{CacheParts}
use Rattle.core_unit.specs.Core.{Core}
use Rattle.core_unit.specs.declared.entry.CoreEntry.{CoreEntry}

pub record UnitParts : Type 0 where
  pub core : ℕ
  pub program : List Instruction
  pub config : ConfigParts
  pub state : State
  pub pts : ℕ
  pub r : ℕ
  pub cache : CacheParts
  pub hand : Option Message
  pub transcript : List CoreEntry
  pub log : List Record

-- the unit as the machine sees it: without the order of use, and with this reply kept for the message in hand
abbrev pub core_of : UnitParts → Option Reply → Core
core_of p kept = record {
  program = p.program;
  state = p.state;
  pts = p.pts;
  r = p.r;
  lines = p.cache.lines;
  hand = p.hand;
  kept = kept;
  log = p.log;
}

-- the message in hand, if it gives a line back
abbrev pub give_back_in : Option Message → Option Message
give_back_in None = None
give_back_in (Some (ShReq a copy pts)) = None
give_back_in (Some (ExReq a copy)) = None
give_back_in (Some (WbRep a l)) = Some (WbRep a l)
give_back_in (Some (FlushRep a l)) = Some (FlushRep a l)

-- the unit as a replay sees it: without a request in hand, which makes no entry
abbrev pub replayed : UnitParts → Core
replayed p = record (core_of p None) { hand = give_back_in p.hand }

-- it is still the same core, with the same program and configuration
pub record SameUnit (p q : UnitParts) : Type 0 where
  pub core : q.core ≡ p.core
  pub program : q.program ≡ p.program
  pub config : q.config ≡ p.config
