-- What the type of a core unit keeps.
use Rattle.std.specs.Prelude.{◌≡◌, ℕ, ◌≤◌, true, length, Option, Some, None}
use Rattle.mem_op.specs.declared.id.Op.{Op}
use Rattle.line_stamps.specs.declared.message.Message.{Message}
use Rattle.line_stamps.specs.declared.message.Message.TheVariants.{ShReq, ExReq, WbRep, FlushRep}
use Rattle.lease_rule.specs.ConfigParts.{ConfigParts}
use Rattle.core_program.specs.Running.{IsAtRest}
use Rattle.manager_slice.specs.Limits.{entry_limit}
use Rattle.core_unit.specs.Core.{Core, next_of, op_addr, tries, next_request, has_place}
use Rattle.core_unit.specs.Parts.{UnitParts, core_of, replayed}
use Rattle.core_unit.specs.Replay.{CoreReplays}

-- the request is what core c's next operation sends on a miss, and there is room for the line that it asks for
pub record IsAsked (g : ConfigParts) (c : ℕ) (u : Core) (m : Message) : Type 0 where
  pub op : Op
  pub next : next_of u ≡ Some op
  pub misses : tries c u op ≡ None
  pub place : has_place g u (op_addr op) ≡ true
  pub is_request : m ≡ next_request u op

-- a request in hand comes from the next operation's miss; a give-back in hand is part of the replay
abbrev pub HandFits : ConfigParts → ℕ → Core → Option Message → Type 0
HandFits g c u None = Unit {0}
HandFits g c u (Some (ShReq a copy pts)) = IsAsked g c u (ShReq a copy pts)
HandFits g c u (Some (ExReq a copy)) = IsAsked g c u (ExReq a copy)
HandFits g c u (Some (WbRep a l)) = Unit {0}
HandFits g c u (Some (FlushRep a l)) = Unit {0}

-- the state is the replay of the transcript, apart from a request in hand
pub record Replays (p : UnitParts) : Type 0 where
  pub replay : CoreReplays p.config p.core p.program p.transcript (replayed p)
  pub hand : HandFits p.config p.core (core_of p None) p.hand

pub record IsKept (p : UnitParts) : Type 0 where
  pub replays : Replays p
  pub rests : IsAtRest p.program p.state
  pub capacity : p.cache.capacity ≡ p.config.cache_lines
  pub short : length p.transcript ≤ entry_limit
  pub logged : length p.log ≤ length p.transcript
