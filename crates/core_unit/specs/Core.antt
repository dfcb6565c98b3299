-- A core of the machine: its state, and what each of its steps makes of it.
use Rattle.std.specs.Prelude.{ℕ, ◌+◌, ◌%◌, Bool, true, false, ◌||◌, ◌==◌, nat_lt, if◌then◌else◌, List, [], ◌∷◌, ◌++◌, length, Option, Some, None, is_some}
use Rattle.std.specs.FinMap as map
use Rattle.mem_op.specs.declared.id.Op.{Op}
use Rattle.mem_op.specs.declared.id.Op.TheVariants as op
use Rattle.mem_op.specs.declared.id.OpId.{OpId}
use Rattle.mem_op.specs.declared.id.Source.TheVariants as source
use Rattle.line_stamps.specs.declared.line.Line.{Line}
use Rattle.line_stamps.specs.declared.message.Message.{Message}
use Rattle.line_stamps.specs.declared.message.Message.TheVariants.{ShReq, ExReq}
use Rattle.line_stamps.specs.declared.message.RecallKind.{RecallKind}
use Rattle.line_stamps.specs.declared.message.Reply.{Reply}
use Rattle.line_stamps.specs.declared.message.Reply.TheVariants.{ShRep, ExRep, RenewRep, UpgradeRep}
use Rattle.lease_rule.specs.ConfigParts.{ConfigParts}
use Rattle.lease_rule.specs.Lease.{self_increment}
use Rattle.log_record.specs.declared.act.Act.{Act}
use Rattle.log_record.specs.declared.act.Act.TheVariants as act
use Rattle.log_record.specs.declared.record.Record.{Record}
use Rattle.core_program.specs.declared.instruction.Instruction.{Instruction}
use Rattle.core_program.specs.Running.{next_op, answered, start_of}
use Rattle.core_program.specs.State.{State}
use Rattle.private_cache.specs.Answers.{give_back}
use Rattle.private_cache.specs.CacheParts.{Lines}
use Rattle.private_cache.specs.Table.{Hit, load_hit, store_hit, swap_hit, copy_of, left, put}
use Rattle.private_cache.specs.declared.held.Held.{Held}

pub record Core : Type 0 where
  pub program : List Instruction
  pub state : State
  pub pts : ℕ
  pub r : ℕ
  pub lines : Lines
  -- the one message that may be in hand, and the reply to it once it is served
  pub hand : Option Message
  pub kept : Option Reply
  pub log : List Record

-- a core when a machine starts
abbrev pub new_core : List Instruction → Core
new_core program = record {
  program = program;
  state = start_of program;
  pts = 0;
  r = 0;
  lines = map.empty;
  hand = None;
  kept = None;
  log = [];
}

-- ---- operations

-- the operation that the program issues next, or none if it has ended
abbrev pub next_of : Core → Option Op
next_of u = next_op u.program u.state

abbrev pub op_addr : Op → ℕ
op_addr (op.Load a) = a
op_addr (op.Store a value) = a
op_addr (op.Swap a value) = a

-- the hit of an operation at a line, or None if it is a miss; `id` is the operation's own
abbrev pub op_hit : Op → OpId → ℕ → ℕ → Option Held → Option Hit
op_hit (op.Load a) id pts r held = load_hit pts r held
op_hit (op.Store a value) id pts r held = store_hit value (source.Store id) pts r held
op_hit (op.Swap a value) id pts r held = swap_hit value (source.Store id) pts r held

-- the id of the next operation of core c
abbrev pub next_id : ℕ → Core → OpId
next_id c u = record { core = c; index = length u.log }

-- the hit of this operation at the core's line, as the core's next one, or None if it is a miss
abbrev pub tries : ℕ → Core → Op → Option Hit
tries c u x = op_hit x (next_id c u) u.pts u.r (map.get u.lines (op_addr x))

-- the request that an operation sends on a miss
abbrev pub request : Op → ℕ → Option Held → Message
request (op.Load a) pts held = ShReq a (copy_of held) pts
request (op.Store a value) pts held = ExReq a (copy_of held)
request (op.Swap a value) pts held = ExReq a (copy_of held)

abbrev pub next_request : Core → Op → Message
next_request u x = request x u.pts (map.get u.lines (op_addr x))

-- the word that an operation that has hit gives its program: the one that a load or a swap reads, or a store's own
abbrev pub answer_of : Op → Hit → ℕ
answer_of (op.Load a) hit = hit.value
answer_of (op.Store a value) hit = value
answer_of (op.Swap a value) hit = hit.value

-- the word in its record: the one that a load reads, or the one that a store or a swap stores
abbrev pub word_logged : Op → Hit → ℕ
word_logged (op.Load a) hit = hit.value
word_logged (op.Store a value) hit = value
word_logged (op.Swap a value) hit = value

-- the act in its record: a load and a swap name the store that they read from, and a swap also the word that it read
abbrev pub act_of : Op → Hit → Act
act_of (op.Load a) hit = act.Load hit.source
act_of (op.Store a value) hit = act.Store
act_of (op.Swap a value) hit = act.Swap hit.source hit.value

-- the record of an operation that has hit
abbrev pub record_of : Op → Hit → Record
record_of x hit = record { value = word_logged x hit; ts = hit.stamp; rank = hit.rank; addr = op_addr x; act = act_of x hit }

-- whether a core increments its stamp after this number of operations
abbrev pub is_due : ConfigParts → ℕ → Bool
is_due g count = count % g.period == 0

-- the core after an operation that has hit, self-increment included
abbrev pub after_hit : ConfigParts → Core → Op → Hit → Core
after_hit g u x hit =
    let due = is_due g (length u.log + 1) in
    record {
      program = u.program;
      state = answered u.program (answer_of x hit) u.state;
      pts = if due then self_increment hit.stamp else hit.stamp;
      r = if due then 0 else hit.rank;
      lines = put u.lines (op_addr x) (Some hit.held);
      hand = u.hand;
      kept = u.kept;
      log = u.log ++ record_of x hit ∷ [];
    }

-- ---- the other steps

-- the line of the address is there, or there is room for one more
abbrev pub has_place : ConfigParts → Core → ℕ → Bool
has_place g u a = nat_lt (map.len u.lines) g.cache_lines || is_some (map.get u.lines a)

abbrev pub has_dropped : Core → ℕ → Core
has_dropped u a = record u { lines = put u.lines a None }

-- the line l of address a goes back, and the message that gives it back is in hand
abbrev pub has_given : Core → RecallKind → ℕ → Line → Core
has_given u kind a l = record u { lines = put u.lines a (left kind l); hand = Some (give_back kind a l); kept = None }

abbrev pub has_asked : Core → Message → Core
has_asked u m = record u { hand = Some m; kept = None }

-- the core took a reply that makes this the line of address a
abbrev pub has_taken : Core → ℕ → Held → Core
has_taken u a held = record u { lines = put u.lines a (Some held); hand = None; kept = None }

-- the core took a reply that fills no line
abbrev pub has_let_go : Core → Core
has_let_go u = record u { hand = None; kept = None }

abbrev pub has_bumped : Core → Core
has_bumped u = record u { pts = self_increment u.pts; r = 0 }

-- whether a reply fills a line and is of a kind that the message asks for
abbrev pub fits : Message → Reply → Bool
fits (ShReq a copy pts) (ShRep l) = true
fits (ShReq a copy pts) (RenewRep rts) = is_some copy
fits (ExReq a copy) (ExRep l) = true
fits (ExReq a copy) (UpgradeRep rts) = is_some copy
fits _ _ = false
