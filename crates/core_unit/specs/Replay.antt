-- Transcripts that lead, entry by entry, from a core's opening state to a later one.
use Rattle.std.specs.Prelude.{◌≡◌, ℕ, Bool, true, List, Some, None}
use Rattle.std.specs.FinMap as map
use Rattle.mem_op.specs.declared.id.Op.{Op}
use Rattle.line_stamps.specs.declared.line.Line.{Line}
use Rattle.line_stamps.specs.declared.message.RecallKind.{RecallKind}
use Rattle.line_stamps.specs.declared.message.Reply.{Reply}
use Rattle.line_stamps.specs.declared.message.Reply.TheVariants.{Taken}
use Rattle.lease_rule.specs.ConfigParts.{ConfigParts}
use Rattle.core_program.specs.declared.instruction.Instruction.{Instruction}
use Rattle.private_cache.specs.Answers.{give_back}
use Rattle.private_cache.specs.Table.{Hit, filled, given}
use Rattle.private_cache.specs.declared.held.Held.{Held}
use Rattle.private_cache.specs.declared.held.Held.TheVariants.{Shared, Exclusive}
use Rattle.manager_slice.specs.Leads.{Leads}
use Rattle.core_unit.specs.Core.{Core, new_core, next_of, op_addr, tries, next_request, after_hit, has_place, has_dropped, has_given, has_taken, has_let_go, has_bumped, fits}
use Rattle.core_unit.specs.declared.entry.CoreEntry.{CoreEntry}
use Rattle.core_unit.specs.declared.entry.CoreEntry.TheVariants.{Performed, Dropped, Gave, Got, Bumped}

-- An entry may lead core c from u to the state after it. In a replay nothing but a give-back is ever in hand, from its `Gave`
-- to the `Got` of its message: a request in hand makes no entry.
pub data CoreStep (g : ConfigParts) (c : ℕ) (u : Core) : CoreEntry → Core → Type 0 where
  -- the next operation hits
  performs : (op : Op) (hit : Hit) → u.hand ≡ None → next_of u ≡ Some op → tries c u op ≡ Some hit →
      CoreStep g c u Performed (after_hit g u op hit)
  drops : (a : ℕ) (l : Line) → u.hand ≡ None → map.get u.lines a ≡ Some (Shared l) →
      CoreStep g c u (Dropped a) (has_dropped u a)
  -- an eviction, or a recall that asks for this `rts`
  gives : (kind : RecallKind) (a : ℕ) (modified : Bool) (l : Line) (asked : ℕ) → u.hand ≡ None → map.get u.lines a ≡ Some (Exclusive modified l) →
      CoreStep g c u (Gave (give_back kind a (given kind l asked g.lease))) (has_given u kind a (given kind l asked g.lease))
  -- the next operation misses, and there is room for the line that it asks for
  gets : (op : Op) (reply : Reply) (held : Held) → u.hand ≡ None → next_of u ≡ Some op → tries c u op ≡ None → has_place g u (op_addr op) ≡ true →
      fits (next_request u op) reply ≡ true → filled (map.get u.lines (op_addr op)) reply ≡ Some held →
      CoreStep g c u (Got (next_request u op) reply) (has_taken u (op_addr op) held)
  is_taken : (kind : RecallKind) (a : ℕ) (l : Line) → u.hand ≡ Some (give_back kind a l) →
      CoreStep g c u (Got (give_back kind a l) Taken) (has_let_go u)
  bumps : u.hand ≡ None → CoreStep g c u Bumped (has_bumped u)

-- the entries may lead core c, one by one, from u to v
abbrev pub CoreLeads : ConfigParts → ℕ → Core → List CoreEntry → Core → Type 0
CoreLeads g c = Leads (CoreStep g c)

-- the entries may lead core c from the start of its program to u
abbrev pub CoreReplays : ConfigParts → ℕ → List Instruction → List CoreEntry → Core → Type 0
CoreReplays g c program = CoreLeads g c (new_core program)
