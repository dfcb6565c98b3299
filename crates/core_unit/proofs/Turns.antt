-- What a turn comes to where the next operation is looked at.
use Rattle.std.proofs.Common.{◌≡◌, ℕ, refl}
use Rattle.std.specs.Prelude.{Bool, true, false, if◌then◌else◌, nat_lt, [], ◌∷◌, ◌++◌, length, Option, Some, None, Result, Ok}
use Rattle.mem_op.specs.declared.id.Op.{Op}
use Rattle.mem_op.specs.declared.id.Source.{Source}
use Rattle.line_stamps.specs.declared.fault.StampFault.{StampFault}
use Rattle.line_stamps.specs.declared.message.Message.{Message}
use Rattle.manager_slice.specs.Limits.{entry_limit}
use Rattle.private_cache.specs.Steps.{has_room, least_recently_used}
use Rattle.private_cache.specs.Table.{Hit}
use Rattle.private_cache.specs.declared.answer.Read.TheVariants as read
use Rattle.core_unit.specs.Core.{Core, next_id, next_of, op_addr, tries}
use Rattle.core_unit.specs.Outcomes.{OutcomeLeads, Refuses, Steps, miss_outcome, op_outcome, perform_fault, performed, turn_outcome, unless_faulty}
use Rattle.core_unit.specs.Parts.{UnitParts, core_of}
use Rattle.core_unit.specs.inner.Look.{look_of}
use Rattle.core_unit.specs.declared.entry.CoreEntry.TheVariants as entry
use Rattle.core_unit.specs.declared.fault.UnitFault.{UnitFault}
use Rattle.core_unit.specs.declared.fault.UnitFault.TheVariants.{TranscriptFull}
use Rattle.core_unit.specs.declared.outcome.Outcome.{Outcome}
use Rattle.core_unit.specs.declared.outcome.Outcome.TheVariants.{NoEffect, Performed}

-- a request is told where the operation misses
pub missed : (u : Core) (x : Op) (hit : Option Hit) (m : Message) → read.Miss m ≡ look_of u x hit → hit ≡ None
missed u x None m e = refl
missed u x (Some hit) m e = absurd (cc)

-- the turn of a core that has no message in hand, and whose next operation misses
pub turn_of_miss : (p : UnitParts) (x : Op) → p.hand ≡ None → next_of (core_of p None) ≡ Some x → tries p.core (core_of p None) x ≡ None
    → turn_outcome p ≡ miss_outcome p x (has_room p.cache (op_addr x)) (least_recently_used p.cache)
turn_of_miss p x free next misses = rw (free, next, misses) refl

-- an operation that hits is never without effect
pub hit_acts : (p q : UnitParts) (x : Op) (hit : Option Hit) (value : ℕ) (source : Source) (t rank : ℕ) (r : Result Outcome UnitFault)
    → read.Hit value source t rank ≡ look_of (core_of p None) x hit
    → OutcomeLeads (op_outcome p x hit) r p q → r ≡ Ok NoEffect → ⊥
hit_acts p q x None value source t rank r told met e = absurd (cc)
hit_acts p q x (Some hit) value source t rank r told met e = acts (nat_lt (length p.transcript) entry_limit) (perform_fault p x hit) met
  where
    after : UnitParts
    after = record (performed p x hit) { transcript = p.transcript ++ entry.Performed ∷ [] }

    acts : (room : Bool) (fault : Option StampFault)
        → OutcomeLeads (if room then unless_faulty fault (Steps (Performed (next_id p.core (core_of p None))) after) else Refuses TranscriptFull) r p q → ⊥
    acts true None met = let both = rw e at met in cc
    acts true (Some fault) met = let refused = met.0 in cc
    acts false fault met = let refused = met.0 in cc
