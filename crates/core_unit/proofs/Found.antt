-- Values that answers tell of.
use Rattle.std.proofs.Common.{◌≡◌, IsSome, refl, rules}
use Rattle.std.specs.Prelude.{Option, Some, None, Err, IsSomeAnd}
use Rattle.line_stamps.specs.declared.message.Message.{Message}
use Rattle.line_stamps.specs.declared.message.Reply.{Reply}
use Rattle.private_cache.specs.declared.held.Held.{Held}
use Rattle.core_unit.specs.Outcomes.{IsLackOfRoom, OutcomeLeads, fill_outcome}
use Rattle.core_unit.specs.Parts.{UnitParts}
use Rattle.core_unit.specs.declared.fault.UnitFault.{UnitFault}

pub some_and : {A : Type 0} (o : Option A) (P : A → Type 0) → IsSomeAnd o P → (x : A) × (o ≡ Some x) × P x
some_and None P h = absurd h
some_and (Some x) P h = (x, refl, h)

-- a reply that fits, where one more entry can't be made
pub fill_without_room : (p : UnitParts) (m : Message) (x : Reply) (held : Option Held) (fault : UnitFault) → IsSome held
    → IsLackOfRoom p.transcript fault
    → OutcomeLeads (fill_outcome p m x held) (Err fault) p p
fill_without_room p m x None fault there why = absurd (cc)
fill_without_room p m x (Some held) fault there why = search rules
