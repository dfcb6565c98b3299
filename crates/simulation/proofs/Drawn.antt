-- The cores that haven't ended, and what a drawn round is refused for.
use Rattle.std.proofs.Common.{◌≡◌, ◌⊎◌, ◌≤◌, ℕ, refl, ap, inl, inr}
use Rattle.core_machine.specs.Machine.{World}
use Rattle.core_machine.specs.Parts.{CoreParts, world}
use Rattle.tardis_core.specs.Picks.{IsPick}
use Rattle.tardis_core.specs.Rounds.{IsRefusedRound, IsRound}
use Rattle.tardis_core.specs.declared.rounds.fault.RoundCause.TheVariants.{GaveUp}
use Rattle.tardis_core.specs.declared.rounds.fault.RoundFault.{RoundFault}
use Rattle.std.specs.Prelude.{Option}
use Rattle.simulation.specs.Drawing.{Disturbs, Draws, IsDrawFault, Leads, cores_left, draws_of, gave_up, left_below, stopped, waited}
use Rattle.simulation.specs.declared.fault.SimulationFault.TheVariants.{Core}

pub all_left : (w : World) → left_below w 64 ≡ cores_left w
unfolding cores_left
all_left w = refl

pub drawn_fault : (seed : ℕ) (stress : Option ℕ) (p : CoreParts) (d : Draws) (q : CoreParts) (c : ℕ) (r t : CoreParts) (fault : RoundFault)
    → Leads (draws_of seed stress) p d q → Disturbs d.stress q r → IsPick d.generator (cores_left (world r)) c
    → IsRefusedRound c r t fault ⊎ (IsRound c r t × (1000 ≤ waited d.waits c r t) × (fault ≡ record { core = c; fault = GaveUp }))
    → IsDrawFault seed stress p t (Core fault)
drawn_fault seed stress p d q c r t fault leads did picked (inl refused) = stopped d q c r leads did picked (fault, refl, refused)
drawn_fault seed stress p d q c r t fault leads did picked (inr (round, long, is)) =
    gave_up d q c r leads did (record { drawn = picked; round = round }) long (ap Core is)
