-- Machines to which events lead.
use Rattle.std.proofs.Common.{◌≡◌, ℕ, List, [], ◌∷◌, ◌++◌, inl, inr, sym, ap, subst, ◌∙◌}
use Rattle.std.specs.Prelude.{Some, Ok, Err, IfOk, OnErr, slice_get}
use Rattle.lease_rule.specs.ConfigParts.{ConfigParts}
use Rattle.core_program.specs.declared.instruction.Instruction.{Instruction}
use Rattle.core_unit.specs.Parts.{SameUnit}
use Rattle.core_machine.specs.Machine.{World, Leads, Run, start, next, opening}
use Rattle.core_machine.specs.Parts.{CoreParts, world, programs_of, IsReached, IsMachine, HaveRoom}
use Rattle.core_machine.specs.SeatParts.{SeatParts}
use Rattle.core_machine.specs.Steps.{MachineLeads, with_seat}
use Rattle.core_machine.specs.declared.event.Event.{Event}
use Rattle.core_machine.proofs.Alone.{StepResult, kept_machine}
use Rattle.core_machine.proofs.Placed.{map-set_same, found_in_set}

-- the machine as it starts
pub reached_start : (p : CoreParts) → world p ≡ opening (programs_of p) p.config.slices → IsReached p
reached_start p same = ([], subst (λ (w : World). Run p.config w [] (world p)) same start)

-- an event leads on, and one that is refused changes nothing
pub reached_on : (e : Event) (p : CoreParts) (r : StepResult) (q : CoreParts) → MachineLeads e p r q → programs_of q ≡ programs_of p → IsReached p → IsReached q
reached_on e p r q led programs reached = by_result r led.leads led.refused
  where
    by_result : (r : StepResult) → IfOk r (λ o. Leads p.config (world p) e o (world q)) → OnErr r (q ≡ p) → IsReached q
    by_result (Ok o) leads refused =
        let run = next reached.0 e o (world p) (world q) reached.1 leads in
        let at_config = subst (λ (g : ConfigParts). Run g (opening (programs_of p) g.slices) (reached.0 ++ e ∷ []) (world q)) (sym led.config) run in
        (reached.0 ++ e ∷ [], subst (λ (programs : List (List Instruction)). Run q.config (opening programs q.config.slices) (reached.0 ++ e ∷ []) (world q)) (sym programs) at_config)
    by_result (Err fault) leads refused = subst IsReached (sym refused) reached

-- a seat is replaced by one whose cache has its room
pub room_kept : (p : CoreParts) (c : ℕ) (t : SeatParts) → HaveRoom p → t.unit.cache.capacity ≡ p.config.cache_lines → HaveRoom (with_seat p c t)
room_kept p c t room fits d x found = elim (found_in_set p.seats c t d x found) [
  | inl new ↦ ap (λ (y : SeatParts). y.unit.cache.capacity) new.1 ∙ fits
  | inr old ↦ room d x old
]

-- an event leads on by what it makes of core c
pub seat_kept : (p : CoreParts) (c : ℕ) (k : IsMachine p) (s : SeatParts) (there : slice_get p.seats c ≡ Some s) (t : SeatParts) (same : SameUnit s.unit t.unit)
    (fits : t.unit.cache.capacity ≡ p.config.cache_lines) (e : Event) (r : StepResult) → MachineLeads e p r (with_seat p c t) → IsMachine (with_seat p c t)
seat_kept p c k s there t same fits e r led = record {
  placed = kept_machine p c k.placed s there t same;
  reached = reached_on e p r (with_seat p c t) led (map-set_same (λ (x : SeatParts). x.unit.program) p.seats c s t there same.program) k.reached;
  room = room_kept p c t k.room fits;
}
