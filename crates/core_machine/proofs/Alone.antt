-- What an event of a core alone makes of the machine.
use Rattle.std.proofs.Common.{◌≡◌, ◌≢◌, ℕ, true, List, inl, inr, refl, sym, ap, subst, ◌∙◌}
use Rattle.std.specs.Prelude.{◌⊎◌, Some, None, Result, Ok, Err, slice_get}
use Rattle.std.proofs.lemmas.List.{map-set}
use Rattle.lease_rule.specs.ConfigParts.{ConfigParts}
use Rattle.core_unit.specs.Core.{Core}
use Rattle.core_unit.specs.Parts.{SameUnit}
use Rattle.core_unit.specs.declared.fault.UnitFault.{UnitFault}
use Rattle.core_unit.specs.declared.outcome.Outcome.{Outcome}
use Rattle.core_unit.specs.declared.outcome.Outcome.TheVariants as outcome
use Rattle.core_machine.specs.Machine.{World, CoreLeads, Leads, by_core, no_effect, core_event, bars, bars_at, is_barred, with_core}
use Rattle.core_machine.specs.Parts.{CoreParts, world, IsPlaced}
use Rattle.core_machine.specs.SeatParts.{SeatParts}
use Rattle.core_machine.specs.Seats.{SeatLeads, SeatOutcomeLeads, SeatOutcome, seat_outcome, seen}
use Rattle.core_machine.specs.Seats as seat
use Rattle.core_machine.specs.Steps.{OutcomeLeads, MachineLeads, alone, core_outcome, with_seat}
use Rattle.core_machine.specs.declared.event.Event.{Event}
use Rattle.core_machine.specs.declared.event.Event.TheVariants as event
use Rattle.core_machine.specs.declared.fault.CoreFault.{CoreFault}
use Rattle.core_machine.specs.declared.fault.CoreFault.TheVariants.{Unit}
use Rattle.core_machine.proofs.Placed.{set_again, found_in_set, found_in_map, none_in_map}

abbrev pub StepResult : Type 0
StepResult = Result Outcome CoreFault

pub has_effect : (o : Outcome) → (o ≡ outcome.NoEffect) ⊎ (o ≢ outcome.NoEffect)
has_effect outcome.NoEffect = inl refl
has_effect (outcome.Performed id) = inr (λ e. cc)
has_effect (outcome.Dropped a) = inr (λ e. cc)
has_effect (outcome.Sent m) = inr (λ e. cc)
has_effect outcome.Ended = inr (λ e. cc)
has_effect outcome.Took = inr (λ e. cc)
has_effect (outcome.Busy x) = inr (λ e. cc)
has_effect (outcome.Gave m) = inr (λ e. cc)
has_effect outcome.Bumped = inr (λ e. cc)
has_effect (outcome.Served x) = inr (λ e. cc)
has_effect outcome.Spilled = inr (λ e. cc)

-- whether an event applies is its core's matter
pub barred_at : (g : ConfigParts) (w : World) (e : Event) (c : ℕ) → core_event e ≡ Some c → is_barred g w e ≡ bars_at e (slice_get w.cores c)
barred_at g w (event.Turn d) c own = let p : d ≡ c = cc in ap (λ n. bars_at (event.Turn d) (slice_get w.cores n)) p
barred_at g w (event.Serve d) c own = let p : d ≡ c = cc in ap (λ n. bars_at (event.Serve d) (slice_get w.cores n)) p
barred_at g w (event.Take d) c own = let p : d ≡ c = cc in ap (λ n. bars_at (event.Take d) (slice_get w.cores n)) p
barred_at g w (event.Recall d x) c own = let p : d ≡ c = cc in ap (λ n. bars_at (event.Recall d x) (slice_get w.cores n)) p
barred_at g w (event.Evict d a) c own = let p : d ≡ c = cc in ap (λ n. bars_at (event.Evict d a) (slice_get w.cores n)) p
barred_at g w (event.Spill a) c own = absurd (cc)
barred_at g w (event.Increment d) c own = let p : d ≡ c = cc in ap (λ n. bars_at (event.Increment d) (slice_get w.cores n)) p

module _ (p : CoreParts) (c : ℕ) where
  world_with : (t : SeatParts) → world (with_seat p c t) ≡ with_core (world p) c (seen t)
  world_with t = ap (λ (cores : List Core). record (world p) { cores = cores }) (map-set seen p.seats c t)

  module _ (e : Event) (own : core_event e ≡ Some c) where
    -- a core that isn't there
    pub leads_nowhere : slice_get p.seats c ≡ None → MachineLeads e p (Ok outcome.NoEffect) p
    leads_nowhere none =
        let b : is_barred p.config (world p) e ≡ true = barred_at p.config (world p) e c own ∙ ap (bars_at e) (none_in_map seen p.seats c none) in
        record { leads = no_effect e b; barred = (λ q. b, λ q. refl); refused = tt; config = refl }

  module _ (k : IsPlaced p) (s : SeatParts) (there : slice_get p.seats c ≡ Some s) where
    abbrev pub core_is : s.unit.core ≡ c
    core_is = (k.seats c s there).core

    config_is : s.unit.config ≡ p.config
    config_is = (k.seats c s there).config

    back : with_seat p c s ≡ p
    back = ap (λ (seats : List SeatParts). record p { seats = seats }) (set_again p.seats c s there)

    pub own_event : (e : Event) → core_event e ≡ Some c → core_event e ≡ Some s.unit.core
    own_event e own = own ∙ ap (λ n. Some n) (sym core_is)

    pub kept_machine : (t : SeatParts) → SameUnit s.unit t.unit → IsPlaced (with_seat p c t)
    kept_machine t same = record {
      seats = λ d x found. elim (found_in_set p.seats c t d x found) [
        | inl new ↦ record {
          core = ap (λ (y : SeatParts). y.unit.core) new.1 ∙ same.core ∙ core_is ∙ sym new.0;
          config = ap (λ (y : SeatParts). y.unit.config) new.1 ∙ same.config ∙ config_is;
        }
        | inr old ↦ k.seats d x old
      ];
      slices = k.slices;
      count = k.count;
    }

    pub alone_ok : (e : Event) (o : Outcome) (t : SeatParts) → SeatOutcomeLeads (seat_outcome e s) (Ok o) s t → OutcomeLeads (alone p c e) (Ok o) p (with_seat p c t)
    alone_ok e o t met = rw there (by_outcome (seat_outcome e s) met)
      where
        by_outcome : (x : SeatOutcome) → SeatOutcomeLeads x (Ok o) s t → OutcomeLeads (core_outcome p c x) (Ok o) p (with_seat p c t)
        by_outcome (seat.Refuses f) m = let q = m.0 in absurd (cc)
        by_outcome (seat.Answers y u) m = ((let q = m.0 in let same : o ≡ y = cc in ap (λ z. Ok z) same), ap (with_seat p c) m.1)
        by_outcome (seat.Steps y u) m = (m.0, ap (with_seat p c) m.1)

    pub alone_err : (e : Event) (f : UnitFault) (t : SeatParts) → SeatOutcomeLeads (seat_outcome e s) (Err f) s t → OutcomeLeads (alone p c e) (Err (Unit f)) p (with_seat p c t)
    alone_err e f t met = rw there (by_outcome (seat_outcome e s) met)
      where
        by_outcome : (x : SeatOutcome) → SeatOutcomeLeads x (Err f) s t → OutcomeLeads (core_outcome p c x) (Err (Unit f)) p (with_seat p c t)
        by_outcome (seat.Refuses y) m = ((let q = m.0 in let same : f ≡ y = cc in ap (λ z. Err (Unit z)) same), ap (with_seat p c) m.1 ∙ back)
        by_outcome (seat.Answers y u) m = let q = m.0 in absurd (cc)
        by_outcome (seat.Steps y u) m = (ap (λ z. Unit z) m.0, ap (with_seat p c) m.1 ∙ back)

    same_after : (e : Event) (f : UnitFault) (t : SeatParts) → SeatOutcomeLeads (seat_outcome e s) (Err f) s t → t ≡ s
    same_after e f t met = by_outcome (seat_outcome e s) met
      where
        by_outcome : (x : SeatOutcome) → SeatOutcomeLeads x (Err f) s t → t ≡ s
        by_outcome (seat.Refuses y) m = m.1
        by_outcome (seat.Answers y u) m = let q = m.0 in absurd (cc)
        by_outcome (seat.Steps y u) m = m.1

    module _ (e : Event) (own : core_event e ≡ Some c) where
      barred_is : is_barred p.config (world p) e ≡ bars e (seen s)
      barred_is = barred_at p.config (world p) e c own ∙ ap (bars_at e) (found_in_map seen p.seats c s there)

      leads_on : (o : Outcome) (t : SeatParts) → CoreLeads s.unit.config s.unit.core (seen s) e o (seen t) → Leads p.config (world p) e o (world (with_seat p c t))
      leads_on o t leads =
          let at_core = subst (λ (n : ℕ). CoreLeads s.unit.config n (seen s) e o (seen t)) core_is leads in
          let at_config = subst (λ (g : ConfigParts). CoreLeads g c (seen s) e o (seen t)) config_is at_core in
          subst (λ (w : World). Leads p.config (world p) e o w) (sym (world_with t)) (by_core c e o (seen s) (seen t) (found_in_map seen p.seats c s there) at_config)

      pub leads_ok : (o : Outcome) (t : SeatParts) → SeatLeads e s (Ok o) t → MachineLeads e p (Ok o) (with_seat p c t)
      leads_ok o t led = record {
        leads = elim (has_effect o) [
          | inl none ↦
              let at = led.barred (ap (λ x. Ok x) none) in
              let to_itself = no_effect e (barred_is ∙ at.0) in
              let in_place = subst (λ (q : CoreParts). Leads p.config (world p) e outcome.NoEffect (world q)) (sym (ap (with_seat p c) at.1 ∙ back)) to_itself in
              subst (λ (x : Outcome). Leads p.config (world p) e x (world (with_seat p c t))) (sym none) in_place
          | inr some ↦ leads_on o t (led.leads o refl some)
        ];
        barred = (
          λ is. barred_is ∙ (led.barred (let same : o ≡ outcome.NoEffect = cc in ap (λ x. Ok x) same)).0,
          λ b. let same : o ≡ outcome.NoEffect = (let q = led.bars_it (sym barred_is ∙ b) in cc) in ap (λ x. Ok x) same,
        );
        refused = tt;
        config = refl;
      }

      pub leads_err : (f : UnitFault) (t : SeatParts) → SeatOutcomeLeads (seat_outcome e s) (Err f) s t → SeatLeads e s (Err f) t → MachineLeads e p (Err (Unit f)) (with_seat p c t)
      leads_err f t met led = record {
        leads = tt;
        barred = (λ is. absurd (cc), λ b. let q = led.bars_it (sym barred_is ∙ b) in absurd (cc));
        refused = ap (with_seat p c) (same_after e f t met) ∙ back;
        config = refl;
      }
