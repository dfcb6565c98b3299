-- What a reply that is taken says of its core in the machine.
use Rattle.std.proofs.Common.{◌≡◌, ◌≢◌, ℕ, Bool, true, false, [], ◌∷◌, ◌++◌, inl, inr, refl, sym, ap, subst}
use Rattle.std.specs.Prelude.{◌||◌, nat_lt, if◌then◌else◌, Option, Some, None, is_some, is_none, Ok, Err}
use Rattle.std.specs.FinMap as map
use Rattle.line_stamps.specs.declared.message.Message.{Message}
use Rattle.line_stamps.specs.declared.message.Recall.{Recall}
use Rattle.line_stamps.specs.declared.message.Reply.{Reply}
use Rattle.line_stamps.specs.declared.message.Reply.TheVariants.{ShRep, ExRep, RenewRep, UpgradeRep, Taken, Busy}
use Rattle.private_cache.specs.Steps.{line_at, used, has_room, fill_line}
use Rattle.private_cache.specs.Table.{filled}
use Rattle.private_cache.specs.declared.held.Held.{Held}
use Rattle.line_stamps.specs.Messages.{addr_of}
use Rattle.manager_slice.specs.Messages.{is_request}
use Rattle.core_unit.specs.Core.{has_place, fits}
use Rattle.core_unit.specs.Outcomes.{Refuses, Answers, OutcomeLeads, recorded, hand_outcome, reply_outcome, fill_outcome, take_outcome, without_hand}
use Rattle.core_unit.specs.Parts.{UnitParts, core_of}
use Rattle.core_unit.specs.declared.entry.CoreEntry.{CoreEntry}
use Rattle.core_unit.specs.declared.entry.CoreEntry.TheVariants as entry
use Rattle.core_unit.specs.declared.fault.UnitFault.TheVariants.{BadReply}
use Rattle.core_unit.specs.declared.outcome.Outcome.{Outcome}
use Rattle.core_unit.specs.declared.outcome.Outcome.TheVariants as outcome
use Rattle.core_machine.specs.Machine.{CoreLeads, takes, takes_nothing, takes_busy}
use Rattle.core_machine.specs.SeatParts.{SeatParts}
use Rattle.core_machine.specs.Seats.{SeatLeads, seen}
use Rattle.core_machine.specs.declared.event.Event.TheVariants as event
use Rattle.tardis_core.proofs.Leading.{UnitResult, leads_on, made_or_refused}

if_some : (b : Bool) (o : Option Held) (held : Held) → (if b then o else None) ≡ Some held → (b ≡ true) × (o ≡ Some held)
if_some true o held e = (refl, e)
if_some false o held e = absurd (cc)

module _ (s : SeatParts) (capacity : s.unit.cache.capacity ≡ s.unit.config.cache_lines) (o : Outcome) (q : UnitParts) where
  module _ (x : Reply) (served : s.kept ≡ Some x) where
    -- an outcome of the unit that isn't a refusal
    on : (y : Outcome) (t : UnitParts) → y ≢ outcome.NoEffect → ◌≡◌ {A = UnitResult} (Ok o) (Ok y) → q ≡ t
        → CoreLeads s.unit.config s.unit.core (seen s) (event.Take s.unit.core) y (core_of t None)
        → SeatLeads (event.Take s.unit.core) s (Ok o) (record { unit = q; kept = None })
    on y t other is new leads =
        leads_on (event.Take s.unit.core) s (Ok o) (record { unit = q; kept = None }) (ap is_none served) y is other
        (subst (λ (p : UnitParts). CoreLeads s.unit.config s.unit.core (seen s) (event.Take s.unit.core) y (core_of p None)) (sym new) leads)

    -- the same, where it makes an entry
    made : (e : CoreEntry) (y : Outcome) (t : UnitParts) → y ≢ outcome.NoEffect → OutcomeLeads (recorded s.unit e None y t) (Ok o) s.unit q
        → CoreLeads s.unit.config s.unit.core (seen s) (event.Take s.unit.core) y (core_of t None)
        → SeatLeads (event.Take s.unit.core) s (Ok o) (record { unit = q; kept = None })
    made e y t other met leads =
        elim (made_or_refused s.unit e None y t (Ok o) q met) [
          | inl f ↦ let p : Ok o ≡ Err f.0 = f.1 in absurd (cc)
          | inr w ↦ on y (record t { transcript = s.unit.transcript ++ e ∷ [] }) other w.is w.new leads
        ]

    module _ (m : Message) (h : s.unit.hand ≡ Some m) where
      filling : (b : Bool) → fits m x ≡ b → (line : Option Held) → fill_line s.unit.cache (addr_of m) x ≡ line
          → OutcomeLeads (if b then fill_outcome s.unit m x line else Refuses BadReply) (Ok o) s.unit q
          → SeatLeads (event.Take s.unit.core) s (Ok o) (record { unit = q; kept = None })
      filling false kind line is met = let p = met.0 in absurd (cc)
      filling true kind None is met = let p = met.0 in absurd (cc)
      filling true kind (Some held) is met =
          let both = if_some (has_room s.unit.cache (addr_of m)) (filled (line_at s.unit.cache (addr_of m)) x) held is in
          let place : has_place s.unit.config (seen s) (addr_of m) ≡ true =
          subst (λ (n : ℕ). (nat_lt (map.len s.unit.cache.lines) n || is_some (line_at s.unit.cache (addr_of m))) ≡ true) capacity both.0 in
          made (entry.Got m x) outcome.Took (record (without_hand s.unit) { cache = used s.unit.cache (addr_of m) held }) (λ y. cc) met
          (takes m x held h served kind place both.1)

  module _ (m : Message) (h : s.unit.hand ≡ Some m) where
    busy : (recall : Recall) → s.kept ≡ Some (Busy recall) → (b : Bool) → is_request m ≡ b
        → OutcomeLeads (if b then Answers (outcome.Busy recall) (without_hand s.unit) else Refuses BadReply) (Ok o) s.unit q
        → SeatLeads (event.Take s.unit.core) s (Ok o) (record { unit = q; kept = None })
    busy recall served false is met = let p = met.0 in absurd (cc)
    busy recall served true is met =
        on (Busy recall) served (outcome.Busy recall) (without_hand s.unit) (λ y. cc) met.0 met.1 (takes_busy m recall h served is)

    rid : s.kept ≡ Some Taken → (b : Bool) → is_request m ≡ b
        → OutcomeLeads (if b then Refuses BadReply else recorded s.unit (entry.Got m Taken) None outcome.Took (without_hand s.unit)) (Ok o) s.unit q
        → SeatLeads (event.Take s.unit.core) s (Ok o) (record { unit = q; kept = None })
    rid served true is met = let p = met.0 in absurd (cc)
    rid served false is met = made Taken served (entry.Got m Taken) outcome.Took (without_hand s.unit) (λ y. cc) met (takes_nothing m h served is)

    by_reply : (x : Reply) → s.kept ≡ Some x → OutcomeLeads (reply_outcome s.unit m x) (Ok o) s.unit q
        → SeatLeads (event.Take s.unit.core) s (Ok o) (record { unit = q; kept = None })
    by_reply (Busy recall) served met = busy recall served (is_request m) refl met
    by_reply Taken served met = rid served (is_request m) refl met
    by_reply (ShRep l) served met = filling (ShRep l) served m h (fits m (ShRep l)) refl (fill_line s.unit.cache (addr_of m) (ShRep l)) refl met
    by_reply (ExRep l) served met = filling (ExRep l) served m h (fits m (ExRep l)) refl (fill_line s.unit.cache (addr_of m) (ExRep l)) refl met
    by_reply (RenewRep rts) served met = filling (RenewRep rts) served m h (fits m (RenewRep rts)) refl (fill_line s.unit.cache (addr_of m) (RenewRep rts)) refl met
    by_reply (UpgradeRep rts) served met = filling (UpgradeRep rts) served m h (fits m (UpgradeRep rts)) refl (fill_line s.unit.cache (addr_of m) (UpgradeRep rts)) refl met

  by_hand : (x : Reply) → s.kept ≡ Some x → (hand : Option Message) → s.unit.hand ≡ hand → OutcomeLeads (hand_outcome s.unit x hand) (Ok o) s.unit q
      → SeatLeads (event.Take s.unit.core) s (Ok o) (record { unit = q; kept = None })
  by_hand x served None h met = let p = met.0 in absurd (cc)
  by_hand x served (Some m) h met = by_reply m h x served met

  pub leads_take : (x : Reply) → s.kept ≡ Some x → OutcomeLeads (take_outcome s.unit x) (Ok o) s.unit q
      → SeatLeads (event.Take s.unit.core) s (Ok o) (record { unit = q; kept = None })
  leads_take x served met = by_hand x served s.unit.hand refl met
