-- What an event of a slice makes of the machine.
use Rattle.std.proofs.Common.{◌≡◌, ℕ, Bool, true, false, List, inl, inr, refl, sym, ap, subst, ◌∙◌}
use Rattle.std.specs.Prelude.{Option, Some, None, ◌||◌, not, nat_eq, is_some, is_none, map, slice_get, slice_set, Ok, Err}
use Rattle.std.proofs.lemmas.List.{map-set, length-set}
use Rattle.lease_rule.specs.ConfigParts.{ConfigParts}
use Rattle.line_stamps.specs.declared.message.Message.{Message}
use Rattle.line_stamps.specs.declared.message.Reply.{Reply}
use Rattle.manager_slice.specs.Changes.{slice_of}
use Rattle.line_stamps.specs.Messages.{addr_of}
use Rattle.manager_slice.specs.Outcome as slice
use Rattle.manager_slice.specs.Parts.{SliceParts}
use Rattle.manager_slice.specs.Table.{Slice, Handles}
use Rattle.manager_slice.specs.declared.fault.SliceFault.{SliceFault}
use Rattle.core_unit.specs.Core.{Core}
use Rattle.core_unit.specs.declared.outcome.Outcome.TheVariants as outcome
use Rattle.core_machine.specs.Machine.{World, Leads, serves, spills, no_effect, is_barred, bars_at, bars_spill, slice_number, with_core, with_slice}
use Rattle.core_machine.specs.Parts.{CoreParts, world, IsPlaced}
use Rattle.core_machine.specs.SeatParts.{SeatParts}
use Rattle.core_machine.specs.Seats.{asked_by, seen}
use Rattle.core_machine.specs.Steps.{OutcomeLeads, MachineLeads, served_outcome, spill_told, spilled_outcome, step_outcome, with_seat}
use Rattle.core_machine.specs.declared.event.Event.TheVariants as event
use Rattle.core_machine.specs.declared.fault.CoreFault.TheVariants.{Slice as FromSlice}
use Rattle.std.specs.Bool.{OnTrue}
use Rattle.std.specs.Map.{lookup}
use Rattle.memory_stamp.proofs.Maps.{get-lookup}
use Rattle.manager_slice.specs.Lines.{is_some_shared}
use Rattle.manager_slice.specs.declared.managed.ManagedLine.{ManagedLine}
use Rattle.manager_slice.specs.declared.managed.ManagedLine.TheVariants.{Shared, Exclusive}
use Rattle.core_machine.proofs.Alone.{kept_machine}
use Rattle.core_machine.proofs.Placed.{set_again, found_in_set, found_in_map}

abbrev seen_slice : SliceParts → Slice
seen_slice s = slice_of s.state

-- ---- a slice's part

module _ (p : CoreParts) (k : IsPlaced p) (n : ℕ) (s : SliceParts) (at : slice_get p.slices n ≡ Some s) where
  -- the machine with another slice n
  abbrev pub with_slice_parts : SliceParts → CoreParts
  with_slice_parts t = record p { slices = slice_set p.slices n t }

  pub slice_again : with_slice_parts s ≡ p
  slice_again = ap (λ (slices : List SliceParts). record p { slices = slices }) (set_again p.slices n s at)

  pub kept_slices : (t : SliceParts) → t.number ≡ s.number → t.config ≡ s.config → IsPlaced (with_slice_parts t)
  kept_slices t number config = record {
    seats = k.seats;
    slices = λ m x found. elim (found_in_set p.slices n t m x found) [
      | inl new ↦ record {
        number = ap (λ (y : SliceParts). y.number) new.1 ∙ number ∙ (k.slices n s at).number ∙ sym new.0;
        config = ap (λ (y : SliceParts). y.config) new.1 ∙ config ∙ (k.slices n s at).config;
      }
      | inr old ↦ k.slices m x old
    ];
    count = length-set p.slices n t ∙ k.count;
  }

pub asked_facts : (hand : Option Message) (kept : Option Reply) (m : Message) → asked_by hand kept ≡ Some m → (hand ≡ Some m) × (kept ≡ None)
asked_facts hand None m e = (e, refl)
asked_facts hand (Some x) m e = absurd (cc)

idle_bars : (hand : Option Message) (kept : Option Reply) → asked_by hand kept ≡ None → (is_none hand || is_some kept) ≡ true
idle_bars None None e = refl
idle_bars (Some m) None e = absurd (cc)
idle_bars None (Some x) e = refl
idle_bars (Some m) (Some x) e = refl

-- ---- a serve

module _ (p : CoreParts) (k : IsPlaced p) (c : ℕ) (s : SeatParts) (there : slice_get p.seats c ≡ Some s) where
  serve_barred_is : is_barred p.config (world p) (event.Serve c) ≡ (is_none s.unit.hand || is_some s.kept)
  serve_barred_is = ap (bars_at (event.Serve c)) (found_in_map seen p.seats c s there)

  pub idle_outcome : asked_by s.unit.hand s.kept ≡ None → OutcomeLeads (step_outcome p (event.Serve c)) (Ok outcome.NoEffect) p (with_seat p c s)
  idle_outcome idle = rw (there, idle) (refl, ap (λ (seats : List SeatParts). record p { seats = seats }) (set_again p.seats c s there))

  pub leads_idle : asked_by s.unit.hand s.kept ≡ None → MachineLeads (event.Serve c) p (Ok outcome.NoEffect) (with_seat p c s)
  leads_idle idle =
      let b = serve_barred_is ∙ idle_bars s.unit.hand s.kept idle in
      let back : with_seat p c s ≡ p = ap (λ (seats : List SeatParts). record p { seats = seats }) (set_again p.seats c s there) in
      record {
        leads = subst (λ (q : CoreParts). Leads p.config (world p) (event.Serve c) outcome.NoEffect (world q)) (sym back) (no_effect (event.Serve c) b);
        barred = (λ q. b, λ q. refl);
        refused = tt;
        config = refl;
      }

  module _ (m : Message) (asked : asked_by s.unit.hand s.kept ≡ Some m) (n : ℕ) (n_is : n ≡ slice_number p.config (addr_of m))
      (sl : SliceParts) (at : slice_get p.slices n ≡ Some sl) where
    abbrev pub serve_at : Reply → SliceParts → CoreParts
    serve_at x t = record p { seats = slice_set p.seats c (record { unit = s.unit; kept = Some x }); slices = slice_set p.slices n t }

    abbrev pub refused_at : SliceParts → CoreParts
    refused_at t = record p { seats = slice_set p.seats c s; slices = slice_set p.slices n t }

    at_number : slice_get p.slices (slice_number p.config (addr_of m)) ≡ Some sl
    at_number = ap (slice_get p.slices) (sym n_is) ∙ at

    both_back : (t : SliceParts) → t ≡ sl → refused_at t ≡ p
    both_back t same =
        ap (λ (seats : List SeatParts). record p { seats = seats; slices = slice_set p.slices n t }) (set_again p.seats c s there)
        ∙ ap (λ (slices : List SliceParts). record p { slices = slices }) (ap (slice_set p.slices n) same ∙ set_again p.slices n sl at)

    pub served_ok : (x : Reply) (t : SliceParts) → slice.OutcomeLeads (slice.handle_outcome sl c m) (Ok x) sl t
        → OutcomeLeads (step_outcome p (event.Serve c)) (Ok (outcome.Served x)) p (serve_at x t)
    served_ok x t met = rw (there, asked, at_number) (subst (λ (i : ℕ). OutcomeLeads (served_outcome p c s i sl (slice.handle_outcome sl c m)) (Ok (outcome.Served x)) p (serve_at x t)) n_is (by_outcome (slice.handle_outcome sl c m) met))
      where
        by_outcome : (o : slice.Outcome Reply) → slice.OutcomeLeads o (Ok x) sl t → OutcomeLeads (served_outcome p c s n sl o) (Ok (outcome.Served x)) p (serve_at x t)
        by_outcome (slice.Refuses f) w = let q = w.0 in absurd (cc)
        by_outcome (slice.Answers y) w =
            let same : x ≡ y = (let q = w.0 in cc) in (
              ap (λ z. Ok (outcome.Served z)) same,
              ap (λ z. serve_at z t) same ∙ ap (λ (slices : List SliceParts). record (serve_at y t) { slices = slices }) (ap (slice_set p.slices n) w.1 ∙ set_again p.slices n sl at),
            )
        by_outcome (slice.Steps y entries state) w =
            (ap (λ z. outcome.Served z) w.0, ap (λ z. serve_at z t) w.0 ∙ ap (λ (u : SliceParts). serve_at y u) w.1)

    pub served_err : (f : SliceFault) (t : SliceParts) → slice.OutcomeLeads (slice.handle_outcome sl c m) (Err f) sl t
        → OutcomeLeads (step_outcome p (event.Serve c)) (Err (FromSlice f)) p (refused_at t)
    served_err f t met = rw (there, asked, at_number) (by_outcome (slice.handle_outcome sl c m) met)
      where
        by_outcome : (o : slice.Outcome Reply) → slice.OutcomeLeads o (Err f) sl t → OutcomeLeads (served_outcome p c s (slice_number p.config (addr_of m)) sl o) (Err (FromSlice f)) p (refused_at t)
        by_outcome (slice.Refuses g) w = ((let same : f ≡ g = (let q = w.0 in cc) in ap (λ z. Err (FromSlice z)) same), both_back t w.1)
        by_outcome (slice.Answers y) w = let q = w.0 in absurd (cc)
        by_outcome (slice.Steps y entries state) w = (ap (λ z. FromSlice z) w.0, both_back t w.1)

    unserved_bars : is_barred p.config (world p) (event.Serve c) ≡ false
    unserved_bars = let facts = asked_facts s.unit.hand s.kept m asked in serve_barred_is ∙ rw (facts.0, facts.1) refl

    pub leads_refused_serve : (f : SliceFault) (t : SliceParts) → t ≡ sl → MachineLeads (event.Serve c) p (Err (FromSlice f)) (refused_at t)
    leads_refused_serve f t same = record {
      leads = tt;
      barred = (λ q. absurd (cc), λ b. let e : true ≡ false = sym b ∙ unserved_bars in absurd (cc));
      refused = both_back t same;
      config = refl;
    }

    pub leads_served : (x : Reply) (t : SliceParts) → slice.IsHandled sl c m x t → MachineLeads (event.Serve c) p (Ok (outcome.Served x)) (serve_at x t)
    leads_served x t handled =
        let facts = asked_facts s.unit.hand s.kept m asked in
        let handles = subst (λ (g : ConfigParts). Handles g (seen_slice sl) c m x handled.entries (seen_slice t)) (k.slices n sl at).config handled.handles in
        let led = serves c (seen s) m x handled.entries (seen_slice sl) (seen_slice t) (found_in_map seen p.seats c s there) facts.0 facts.1 (found_in_map seen_slice p.slices (slice_number p.config (addr_of m)) sl at_number) handles in
        let same : world (serve_at x t) ≡ with_slice p.config (with_core (world p) c (record (seen s) { kept = Some x })) (addr_of m) (seen_slice t) =
        ap (λ (cores : List Core). record { cores = cores; slices = map seen_slice (slice_set p.slices n t) }) (map-set seen p.seats c (record { unit = s.unit; kept = Some x }))
        ∙ ap (λ (slices : List Slice). record { cores = slice_set (map seen p.seats) c (record (seen s) { kept = Some x }); slices = slices }) (map-set seen_slice p.slices n t)
        ∙ ap (λ (i : ℕ). record { cores = slice_set (map seen p.seats) c (record (seen s) { kept = Some x }); slices = slice_set (map seen_slice p.slices) i (seen_slice t) }) n_is in
        record {
          leads = subst (λ (w : World). Leads p.config (world p) (event.Serve c) (outcome.Served x) w) (sym same) led;
          barred = (λ q. absurd (cc), λ b. let e : true ≡ false = sym b ∙ unserved_bars in absurd (cc));
          refused = tt;
          config = refl;
        }

    pub kept_served : (x : Reply) (t : SliceParts) → t.number ≡ sl.number → t.config ≡ sl.config → IsPlaced (serve_at x t)
    kept_served x t number config =
        let seats = kept_machine p c k s there (record { unit = s.unit; kept = Some x }) (record { core = refl; program = refl; config = refl }) in
        let slices = kept_slices p k n sl at t number config in
        record { seats = seats.seats; slices = slices.slices; count = slices.count }

-- ---- a spill

module _ (p : CoreParts) (k : IsPlaced p) (a n : ℕ) (n_is : n ≡ slice_number p.config a) (sl : SliceParts) (at : slice_get p.slices n ≡ Some sl) where
  spill_number : slice_get p.slices (slice_number p.config a) ≡ Some sl
  spill_number = ap (slice_get p.slices) (sym n_is) ∙ at

  slice_back : (t : SliceParts) → t ≡ sl → with_slice_parts p k n sl at t ≡ p
  slice_back t same = ap (with_slice_parts p k n sl at) same ∙ slice_again p k n sl at

  pub spilled_ok : (went : Bool) (t : SliceParts) → slice.OutcomeLeads (slice.evict_outcome sl a) (Ok went) sl t
      → OutcomeLeads (step_outcome p (event.Spill a)) (Ok (spill_told went)) p (with_slice_parts p k n sl at t)
  spilled_ok went t met = rw spill_number (subst (λ (i : ℕ). OutcomeLeads (spilled_outcome p i sl (slice.evict_outcome sl a)) (Ok (spill_told went)) p (with_slice_parts p k n sl at t)) n_is (by_outcome (slice.evict_outcome sl a) met))
    where
      by_outcome : (o : slice.Outcome Bool) → slice.OutcomeLeads o (Ok went) sl t → OutcomeLeads (spilled_outcome p n sl o) (Ok (spill_told went)) p (with_slice_parts p k n sl at t)
      by_outcome (slice.Refuses f) w = let q = w.0 in absurd (cc)
      by_outcome (slice.Answers y) w = ((let same : went ≡ y = (let q = w.0 in cc) in ap (λ z. Ok (spill_told z)) same), slice_back t w.1)
      by_outcome (slice.Steps y entries state) w = (ap spill_told w.0, ap (with_slice_parts p k n sl at) w.1)

  pub spilled_err : (f : SliceFault) (t : SliceParts) → slice.OutcomeLeads (slice.evict_outcome sl a) (Err f) sl t
      → OutcomeLeads (step_outcome p (event.Spill a)) (Err (FromSlice f)) p (with_slice_parts p k n sl at t)
  spilled_err f t met = rw spill_number (by_outcome (slice.evict_outcome sl a) met)
    where
      by_outcome : (o : slice.Outcome Bool) → slice.OutcomeLeads o (Err f) sl t → OutcomeLeads (spilled_outcome p (slice_number p.config a) sl o) (Err (FromSlice f)) p (with_slice_parts p k n sl at t)
      by_outcome (slice.Refuses g) w = ((let same : f ≡ g = (let q = w.0 in cc) in ap (λ z. Err (FromSlice z)) same), slice_back t w.1)
      by_outcome (slice.Answers y) w = let q = w.0 in absurd (cc)
      by_outcome (slice.Steps y entries state) w = (ap (λ z. FromSlice z) w.0, slice_back t w.1)

  spill_barred_is : is_barred p.config (world p) (event.Spill a) ≡ not (is_some_shared (lookup (nat_eq a) sl.state.lines))
  spill_barred_is =
      ap (bars_spill a) (found_in_map seen_slice p.slices (slice_number p.config a) sl spill_number)
      ∙ ap (λ (o : Option ManagedLine). not (is_some_shared o)) (get-lookup sl.state.lines a)

  -- nothing went, and nothing changed
  stayed : (t : SliceParts) (o : Option ManagedLine) → false ≡ is_some_shared o → slice.OutcomeLeads (slice.line_outcome sl a o) (Ok false) sl t → t ≡ sl
  stayed t None e met = met.1
  stayed t (Some (Exclusive owner)) e met = met.1
  stayed t (Some (Shared l)) e met = absurd (cc)

  pub leads_spill : (went : Bool) (t : SliceParts) → went ≡ is_some_shared (lookup (nat_eq a) sl.state.lines) → OnTrue went (slice.IsEvicted sl a t)
      → slice.OutcomeLeads (slice.evict_outcome sl a) (Ok went) sl t → MachineLeads (event.Spill a) p (Ok (spill_told went)) (with_slice_parts p k n sl at t)
  leads_spill true t shared evicted met =
      let led = spills a (seen_slice sl) (seen_slice t) (found_in_map seen_slice p.slices (slice_number p.config a) sl spill_number) (evicted.evicts) in
      let same : world (with_slice_parts p k n sl at t) ≡ with_slice p.config (world p) a (seen_slice t) =
      ap (λ (slices : List Slice). record (world p) { slices = slices }) (map-set seen_slice p.slices n t)
      ∙ ap (λ (i : ℕ). record (world p) { slices = slice_set (map seen_slice p.slices) i (seen_slice t) }) n_is in
      let b : is_barred p.config (world p) (event.Spill a) ≡ false = spill_barred_is ∙ ap not (sym shared) in
      record {
        leads = subst (λ (w : World). Leads p.config (world p) (event.Spill a) outcome.Spilled w) (sym same) led;
        barred = (λ q. absurd (cc), λ q. let e : true ≡ false = sym q ∙ b in absurd (cc));
        refused = tt;
        config = refl;
      }
  leads_spill false t shared evicted met =
      let b : is_barred p.config (world p) (event.Spill a) ≡ true = spill_barred_is ∙ ap not (sym shared) in
      let back = slice_back t (stayed t (lookup (nat_eq a) sl.state.lines) shared met) in
      record {
        leads = subst (λ (q : CoreParts). Leads p.config (world p) (event.Spill a) outcome.NoEffect (world q)) (sym back) (no_effect (event.Spill a) b);
        barred = (λ q. b, λ q. refl);
        refused = tt;
        config = refl;
      }

  pub leads_refused_spill : (f : SliceFault) (t : SliceParts) → slice.OutcomeLeads (slice.evict_outcome sl a) (Err f) sl t → t ≡ sl
      → MachineLeads (event.Spill a) p (Err (FromSlice f)) (with_slice_parts p k n sl at t)
  leads_refused_spill f t met same = record {
    leads = tt;
    barred = (λ q. absurd (cc), λ b. absurd (refusal (lookup (nat_eq a) sl.state.lines) met (sym spill_barred_is ∙ b)));
    refused = slice_back t same;
    config = refl;
  }
    where
      refusal : (o : Option ManagedLine) → slice.OutcomeLeads (slice.line_outcome sl a o) (Err f) sl t → not (is_some_shared o) ≡ true → ⊥
      refusal None w e = let q = w.0 in absurd (cc)
      refusal (Some (Exclusive owner)) w e = let q = w.0 in absurd (cc)
      refusal (Some (Shared l)) w e = absurd (cc)

  -- the slice is still the same one
  pub kept_spilled : (went : Bool) (t : SliceParts) → slice.OutcomeLeads (slice.evict_outcome sl a) (Ok went) sl t → IsPlaced (with_slice_parts p k n sl at t)
  kept_spilled went t met = by_outcome (slice.evict_outcome sl a) met
    where
      by_outcome : (o : slice.Outcome Bool) → slice.OutcomeLeads o (Ok went) sl t → IsPlaced (with_slice_parts p k n sl at t)
      by_outcome (slice.Refuses f) w = let q = w.0 in absurd (cc)
      by_outcome (slice.Answers y) w = kept_slices p k n sl at t (ap (λ (x : SliceParts). x.number) w.1) (ap (λ (x : SliceParts). x.config) w.1)
      by_outcome (slice.Steps y entries state) w = kept_slices p k n sl at t (ap (λ (x : SliceParts). x.number) w.1) (ap (λ (x : SliceParts). x.config) w.1)
