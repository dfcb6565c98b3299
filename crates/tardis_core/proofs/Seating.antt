-- Seats, where the units and the replies that are kept for them stand in two lists.
use Rattle.std.proofs.Common.{◌≡◌, ℕ, zero, suc, ◌-◌, ◌<◌, ◌≤◌, List, [], ◌∷◌, ◌++◌, length, get_or, take, replicate, map, refl, sym, ap, ◌∙◌, arith, eq-eqb}
use Rattle.std.specs.Prelude.{Option, Some, None, if◌then◌else◌, nat_eq, option_and_then, slice_get, slice_set}
use Rattle.std.specs.Option.{option_map, option_map_or}
use Rattle.std.proofs.lemmas.List.{length-set}
use Rattle.std.proofs.lemmas.Option.{slice_get-map}
use Rattle.std.proofs.Math.Nat.{sub-zero}
use Rattle.std.proofs.Math.Seq.{take-nil}
use Rattle.line_stamps.specs.declared.message.Reply.{Reply}
use Rattle.lease_rule.specs.ConfigParts.{ConfigParts}
use Rattle.manager_slice.specs.Parts.{SliceParts}
use Rattle.core_unit.specs.Core.{Core}
use Rattle.core_unit.specs.Parts.{UnitParts, core_of}
use Rattle.core_machine.specs.Opening.{new_seat}
use Rattle.core_machine.specs.Parts.{CoreParts, IsMachine, programs_of, world}
use Rattle.core_machine.specs.SeatParts.{SeatParts}
use Rattle.core_machine.specs.Seats.{seen}
use Rattle.core_machine.specs.Steps.{with_seat}
use Rattle.core_machine.specs.Works.{log_at}
use Rattle.core_machine.proofs.Placed.{found_in_map, set_again, stands, stands_none}
use Rattle.audit.specs.Runs.{kept_log}
use Rattle.machine_laws.specs.Hands.{ReplyFits, no_message, unserved, busy, taken, fills}
use Rattle.machine_laws.proofs.Replies.{reached_ready}
use Rattle.tardis_core.specs.inner.Seating.{IsSeated, parts, seat, seats_of}

-- ---- what stands in the lists

pub units_are : (us : List UnitParts) (kept : List (Option Reply)) → length kept ≡ length us → map (λ s. s.unit) (seats_of us kept) ≡ us
units_are [] kept e = refl
units_are (u ∷ us) [] e = absurd (omega (arith, e))
units_are (u ∷ us) (k ∷ kept) e = ap (λ (vs : List UnitParts). u ∷ vs) (units_are us kept (omega (arith, e)))

pub kept_is : (us : List UnitParts) (kept : List (Option Reply)) (c : ℕ) → length kept ≡ length us
    → option_and_then (λ s. s.kept) (slice_get (seats_of us kept) c) ≡ option_and_then (λ k. k) (slice_get kept c)
kept_is [] [] c e = refl
kept_is [] (k ∷ kept) c e = absurd (omega (arith, e))
kept_is (u ∷ us) [] c e = absurd (omega (arith, e))
kept_is (u ∷ us) (k ∷ kept) zero e = refl
kept_is (u ∷ us) (k ∷ kept) (suc c) e = kept_is us kept c (omega (arith, e))

seat_there : (us : List UnitParts) (kept : List (Option Reply)) (c : ℕ) (u : UnitParts) (k : Option Reply) → slice_get us c ≡ Some u → slice_get kept c ≡ Some k → slice_get (seats_of us kept) c ≡ Some (seat u k)
seat_there [] kept c u k at beside = absurd (cc)
seat_there (v ∷ us) [] c u k at beside = absurd (cc)
seat_there (v ∷ us) (l ∷ kept) zero u k at beside =
    let first : v ≡ u = cc in
    let second : l ≡ k = cc in
    ap (λ (x : UnitParts). Some (seat x l)) first ∙ ap (λ (x : Option Reply). Some (seat u x)) second
seat_there (v ∷ us) (l ∷ kept) (suc c) u k at beside = seat_there us kept c u k at beside

seat_none : (us : List UnitParts) (kept : List (Option Reply)) (c : ℕ) → slice_get kept c ≡ None → slice_get (seats_of us kept) c ≡ None
seat_none [] kept c none = refl
seat_none (u ∷ us) [] c none = refl
seat_none (u ∷ us) (k ∷ kept) zero none = absurd (cc)
seat_none (u ∷ us) (k ∷ kept) (suc c) none = seat_none us kept c none

-- at the start nothing is kept
new_seats : (us : List UnitParts) (n : ℕ) → n ≡ length us → seats_of us (replicate n None) ≡ map new_seat us
new_seats [] n e = refl
new_seats (u ∷ us) zero e = absurd (omega (arith, e))
new_seats (u ∷ us) (suc n) e = ap (λ (seats : List SeatParts). new_seat u ∷ seats) (new_seats us n (omega (arith, e)))

pub all_new : (us : List UnitParts) (kept none : List (Option Reply)) (n m : ℕ) → kept ≡ take n none ++ replicate (n - m) None → none ≡ [] → m ≡ 0 → n ≡ length us
    → seats_of us kept ≡ map new_seat us
all_new us kept none n m is empty zero_is many =
    let filled : take n none ++ replicate (n - m) None ≡ replicate n None = rw (empty, zero_is) (simp (take-nil, sub-zero)) in
    ap (seats_of us) (is ∙ filled) ∙ new_seats us n many

-- the logs that the units keep are the machine's
pub logs_are : (p : CoreParts) → IsMachine p → (c : ℕ) → kept_log (map (λ s. s.unit) p.seats) c ≡ log_at (world p) c
logs_are p is c =
    rw (slice_get-map (λ (s : SeatParts). s.unit) p.seats c, slice_get-map (λ (s : SeatParts). core_of s.unit s.kept) p.seats c) (go (slice_get p.seats c) refl)
  where
    go : (o : Option SeatParts) → slice_get p.seats c ≡ o
        → option_map_or (λ (u : UnitParts). if nat_eq u.core c then u.log else []) (option_map (λ (s : SeatParts). s.unit) o) []
        ≡ option_map_or (λ (u : Core). u.log) (option_map (λ (s : SeatParts). core_of s.unit s.kept) o) []
    go None at = refl
    go (Some s) at = ap (λ b. if b then s.unit.log else []) (eq-eqb s.unit.core c (is.placed.seats c s at).core)

-- ---- a seat that is replaced

pub seats_set : (us : List UnitParts) (kept : List (Option Reply)) (c : ℕ) (u : UnitParts) (k : Option Reply) → seats_of (slice_set us c u) (slice_set kept c k) ≡ slice_set (seats_of us kept) c (seat u k)
seats_set [] kept c u k = refl
seats_set (v ∷ us) [] zero u k = refl
seats_set (v ∷ us) [] (suc c) u k = refl
seats_set (v ∷ us) (l ∷ kept) zero u k = refl
seats_set (v ∷ us) (l ∷ kept) (suc c) u k = ap (λ (seats : List SeatParts). seat v l ∷ seats) (seats_set us kept c u k)

-- the unit stays
pub seats_keep : (us : List UnitParts) (kept : List (Option Reply)) (c : ℕ) (u : UnitParts) (k : Option Reply) → slice_get us c ≡ Some u → seats_of us (slice_set kept c k) ≡ slice_set (seats_of us kept) c (seat u k)
seats_keep us kept c u k at = ap (λ (vs : List UnitParts). seats_of vs (slice_set kept c k)) (sym (set_again us c u at)) ∙ seats_set us kept c u k

pub seated_again : (g : ConfigParts) (us : List UnitParts) (kept : List (Option Reply)) (ss : List SliceParts) (c : ℕ) (u : UnitParts) (k : Option Reply)
    → IsSeated g us kept ss → IsMachine (with_seat (parts g us kept ss) c (seat u k)) → IsSeated g (slice_set us c u) (slice_set kept c k) ss
seated_again g us kept ss c u k is machine = record {
  one_each = length-set kept c k ∙ is.one_each ∙ sym (length-set us c u);
  machine = rw (seats_set us kept c u k) machine;
}

-- ---- the seat of core c, by look-ups

module _ (us : List UnitParts) (kept : List (Option Reply)) (c n : ℕ) (same : n ≡ c) where
  pub nowhere : length kept ≤ n → slice_get (seats_of us kept) c ≡ None
  nowhere past = seat_none us kept c (stands_none kept c n same past)

  pub unit_at : (u : UnitParts) → n < length us → u ≡ get_or us n u → slice_get us c ≡ Some u
  unit_at u below is = stands us c n u same below is

  pub seat_at : (u : UnitParts) (k : Option Reply) → n < length us → u ≡ get_or us n u → n < length kept → k ≡ get_or kept n k → slice_get (seats_of us kept) c ≡ Some (seat u k)
  seat_at u k below is beside kept_so = seat_there us kept c u k (unit_at u below is) (stands kept c n k same beside kept_so)

-- ---- a core with an empty hand has no reply

free_kept : (g : ConfigParts) (u : Core) → u.hand ≡ None → ReplyFits g u → u.kept ≡ None
free_kept g u e (no_message h k) = k
free_kept g u e (unserved m h k p) = absurd (cc)
free_kept g u e (busy m x h k i) = absurd (cc)
free_kept g u e (taken m h k i) = absurd (cc)
free_kept g u e (fills m x held h k f p i) = absurd (cc)

pub free : (p : CoreParts) → IsMachine p → (c : ℕ) (s : SeatParts) → slice_get p.seats c ≡ Some s → s.unit.hand ≡ None → s.kept ≡ None
free p is c s there empty =
    let fit = (reached_ready (programs_of p) p.config (world p) is.reached).1 in
    free_kept p.config (seen s) empty (fit c (seen s) (found_in_map seen p.seats c s there))
