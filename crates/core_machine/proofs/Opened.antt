-- The machine as it starts.
use Rattle.std.proofs.Common.{◌≡◌, ℕ, zero, suc, ◌+◌, ◌≤◌, List, [], ◌∷◌, ◌++◌, length, take, inl, inr, refl, sym, ap, ◌∙◌, arith}
use Rattle.std.specs.Prelude.{◌⊎◌, Some, map, replicate, slice_get}
use Rattle.std.proofs.lemmas.List.{map-append, length-append, length-take-le, take_more}
use Rattle.std.proofs.lemmas.Option.{get_or_from_slice_get, slice_get_within}
use Rattle.lease_rule.specs.ConfigParts.{ConfigParts}
use Rattle.core_program.specs.declared.instruction.Instruction.{Instruction}
use Rattle.manager_slice.specs.Changes.{slice_of}
use Rattle.manager_slice.specs.Parts.{SliceParts}
use Rattle.manager_slice.specs.Table.{Slice, opening as empty_slice}
use Rattle.core_unit.specs.Core.{Core, new_core}
use Rattle.core_machine.specs.Machine.{opening}
use Rattle.manager_slice.specs.Opening.{new_slice, new_slices}
use Rattle.core_machine.specs.Opening.{new_seat, new_seats, new_unit, new_units, opening_parts}
use Rattle.core_machine.specs.Parts.{world, IsMachine, IsPlaced}
use Rattle.core_machine.specs.SeatParts.{SeatParts}
use Rattle.core_machine.specs.Seats.{seen}
use Rattle.core_machine.proofs.Leading.{reached_start}

-- ---- the cores

new_units-push : (g : ConfigParts) (c : ℕ) (xs : List (List Instruction)) (x : List Instruction)
    → new_units g c (xs ++ x ∷ []) ≡ new_units g c xs ++ new_unit g (c + length xs) x ∷ []
new_units-push g c [] x = ap (λ n. new_unit g n x ∷ []) (let e : c ≡ c + 0 = omega arith in e)
new_units-push g c (y ∷ ys) x =
    ap (λ us. new_unit g c y ∷ us) (new_units-push g (suc c) ys x
    ∙ ap (λ n. new_units g (suc c) ys ++ new_unit g n x ∷ []) (let e : suc c + length ys ≡ c + suc (length ys) = omega arith in e))

pub units_next : (g : ConfigParts) (programs : List (List Instruction)) (n : ℕ) (x : List Instruction) → slice_get programs n ≡ Some x
    → new_units g 0 (take (n + 1) programs) ≡ new_units g 0 (take n programs) ++ new_unit g n x ∷ []
units_next g programs n x found =
    let below = slice_get_within programs n x found in
    let count : 0 + length (take n programs) ≡ n = omega (arith, length-take-le n programs (let le : n ≤ length programs = omega arith in le)) in
    ap (new_units g 0) (take_more programs n x below ∙ ap (λ y. take n programs ++ y ∷ []) (get_or_from_slice_get programs n x x found))
    ∙ new_units-push g 0 (take n programs) x
    ∙ ap (λ m. new_units g 0 (take n programs) ++ new_unit g m x ∷ []) count

seat_found : (g : ConfigParts) (c : ℕ) (programs : List (List Instruction)) (d : ℕ) (s : SeatParts) → slice_get (new_seats g c programs) d ≡ Some s
    → (s.unit.core ≡ c + d) × (s.unit.config ≡ g)
seat_found g c [] d s e = absurd (cc)
seat_found g c (x ∷ xs) zero s e =
    let same : new_seat (new_unit g c x) ≡ s = cc in
    (sym (ap (λ (y : SeatParts). y.unit.core) same) ∙ (let n : c ≡ c + 0 = omega arith in n), sym (ap (λ (y : SeatParts). y.unit.config) same))
seat_found g c (x ∷ xs) (suc d) s e =
    let found = seat_found g (suc c) xs d s e in
    (found.0 ∙ (let n : suc c + d ≡ c + suc d = omega arith in n), found.1)

seen_opening : (g : ConfigParts) (c : ℕ) (programs : List (List Instruction)) → map seen (new_seats g c programs) ≡ map new_core programs
seen_opening g c [] = refl
seen_opening g c (x ∷ xs) = ap (λ us. new_core x ∷ us) (seen_opening g (suc c) xs)

-- ---- the slices

length-new_slices : (g : ConfigParts) (k : ℕ) → length (new_slices g k) ≡ k
length-new_slices g zero = refl
length-new_slices g (suc k) = omega (arith, length-append (new_slices g k) (new_slice g k ∷ []), length-new_slices g k)

pub found_in_push : {X : Type 0} (xs : List X) (x : X) (n : ℕ) (y : X) → slice_get (xs ++ x ∷ []) n ≡ Some y
    → (slice_get xs n ≡ Some y) ⊎ ((n ≡ length xs) × (y ≡ x))
found_in_push [] x zero y e = inr (refl, cc)
found_in_push [] x (suc n) y e = absurd (cc)
found_in_push (z ∷ zs) x zero y e = inl e
found_in_push (z ∷ zs) x (suc n) y e =
    elim (found_in_push zs x n y e) [ inl old ↦ inl old | inr new ↦ inr (ap suc new.0, new.1) ]

slice_found : (g : ConfigParts) (k n : ℕ) (s : SliceParts) → slice_get (new_slices g k) n ≡ Some s → (s.number ≡ n) × (s.config ≡ g)
slice_found g zero n s e = absurd (cc)
slice_found g (suc k) n s e =
    elim (found_in_push (new_slices g k) (new_slice g k) n s e) [
      | inl old ↦ slice_found g k n s old
      | inr new ↦ (ap (λ (x : SliceParts). x.number) new.1 ∙ sym (new.0 ∙ length-new_slices g k), ap (λ (x : SliceParts). x.config) new.1)
    ]

replicate-push : {X : Type 0} (k : ℕ) (x : X) → replicate k x ++ x ∷ [] ≡ replicate (suc k) x
replicate-push zero x = refl
replicate-push (suc k) x = ap (λ xs. x ∷ xs) (replicate-push k x)

abbrev seen_slice : SliceParts → Slice
seen_slice s = slice_of s.state

slices_opening : (g : ConfigParts) (k : ℕ) → map seen_slice (new_slices g k) ≡ replicate k empty_slice
slices_opening g zero = refl
slices_opening g (suc k) =
    map-append seen_slice (new_slices g k) (new_slice g k ∷ [])
    ∙ ap (λ ss. ss ++ empty_slice ∷ []) (slices_opening g k) ∙ replicate-push k empty_slice

-- ---- the machine

opening_placed : (programs : List (List Instruction)) (g : ConfigParts) → IsPlaced (opening_parts programs g)
opening_placed programs g = record {
  seats = λ c s found. let at = seat_found g 0 programs c s found in record { core = at.0 ∙ (let e : 0 + c ≡ c = omega arith in e); config = at.1 };
  slices = λ n s found. let at = slice_found g g.slices n s found in record { number = at.0; config = at.1 };
  count = length-new_slices g g.slices;
}

pub opening_world : (programs : List (List Instruction)) (g : ConfigParts) → world (opening_parts programs g) ≡ opening programs g.slices
opening_world programs g =
    ap (λ (cores : List Core). record { cores = cores; slices = map seen_slice (new_slices g g.slices) }) (seen_opening g 0 programs)
    ∙ ap (λ (slices : List Slice). record { cores = map new_core programs; slices = slices }) (slices_opening g g.slices)

programs_opening : (g : ConfigParts) (c : ℕ) (programs : List (List Instruction)) → map (λ (s : SeatParts). s.unit.program) (new_seats g c programs) ≡ programs
programs_opening g c [] = refl
programs_opening g c (x ∷ xs) = ap (λ ps. x ∷ ps) (programs_opening g (suc c) xs)

new_room : (g : ConfigParts) (c : ℕ) (programs : List (List Instruction)) (i : ℕ) (seat : SeatParts) → slice_get (new_seats g c programs) i ≡ Some seat → seat.unit.cache.capacity ≡ g.cache_lines
new_room g c [] i seat e = absurd cc
new_room g c (p ∷ ps) zero seat e = let one : new_seat (new_unit g c p) ≡ seat = cc in ap (λ (x : SeatParts). x.unit.cache.capacity) (sym one)
new_room g c (p ∷ ps) (suc i) seat e = new_room g (suc c) ps i seat e

pub opening_kept : (programs : List (List Instruction)) (g : ConfigParts) → IsMachine (opening_parts programs g)
opening_kept programs g = record {
  placed = opening_placed programs g;
  reached = reached_start (opening_parts programs g) (opening_world programs g ∙ ap (λ ps. opening ps g.slices) (sym (programs_opening g 0 programs)));
  room = new_room g 0 programs;
}
