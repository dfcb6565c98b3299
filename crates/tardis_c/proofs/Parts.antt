-- The logs in a buffer, one after another.
use Rattle.std.proofs.Common.{◌≡◌, ℕ, zero, suc, ◌+◌, ◌<◌, ◌≤◌, List, [], ◌∷◌, ◌++◌, length, take, drop, get_or, Some, refl, sym, ap, subst, ◌∙◌, arith}
use Rattle.std.specs.Prelude.{All, slice_get, slice_range}
use Rattle.std.proofs.lemmas.List.{drop_more, take_all}
use Rattle.std.proofs.lemmas.List.Elements.{All-more}
use Rattle.std.proofs.lemmas.Option.{get_or_from_slice_get, slice_get-get_or, slice_get_within}
use Rattle.tardis_c.specs.Faults.{AreOperations, IsFaultOf, IsFirstBad, IsFirstFault}
use Rattle.tardis_c.specs.Parts.{AreEndsFrom, parts_from, parts_of}
use Rattle.tardis_c.specs.declared.operations_fault.OperationsFault.{OperationsFault}
use Rattle.tardis_c.specs.declared.operations_fault.OperationsFault.TheVariants.{OutOfMemory, OutOfRange, TooMany}
use Rattle.tardis_c.proofs.Cut.{ends_within, parts_many}

-- ---- what stands first in the rest of a list

pub record StandsAt {X : Type 0} (xs : List X) (k : ℕ) (x : X) (ys : List X) : Type 0 where
  pub there : slice_get xs k ≡ Some x
  pub taken : take (suc k) xs ≡ take k xs ++ x ∷ []
  pub rest : drop (suc k) xs ≡ ys

pub stands_at : {X : Type 0} → (xs : List X) (k : ℕ) (x : X) (ys : List X) → drop k xs ≡ x ∷ ys → StandsAt xs k x ys
stands_at [] zero x ys h = absurd cc
stands_at [] (suc k) x ys h = absurd cc
stands_at (z ∷ xs) zero x ys h = record {
  there = cc;
  taken = cc;
  rest = cc;
}
stands_at {X = X} (z ∷ xs) (suc k) x ys h =
    let later = stands_at xs k x ys h in
    record {
      there = later.there;
      taken = ap (λ (l : List X). z ∷ l) later.taken;
      rest = later.rest;
    }

-- ---- one more operation

pub more_good : {X : Type 0} → (IsOne : X → Type 0) (ops : List X) (i : ℕ) (d : X) → i < length ops → All IsOne (take i ops) → IsOne (get_or ops i d) → All IsOne (take (i + 1) ops)
more_good IsOne ops i d within all good = All-more IsOne ops i d within all good

pub first_bad_there : {X : Type 0} → (IsOne : X → Type 0) (ops : List X) (i : ℕ) (d : X) → i < length ops → All IsOne (take i ops) → (IsOne (get_or ops i d) → ⊥) → IsFirstBad IsOne ops i
first_bad_there IsOne ops i d within all bad = record { before = all; op = get_or ops i d; there = slice_get-get_or ops i d within; bad = bad }

-- ---- one more log

pub record IsNextPart {X : Type 0} (buffer : List X) (ends : List ℕ) (core from end : ℕ) : Type 0 where
  pub begins : from ≤ end
  pub ended : end ≤ length buffer
  pub left : AreEndsFrom end (length buffer) (drop (core + 1) ends)
  pub there : slice_get (parts_of buffer ends) core ≡ Some (slice_range buffer from end)
  pub taken : take (core + 1) (parts_of buffer ends) ≡ take core (parts_of buffer ends) ++ slice_range buffer from end ∷ []
  pub rest : drop (core + 1) (parts_of buffer ends) ≡ parts_from end buffer (drop (core + 1) ends)

pub next_part : {X : Type 0} → (buffer : List X) (ends : List ℕ) (core from end : ℕ) → core < length ends → end ≡ get_or ends core 0 → AreEndsFrom from (length buffer) (drop core ends)
    → drop core (parts_of buffer ends) ≡ parts_from from buffer (drop core ends) → IsNextPart buffer ends core from end
next_part buffer ends core from end within is left rest =
    let more : drop core ends ≡ end ∷ drop (core + 1) ends = drop_more ends core 0 within ∙ ap (λ (e : ℕ). e ∷ drop (core + 1) ends) (sym is) in
    let bounds : AreEndsFrom from (length buffer) (end ∷ drop (core + 1) ends) = subst (λ (es : List ℕ). AreEndsFrom from (length buffer) es) more left in
    let parts : drop core (parts_of buffer ends) ≡ slice_range buffer from end ∷ parts_from end buffer (drop (core + 1) ends) = rest ∙ ap (parts_from from buffer) more in
    let stands = stands_at (parts_of buffer ends) core (slice_range buffer from end) (parts_from end buffer (drop (core + 1) ends)) parts in
    let next : suc core ≡ core + 1 = omega arith in
    record {
      begins = bounds.0;
      ended = ends_within end (length buffer) (drop (core + 1) ends) bounds.1;
      left = bounds.1;
      there = stands.there;
      taken = subst (λ (n : ℕ). take n (parts_of buffer ends) ≡ take core (parts_of buffer ends) ++ slice_range buffer from end ∷ []) next stands.taken;
      rest = subst (λ (n : ℕ). drop n (parts_of buffer ends) ≡ parts_from end buffer (drop (core + 1) ends)) next stands.rest;
    }

pub all_parts : {X : Type 0} → (buffer : List X) (ends : List ℕ) (core : ℕ) → core ≡ length ends → take core (parts_of buffer ends) ≡ parts_of buffer ends
all_parts buffer ends core is = take_all core (parts_of buffer ends) (let many = parts_many 0 buffer ends in omega (arith, is, many))

-- a fault of the next core is the first
pub first_fault : {X : Type 0} → (IsOne : X → Type 0) (parts : List (List X)) (core : ℕ) (part : List X) (fault : OperationsFault) → All (AreOperations IsOne) (take core parts) → slice_get parts core ≡ Some part → IsFaultOf IsOne core part fault → IsFirstFault IsOne parts fault
first_fault IsOne parts core part OutOfMemory all there is = absurd is
first_fault IsOne parts core part (TooMany at) all there (same, many) = subst (λ n. IsFirstFault IsOne parts (TooMany n)) (sym same) (all, (part, there, many))
first_fault IsOne parts core part (OutOfRange at index) all there (same, few, bad) = subst (λ n. IsFirstFault IsOne parts (OutOfRange n index)) (sym same) (all, (part, there, few, bad))

-- and it isn't want of memory
pub not_memory : {X : Type 0} → (IsOne : X → Type 0) (core : ℕ) (part : List X) (fault : OperationsFault) → IsFaultOf IsOne core part fault → fault ≡ OutOfMemory → ⊥
not_memory IsOne core part fault is memory = subst (λ f. IsFaultOf IsOne core part f) memory is

-- what all elements are, one is
at : {X : Type 0} → (P : X → Type 0) (xs : List X) (i : ℕ) (x : X) → All P xs → slice_get xs i ≡ Some x → P x
at P xs i x all there = subst P (get_or_from_slice_get xs i x x there) (all i x (slice_get_within xs i x there))

-- where there is a first fault, lack of memory aside, the operations of some core are none
pub first_fault_bad : {X : Type 0} → (IsOne : X → Type 0) (parts : List (List X)) (fault : OperationsFault) → IsFirstFault IsOne parts fault → (fault ≡ OutOfMemory → ⊥) → All (AreOperations IsOne) parts → ⊥
first_fault_bad IsOne parts OutOfMemory first other all = other refl
first_fault_bad IsOne parts (TooMany core) (before, (part, there, many)) other all = (let are = at (AreOperations IsOne) parts core part all there in omega (arith, many, are.0))
first_fault_bad IsOne parts (OutOfRange core index) (before, (part, there, few, bad)) other all =
    bad.bad (at IsOne part index bad.op (at (AreOperations IsOne) parts core part all there).1 bad.there)
