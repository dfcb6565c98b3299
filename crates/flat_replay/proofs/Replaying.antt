-- The pass over an order that counts on for each core and keeps one memory.
use Rattle.std.specs.Prelude.{◌≡◌, ◌↔◌, ℕ, zero, suc, ◌+◌, ◌<◌, List, [], ◌∷◌, ◌++◌, refl, Some, slice_index, slice_set, length, map}
use Rattle.std.specs.List.{filter_map, cons_option, range_with_len}
use Rattle.std.proofs.Common.{sym, ◌∙◌, ap, subst}
use Rattle.std.proofs.lemmas.Grind.{same_number_lists}
use Rattle.std.proofs.lemmas.List.{length-map}
use Rattle.std.proofs.lemmas.List.Elements.{filter_map-append}
use Rattle.std.proofs.lemmas.List.FromFn.{length-range_with_len}
use Rattle.mem_op.specs.declared.id.OpId.{OpId}
use Rattle.mem_op.specs.Consistency.{Operation, operation_at, last_value, GivesFlatAnswers, IsSequentialOrder}
use Rattle.flat_replay.specs.Memory.{IsAnsweredBy, after}
use Rattle.flat_replay.proofs.Flat.{after_is, answered, flat_push}
use Rattle.flat_replay.proofs.Turns.{InTurn, number_of, in_turn, from_turn, in_turn-more}

abbrev pub done : List (List Operation) → List OpId → List Operation
done cores ids = filter_map (operation_at cores) ids

-- after these ids: for each core which index comes next, and the memory
pub record Replayed (cores : List (List Operation)) (ids : List OpId) (next : List ℕ) (memory : ℕ → ℕ) : Type 0 where
  pub turn : InTurn (slice_index next) ids
  pub flat : GivesFlatAnswers (done cores ids)
  pub words : (addr : ℕ) → memory addr ≡ last_value addr (done cores ids)

pub done-append : (cores : List (List Operation)) (before : List OpId) (id : OpId) (rest : List OpId) (y : Operation) → Some y ≡ operation_at cores id
    → done cores (before ++ id ∷ rest) ≡ done cores before ++ y ∷ done cores rest
done-append cores before id rest y there =
    filter_map-append (operation_at cores) before (id ∷ rest) ∙ ap (λ o. done cores before ++ cons_option o (done cores rest)) (sym there)

-- an id that is its core's next, and whose operation finds what it may
pub replayed-more : (cores : List (List Operation)) (ids : List OpId) (next : List ℕ) (m n : ℕ → ℕ) (id : OpId) (y : Operation) → Replayed cores ids next m
    → Some y ≡ operation_at cores id → id.core < length next → id.index ≡ slice_index next id.core → IsAnsweredBy m y
    → ((addr : ℕ) → n addr ≡ after y m addr) → Replayed cores (ids ++ id ∷ []) (slice_set next id.core (id.index + 1)) n
replayed-more cores ids next m n id y h there within is_next answers left = record {
  turn = in_turn-more next ids id h.turn within is_next;
  flat = subst GivesFlatAnswers (sym pushed) (flat_push (done cores ids) y h.flat (answered y m (λ addr. last_value addr (done cores ids)) h.words answers));
  words = λ addr. left addr ∙ after_is y m (done cores ids) addr (h.words addr) ∙ ap (last_value addr) (sym pushed);
}
  where
    pushed : done cores (ids ++ id ∷ []) ≡ done cores ids ++ y ∷ []
    pushed = done-append cores ids id [] y there

-- an order is sequential where at its end all operations of each core are done
pub replayed-all : (cores : List (List Operation)) (order : List OpId) (next : List ℕ) (memory : ℕ → ℕ) → Replayed cores order next memory
    → length next ≡ length cores → (next ≡ map length cores) ↔ IsSequentialOrder cores order
replayed-all cores order next memory h many = (
  λ all. (let s = from_turn cores order (λ core. h.turn core ∙ ap (λ (ns : List ℕ). range_with_len 0 (slice_index ns core)) all ∙ ap (range_with_len 0) (number_is cores core)) in
      record { serial = s.0; program = s.1; flat = h.flat }),
  λ s. same_number_lists next (map length cores) (many ∙ sym (length-map cores length)) (λ core l.
      sym (length-range_with_len 0 (slice_index next core)) ∙ ap length (sym (h.turn core) ∙ in_turn cores order s.serial s.program core)
      ∙ length-range_with_len 0 (number_of cores core) ∙ sym (number_is cores core)),
)
  where
    number_is : (cores : List (List Operation)) (core : ℕ) → slice_index (map length cores) core ≡ number_of cores core
    number_is [] core = refl
    number_is (operations ∷ cores) zero = refl
    number_is (operations ∷ cores) (suc core) = number_is cores core
