-- What a store leaves of the stores that are kept by their words.
use Rattle.std.specs.Prelude.{◌≡◌, ℕ, ◌==◌, ◌&&◌, true, cond, Some}
use Rattle.std.specs.declared.cmp.Ordering.{Ordering}
use Rattle.std.specs.declared.cmp.Ordering.TheVariants.{Less, Equal, Greater}
use Rattle.std.specs.Ordering.{is_eq, nat_cmp, ordering_then}
use Rattle.std.specs.BTreeMap.{BTreeMap, Updates, get, is_at}
use Rattle.std.proofs.Common.{◌∙◌, ap, arith, refl}
use Rattle.std.proofs.lemmas.Bool.Decides.{nat_tests}
use Rattle.std.proofs.lemmas.Grind.{common_steps}
use Rattle.mem_op.specs.Consistency.{Operation, Loaded, Stored, Swapped, is_store_to, word_left}
use Rattle.mem_op.specs.Parts.{IdParts}
use Rattle.flat_replay.specs.Accesses.{address_of}
use Rattle.trace_replay.specs.Stores.{place_cmp}

both_equal : (o p : Ordering) → is_eq (ordering_then o p) ≡ (is_eq o && is_eq p)
both_equal Less p = refl
both_equal Equal p = refl
both_equal Greater p = refl

equal : (x y : ℕ) → is_eq (nat_cmp x y) ≡ (x == y)
equal x y = grind (arith, nat_tests, common_steps)

-- two keys are the same where their parts are
same_place : (a b v w : ℕ) → is_at (place_cmp (a, v)) (b, w) ≡ ((a == b) && (v == w))
same_place a b v w =
    both_equal (nat_cmp a b) (nat_cmp v w) ∙ ap (λ same. same && is_eq (nat_cmp v w)) (equal a b) ∙ ap (λ same. (a == b) && same) (equal v w)

pub kept : (operation : Operation) (m n : BTreeMap (ℕ × ℕ) IdParts) (id : IdParts) (key left : ℕ) → key ≡ address_of operation → left ≡ word_left operation
    → is_store_to key operation ≡ true → Updates place_cmp m n (key, left) (Some id) → (addr word : ℕ)
    → get place_cmp n (addr, word) ≡ cond (is_store_to addr operation && (word_left operation == word)) (Some id) (get place_cmp m (addr, word))
kept (Loaded a v) m n id key left at of is put addr word = absurd cc
kept (Stored a v) m n id key left at of is put addr word =
    put.0 (addr, word) ∙ ap (λ here. cond here (Some id) (get place_cmp m (addr, word)))
    (same_place key addr left word ∙ ap (λ k. (k == addr) && (left == word)) at ∙ ap (λ l. (a == addr) && (l == word)) of)
kept (Swapped a r v) m n id key left at of is put addr word =
    put.0 (addr, word) ∙ ap (λ here. cond here (Some id) (get place_cmp m (addr, word)))
    (same_place key addr left word ∙ ap (λ k. (k == addr) && (left == word)) at ∙ ap (λ l. (a == addr) && (l == word)) of)
