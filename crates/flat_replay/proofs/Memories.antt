-- What an operation leaves in a memory.
use Rattle.std.specs.Prelude.{◌≡◌, ℕ, ◌==◌, Bool, true, false, cond, refl, Some}
use Rattle.std.specs.Ordering.{nat_cmp}
use Rattle.std.specs.BTreeMap.{BTreeMap, Updates, get}
use Rattle.std.proofs.Common.{◌∙◌, ap, arith}
use Rattle.std.proofs.lemmas.Grind.{common_steps}
use Rattle.std.proofs.lemmas.Bool.Decides.{nat_tests}
use Rattle.mem_op.specs.Consistency.{Operation, Loaded, Stored, Swapped, is_store_to, word_left}
use Rattle.flat_replay.specs.Accesses.{address_of}
use Rattle.flat_replay.specs.Memory.{after, last_at, word_after, word_at}
use Rattle.flat_replay.specs.declared.memory.Memory.{Memory}

module _ {I : Type 0} where
  -- a store that is put at its address
  pub put_at : (y : Operation) (m n : BTreeMap ℕ (ℕ × I)) (id : I) (key word : ℕ) → key ≡ address_of y → word ≡ word_left y → is_store_to key y ≡ true
      → Updates nat_cmp m n key (Some (word, id)) → (addr : ℕ) → get nat_cmp n addr ≡ cond (is_store_to addr y) (Some (word_left y, id)) (get nat_cmp m addr)
  put_at (Loaded a v) m n id key word at of is put addr = absurd cc
  put_at (Stored a v) m n id key word at of is put addr = let here = put.0 addr in grind (arith, nat_tests, common_steps)
  put_at (Swapped a r v) m n id key word at of is put addr = let here = put.0 addr in grind (arith, nat_tests, common_steps)

  -- what is performed leaves the memory after it
  pub word_at-after : (y : Operation) (m n : Memory I) (id : I) → ((addr : ℕ) → last_at n addr ≡ cond (is_store_to addr y) (Some (word_left y, id)) (last_at m addr))
      → (addr : ℕ) → word_at n addr ≡ after y (word_at m) addr
  word_at-after y m n id performed addr = ap word_after (performed addr) ∙ by_kind y
    where
      stored : (b : Bool) (v : ℕ) → word_after (cond b (Some (v, id)) (last_at m addr)) ≡ cond b v (word_at m addr)
      stored true v = refl
      stored false v = refl

      by_kind : (y : Operation) → word_after (cond (is_store_to addr y) (Some (word_left y, id)) (last_at m addr)) ≡ after y (word_at m) addr
      by_kind (Loaded a v) = refl
      by_kind (Stored a v) = stored (a == addr) v
      by_kind (Swapped a r v) = stored (a == addr) v
