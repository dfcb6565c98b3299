-- A state of a replay, one step after another.
use Rattle.std.specs.Prelude.{◌≡◌, ◌≢◌, ℕ, ◌+◌, ◌-◌, ◌^◌, ◌<◌, ◌==◌, min, Bool, true, false, cond, List, [], ◌∷◌, ◌++◌, refl, None, Some, length, count_by, slice_index, slice_set}
use lib.ListN.{replicate}
use Rattle.std.proofs.Common.{sym, ◌∙◌, ap, arith, get_or-set_same, get_or-set_other, length-append}
use Rattle.std.proofs.lemmas.Bool.{eq-eqb, eqb-true, false≢true}
use Rattle.std.proofs.lemmas.List.{get_or-replicate, length-set}
use Rattle.mem_op.specs.Consistency.{Operation, Loaded, Stored, Swapped, is_store_to, last_value, word_left}
use Rattle.mem_op.specs.Parts.{IdParts}
use Rattle.flat_replay.specs.Accesses.{address_of, word_read}
use Rattle.flat_replay.specs.Memory.{IsAnsweredBy, last_at, word_after, word_at}
use Rattle.flat_replay.proofs.Flat.{answered}
use Rattle.trace_replay.specs.Parts.{WrongParts}
use Rattle.trace_replay.specs.Steps.{Step, is_of_core, next_step, operations}
use Rattle.trace_replay.specs.States.{counted, counted_id, stored_by, StandsFor, IsWrong}
use Rattle.trace_replay.specs.inner.Wrong.{IsWrongIn}
use Rattle.trace_replay.specs.declared.replayer.Replayer.{Replayer}
use Rattle.trace_replay.proofs.Memories.{last_store-push, last_word}
use Rattle.trace_replay.proofs.Sequential.{answered_last, count_push, counted_push, in_order, order_push}

words_are : (r : Replayer) (steps : List Step) → StandsFor r steps → (addr : ℕ) → word_at r.memory addr ≡ last_value addr (operations steps)
words_are r steps stands addr = ap word_after (stands.memory addr) ∙ last_word addr steps

-- ---- at first

pub nothing_performed : (r : Replayer) → r.counts ≡ replicate 64 0 → ((addr : ℕ) → last_at r.memory addr ≡ None) → r.count ≡ 0 → StandsFor r []
nothing_performed r counts empty count = record {
  counted_ids = tt;
  order = in_order [] tt (record { loads = λ k addr value e. absurd cc; swaps = λ k addr read stored e. absurd cc });
  cores = ap length counts;
  counts = λ core low. ap (λ (ns : List ℕ). slice_index ns core) counts ∙ get_or-replicate 64 core 0 0 low;
  memory = empty;
  count = count;
}

-- ---- one step

-- a memory whose stores stay
pub stands_kept : (r s : Replayer) (steps : List Step) → StandsFor r steps → s.counts ≡ r.counts → ((addr : ℕ) → last_at s.memory addr ≡ last_at r.memory addr)
    → s.count ≡ r.count → StandsFor s steps
stands_kept r s steps stands counts same count = record {
  counted_ids = stands.counted_ids;
  order = stands.order;
  cores = ap length counts ∙ stands.cores;
  counts = λ core low. ap (λ (ns : List ℕ). slice_index ns core) counts ∙ stands.counts core low;
  memory = λ addr. same addr ∙ stands.memory addr;
  count = count ∙ stands.count;
}

abbrev pub with_index : ℕ → ℕ → IdParts
with_index core n = record { core = core; index = n }

-- the id that is told of the next operation of a core
pub told_id : (r : Replayer) (steps : List Step) (core place : ℕ) (operation : Operation) → StandsFor r steps → core < 64 → place ≡ core
    → with_index core (slice_index r.counts place) ≡ counted_id (next_step steps core operation).id
told_id r steps core place operation stands low at = ap (with_index core) (ap (slice_index r.counts) at ∙ stands.counts core low)

counts_next : (r : Replayer) (steps : List Step) (core place n : ℕ) (operation : Operation) → StandsFor r steps → core < 64 → place ≡ core
    → n ≡ min (slice_index r.counts place + 1) (2 ^ 64 - 1) → (k : ℕ) → k < 64
    → slice_index (slice_set r.counts place n) k ≡ counted (count_by (is_of_core k) (steps ++ next_step steps core operation ∷ []))
counts_next r steps core place n operation stands low at is k below = go (core == k) refl
  where
    go : (b : Bool) → (core == k) ≡ b → slice_index (slice_set r.counts place n) k ≡ counted (count_by (is_of_core k) (steps ++ next_step steps core operation ∷ []))
    go true same =
        let one : core ≡ k = eqb-true core k same in
        let here : place ≡ k = at ∙ one in
        let there : k < length r.counts = omega (arith, stands.cores, below) in
        let read : slice_index (slice_set r.counts place n) k ≡ n = ap (λ p. slice_index (slice_set r.counts p n) k) here ∙ get_or-set_same r.counts k n 0 there in
        let was : slice_index r.counts place ≡ counted (count_by (is_of_core k) steps) = ap (slice_index r.counts) here ∙ stands.counts k below in
        let more = count_push k steps (next_step steps core operation) true same in
        omega (arith, read, was, more, is)
    go false other =
        let apart : k ≢ place = λ e. false≢true (sym other ∙ eq-eqb core k (sym (e ∙ at))) in
        let read : slice_index (slice_set r.counts place n) k ≡ slice_index r.counts k = get_or-set_other r.counts place k n 0 apart in
        let more = count_push k steps (next_step steps core operation) false other in
        omega (arith, read, stands.counts k below, more)

-- an operation that finds the word that it read
pub stands_next : (r s : Replayer) (steps : List Step) (core : ℕ) (operation : Operation) → StandsFor r steps → core < 64
    → IsAnsweredBy (word_at r.memory) operation
    → (id : IdParts) → id ≡ counted_id (next_step steps core operation).id
    → ((addr : ℕ) → last_at s.memory addr ≡ cond (is_store_to addr operation) (Some (word_left operation, id)) (last_at r.memory addr))
    → (place n : ℕ) → place ≡ core → n ≡ min (slice_index r.counts place + 1) (2 ^ 64 - 1) → s.counts ≡ slice_set r.counts place n
    → s.count ≡ min (r.count + 1) (2 ^ 64 - 1)
    → StandsFor s (steps ++ next_step steps core operation ∷ [])
stands_next r s steps core operation stands low found id told memory place n at is counts count = record {
  counted_ids = counted_push [] steps core operation stands.counted_ids;
  order = order_push steps core operation stands.counted_ids stands.order
      (answered operation (word_at r.memory) (λ addr. last_value addr (operations steps)) (words_are r steps stands) found);
  cores = ap length counts ∙ length-set r.counts place n ∙ stands.cores;
  counts = λ k below. ap (λ (ns : List ℕ). slice_index ns k) counts ∙ counts_next r steps core place n operation stands low at is k below;
  memory = λ addr. memory addr ∙ ap (λ (i : IdParts). cond (is_store_to addr operation) (Some (word_left operation, i)) (last_at r.memory addr)) told
      ∙ ap (cond (is_store_to addr operation) (Some (stored_by (next_step steps core operation)))) (stands.memory addr)
      ∙ sym (last_store-push addr steps (next_step steps core operation));
  count = omega (arith, count, stands.count, length-append steps (next_step steps core operation ∷ []));
}

-- one that doesn't
pub wrong_next : (r : Replayer) (steps : List Step) (core : ℕ) (operation : Operation) (id : IdParts) (wrong : WrongParts) → StandsFor r steps
    → id ≡ counted_id (next_step steps core operation).id → IsWrongIn r.memory id operation wrong → IsWrong steps core operation wrong
wrong_next r steps core operation id wrong stands is in_memory = record {
  isnt = λ order. in_memory.isnt (answered operation (λ addr. last_value addr (operations steps)) (word_at r.memory)
      (λ addr. sym (words_are r steps stands addr)) (answered_last steps core operation stands.counted_ids order));
  id = in_memory.id_is ∙ is;
  addr = in_memory.addr;
  read = in_memory.read;
  last = in_memory.last ∙ stands.memory wrong.addr;
  differs = λ same. in_memory.isnt (finds operation (word_at r.memory) wrong.read in_memory.read
      (same ∙ ap word_after in_memory.last ∙ ap (word_at r.memory) in_memory.addr));
}
  where
    finds : (y : Operation) (m : ℕ → ℕ) (read : ℕ) → word_read y ≡ Some read → read ≡ m (address_of y) → IsAnsweredBy m y
    finds (Loaded a v) m read is h = (let same : v ≡ read = cc in same ∙ h)
    finds (Stored a v) m read is h = tt
    finds (Swapped a r v) m read is h = (let same : r ≡ read = cc in same ∙ h)
