-- A trace whose cores grow.
use Rattle.std.proofs.Common.{◌≡◌, ◌≤◌, ◌<◌, ℕ, zero, suc, List, [], ◌∷◌, ◌++◌, length, refl, ap, ◌∙◌, arith, length-append, slice_index_or, slice_set, vec_len, All, ◌↔◌, sym, inl, inr}
use Rattle.std.proofs.lemmas.Bool.{cases_lt}
use Rattle.std.specs.Global.{Vec}
use Rattle.mem_op.specs.Consistency.{Operation}
use Rattle.mem_op.specs.Limits.{operation_limit}
use Rattle.flat_replay.specs.Accesses.{operation_lists}
use Rattle.flat_replay.specs.Accesses.{own_operations}
use Rattle.trace.specs.Growing.{with_operation, IsOfSize, SameOperations}
use Rattle.trace.specs.inner.Widening.{IsWidened}

-- the operations that the vectors hold, with one more vector

pub lists-push : (cores : List (Vec Operation)) (more : Vec Operation)
    → operation_lists (cores ++ more ∷ []) ≡ operation_lists cores ++ more.items ∷ []
lists-push [] more = refl
lists-push (core ∷ cores) more = ap (λ rest. core.items ∷ rest) (lists-push cores more)

pub length_lists : (cores : List (Vec Operation)) → length (operation_lists cores) ≡ length cores
length_lists [] = refl
length_lists (core ∷ cores) = ap suc (length_lists cores)

own-lists : (cores : List (Vec Operation)) (core : ℕ) (d : Vec Operation) → core < length cores
    → length (own_operations (operation_lists cores) core) ≡ vec_len (slice_index_or cores core d)
own-lists [] core d l = absurd (omega arith)
own-lists (own ∷ others) zero d l = sym own.ok.0
own-lists (own ∷ others) (suc core) d l = own-lists others core d (omega arith)

none_past : (cores : List (Vec Operation)) (core : ℕ) → length cores ≤ core → own_operations (operation_lists cores) core ≡ []
none_past [] core l = refl
none_past (own ∷ others) zero l = absurd (omega arith)
none_past (own ∷ others) (suc core) l = none_past others core (omega arith)

some_vec : (cores : List (Vec Operation)) (core : ℕ) → core < length cores → Vec Operation
some_vec [] core l = absurd (omega arith)
some_vec (own ∷ others) core l = own

-- how many operations there may be, by the vectors that hold them
pub size_is : (cores : List (Vec Operation))
    → IsOfSize (operation_lists cores) ↔ ((length cores ≤ 64) × All (λ core. vec_len core ≤ operation_limit) cores)
size_is cores = (
  λ size. (
    omega (arith, size.few, length_lists cores),
    λ core d l. (let n = own-lists cores core d l in let short = size.short core in omega arith),
  ),
  λ h. record {
    few = omega (arith, h.0, length_lists cores);
    short = λ core. elim (cases_lt core (length cores)) [
      | inl l ↦ (let d = some_vec cores core l in let n = own-lists cores core d l in let short = h.1 core d l in omega arith)
      | inr l ↦ rw (none_past cores core l) (omega arith)
    ];
  },
)

-- a core that has no operation may be there or not

with_operation-empty : (core : ℕ) (operation : Operation) (cores : List (List Operation)) → length cores ≤ core
    → with_operation core operation (cores ++ [] ∷ []) ≡ with_operation core operation cores
with_operation-empty zero operation [] h = refl
with_operation-empty zero operation (own ∷ others) h = absurd (omega arith)
with_operation-empty (suc core) operation [] h = refl
with_operation-empty (suc core) operation (own ∷ others) h =
    ap (λ rest. own ∷ rest) (with_operation-empty core operation others (omega arith))

same_with_empty : (cores : List (List Operation)) → SameOperations cores (cores ++ [] ∷ [])
same_with_empty [] zero = refl
same_with_empty [] (suc core) = refl
same_with_empty (own ∷ others) zero = refl
same_with_empty (own ∷ others) (suc core) = same_with_empty others core

pub IsWidened_refl : (core : ℕ) (cores : List (List Operation)) → IsWidened core cores cores
IsWidened_refl core cores = record { same = λ k. refl; alike = λ operation. refl }

pub IsWidened_push : (core : ℕ) (old : List (List Operation)) (cores : List (Vec Operation)) (more : Vec Operation)
    → more.items ≡ [] → length cores ≤ core → IsWidened core old (operation_lists cores)
    → IsWidened core old (operation_lists (cores ++ more ∷ []))
IsWidened_push core old cores more none short widened =
    rw (lists-push cores more, none) record {
      same = λ k. same_with_empty (operation_lists cores) k ∙ widened.same k;
      alike = λ operation.
          with_operation-empty core operation (operation_lists cores) (omega (arith, length_lists cores))
          ∙ widened.alike operation;
    }

-- cores of no operation change no core's number of operations
pub size_of_widened : (core : ℕ) (old new : List (List Operation))
    → IsWidened core old new → IsOfSize old → length new ≤ 64 → IsOfSize new
size_of_widened core old new widened size few = record {
  few = few;
  short = λ k. rw (widened.same k) (size.short k);
}

-- one more operation of a core that is there

pub lists_set : (cores : List (Vec Operation)) (place : ℕ) (operation : Operation) (own more : Vec Operation)
    → place < length cores → more.items ≡ (slice_index_or cores place own).items ++ operation ∷ []
    → operation_lists (slice_set cores place more) ≡ with_operation place operation (operation_lists cores)
lists_set [] place operation own more there items = absurd (omega arith)
lists_set (core ∷ cores) zero operation own more there items = ap (λ first. first ∷ operation_lists cores) items
lists_set (core ∷ cores) (suc place) operation own more there items =
    ap (λ rest. core.items ∷ rest) (lists_set cores place operation own more (omega arith) items)

pub lists_kept : (cores : List (Vec Operation)) (place : ℕ) (own more : Vec Operation)
    → place < length cores → more.items ≡ (slice_index_or cores place own).items
    → operation_lists (slice_set cores place more) ≡ operation_lists cores
lists_kept [] place own more there items = absurd (omega arith)
lists_kept (core ∷ cores) zero own more there items = ap (λ first. first ∷ operation_lists cores) items
lists_kept (core ∷ cores) (suc place) own more there items =
    ap (λ rest. core.items ∷ rest) (lists_kept cores place own more (omega arith) items)

-- how many there are then

few_with : (limit core : ℕ) (operation : Operation) (cores : List (List Operation))
    → core < limit → length cores ≤ limit → length (with_operation core operation cores) ≤ limit
few_with zero core operation cores h few = absurd (omega arith)
few_with (suc limit) zero operation [] h few = omega arith
few_with (suc limit) (suc core) operation [] h few =
    omega (arith, few_with limit core operation [] (omega arith) (omega arith))
few_with (suc limit) zero operation (own ∷ others) h few = omega arith
few_with (suc limit) (suc core) operation (own ∷ others) h few =
    omega (arith, few_with limit core operation others (omega arith) (omega arith))

short_with : (limit core : ℕ) (operation : Operation) (cores : List (List Operation))
    → length (own_operations cores core) < limit → ((k : ℕ) → length (own_operations cores k) ≤ limit)
    → (k : ℕ) → length (own_operations (with_operation core operation cores) k) ≤ limit
short_with limit zero operation [] room short zero = omega arith
short_with limit zero operation [] room short (suc k) = omega arith
short_with limit (suc core) operation [] room short zero = omega arith
short_with limit (suc core) operation [] room short (suc k) =
    short_with limit core operation [] room (λ j. omega arith) k
short_with limit zero operation (own ∷ others) room short zero = omega (arith, length-append own (operation ∷ []))
short_with limit zero operation (own ∷ others) room short (suc k) = short (suc k)
short_with limit (suc core) operation (own ∷ others) room short zero = short zero
short_with limit (suc core) operation (own ∷ others) room short (suc k) =
    short_with limit core operation others room (λ j. short (suc j)) k

pub size_with : (core : ℕ) (operation : Operation) (cores : List (List Operation))
    → IsOfSize cores → core < 64 → length (own_operations cores core) < operation_limit
    → IsOfSize (with_operation core operation cores)
size_with core operation cores size low room = record {
  few = few_with 64 core operation cores low size.few;
  short = short_with operation_limit core operation cores room size.short;
}
