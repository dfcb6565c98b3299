-- A core moves on over `ai` and `jz` until it rests.
use Rattle.std.specs.Prelude.{◌≡◌, ℕ, zero, suc, ◌+◌, ◌<◌, ◌≤◌, Bool, true, false, ◌==◌, if◌then◌else◌, List, length, Option, Some, None, IsSome, is_some, option_and_then, slice_get, refl, ◌⊎◌}
use Rattle.std.specs.Option.{option_map_or}
use Rattle.std.proofs.Common.{sym, ◌∙◌, ap, arith, inl, inr}
use Rattle.std.proofs.lemmas.Option.{slice_get_past, slice_get_within, slice_get_cases}
use Rattle.mem_op.specs.declared.id.Op.{Op}
use Rattle.core_program.specs.declared.instruction.Instruction.{Instruction}
use Rattle.core_program.specs.declared.instruction.Instruction.TheVariants.{Load, Store, StoreRegister, Add, SkipIfZero, Swap}
use Rattle.core_program.specs.State.{State, reg}
use Rattle.core_program.specs.Shape.{IsProgram, skips_past, touches_memory}
use Rattle.core_program.specs.Running.{issued, after, next_op, IsAtRest, rest_within, at_rest}

-- each instruction leads at least one further
pub leads_on : (i : Instruction) (x : ℕ) (s : State) → s.position + 1 ≤ (after i x s).position
leads_on (Load to addr) x s = omega arith
leads_on (Store addr value) x s = omega arith
leads_on (StoreRegister addr from) x s = omega arith
leads_on (Add to from value) x s = omega arith
leads_on (Swap to addr value) x s = omega arith
leads_on (SkipIfZero tested skip) x s = go (reg s tested == 0)
  where
    go : (b : Bool) → s.position + 1 ≤ s.position + (if b then 1 + skip else 1)
    go true = omega arith
    go false = omega arith

within_of : (count i skip : ℕ) → skips_past count i (SkipIfZero 0 skip) ≡ false → i + 1 + skip ≤ count
within_of count i skip h = grind (arith, h)

-- no instruction of a program leads past its end
pub leads_inside : (p : List Instruction) (i : Instruction) (x : ℕ) (s : State) → IsProgram p → slice_get p s.position ≡ Some i → (after i x s).position ≤ length p
leads_inside p (Load to addr) x s h e = let inside : s.position < length p = slice_get_within p s.position _ e in omega arith
leads_inside p (Store addr value) x s h e = let inside : s.position < length p = slice_get_within p s.position _ e in omega arith
leads_inside p (StoreRegister addr from) x s h e = let inside : s.position < length p = slice_get_within p s.position _ e in omega arith
leads_inside p (Add to from value) x s h e = let inside : s.position < length p = slice_get_within p s.position _ e in omega arith
leads_inside p (Swap to addr value) x s h e = let inside : s.position < length p = slice_get_within p s.position _ e in omega arith
leads_inside p (SkipIfZero tested skip) x s h e =
    let inside : s.position < length p = slice_get_within p s.position _ e in
    let far : skips_past (length p) s.position (SkipIfZero tested skip) ≡ false = sym (ap (λ o. option_map_or (skips_past (length p) s.position) o false) e) ∙ h.inside s.position in
    go (reg s tested == 0) inside (within_of (length p) s.position skip far)
  where
    go : (b : Bool) → s.position < length p → s.position + 1 + skip ≤ length p → s.position + (if b then 1 + skip else 1) ≤ length p
    go true inside far = omega arith
    go false inside far = omega arith

-- the step of `rest_within`, at what stands at the position
abbrev pub moved : (Instruction → State) → State → Option Instruction → State
moved behind s next = option_map_or (λ i. if is_some (issued i s) then s else behind i) next s

moved-same : (f g : Instruction → State) (s : State) (o : Option Instruction) → ((i : Instruction) → f i ≡ g i) → moved f s o ≡ moved g s o
moved-same f g s None e = refl
moved-same f g s (Some i) e = ap (λ t. if is_some (issued i s) then s else t) (e i)

-- that many steps are enough to come to rest
pub rest_within-enough : (n m : ℕ) (p : List Instruction) (s : State) → length p ≤ n + s.position → length p ≤ m + s.position → rest_within n p s ≡ rest_within m p s
rest_within-enough zero zero p s h k = refl
rest_within-enough zero (suc m) p s h k = sym (ap (moved (λ i. rest_within m p (after i 0 s)) s) (slice_get_past p s.position (omega arith)))
rest_within-enough (suc n) zero p s h k = ap (moved (λ i. rest_within n p (after i 0 s)) s) (slice_get_past p s.position (omega arith))
rest_within-enough (suc n) (suc m) p s h k =
    moved-same (λ i. rest_within n p (after i 0 s)) (λ i. rest_within m p (after i 0 s)) s (slice_get p s.position)
    (λ i. let on : s.position + 1 ≤ (after i 0 s).position = leads_on i 0 s in rest_within-enough n m p (after i 0 s) (omega arith) (omega arith))

-- one step more than enough is a step and then enough
rest_within-suc : (n : ℕ) (p : List Instruction) (s : State) → length p ≤ n + s.position → rest_within n p s ≡ moved (λ i. rest_within n p (after i 0 s)) s (slice_get p s.position)
rest_within-suc n p s h = rest_within-enough n (suc n) p s h (omega arith)

-- a core that is to move on does so
pub at_rest-moves : (p : List Instruction) (s : State) (i : Instruction) → slice_get p s.position ≡ Some i → issued i s ≡ None → at_rest p s ≡ at_rest p (after i 0 s)
at_rest-moves p s i e silent =
    rest_within-suc (length p) p s (omega arith)
    ∙ ap (moved (λ j. rest_within (length p) p (after j 0 s)) s) e
    ∙ ap (λ (o : Option Op). if is_some o then s else rest_within (length p) p (after i 0 s)) silent

-- a core stays where an operation is next
pub at_rest-waits : (p : List Instruction) (s : State) → IsSome (next_op p s) → at_rest p s ≡ s
at_rest-waits p s waits = rest_within-suc (length p) p s (omega arith) ∙ go (slice_get p s.position) waits
  where
    by : (i : Instruction) (o : Option Op) → IsSome o → (if is_some o then s else rest_within (length p) p (after i 0 s)) ≡ s
    by i None w = cc
    by i (Some x) w = refl

    go : (o : Option Instruction) → IsSome (option_and_then (λ i. issued i s) o) → moved (λ i. rest_within (length p) p (after i 0 s)) s o ≡ s
    go None w = refl
    go (Some i) w = by i (issued i s) w

-- and where it has ended
pub at_rest-ends : (p : List Instruction) (s : State) → length p ≤ s.position → at_rest p s ≡ s
at_rest-ends p s h = rest_within-enough (length p) 0 p s (omega arith) (omega arith)

-- so a state at rest stays
pub at_rest-stays : (p : List Instruction) (s : State) → IsAtRest p s → at_rest p s ≡ s
at_rest-stays p s h = elim (le_or_lt (length p) s.position) [
  | inl ended ↦ at_rest-ends p s ended
  | inr inside ↦ at_rest-waits p s (h.waits inside)
]
  where
    le_or_lt : (a b : ℕ) → (a ≤ b) ⊎ (b < a)
    le_or_lt a b = grind arith

-- a core of a program comes to rest
rest_within-rests : (n : ℕ) (p : List Instruction) (s : State) → IsProgram p → s.position ≤ length p → length p ≤ n + s.position → IsAtRest p (rest_within n p s)
rest_within-rests zero p s program within enough = record { within = within; waits = λ inside. absurd (omega arith) }
rest_within-rests (suc n) p s program within enough =
    go (slice_get p s.position) refl
    (λ i e. let on : s.position + 1 ≤ (after i 0 s).position = leads_on i 0 s in rest_within-rests n p (after i 0 s) program (leads_inside p i 0 s program e) (omega arith))
  where
    by : (i : Instruction) (o : Option Op) → slice_get p s.position ≡ Some i → issued i s ≡ o → IsAtRest p (rest_within n p (after i 0 s)) → IsAtRest p (if is_some o then s else rest_within n p (after i 0 s))
    by i None e f behind = behind
    by i (Some x) e f behind = record {
      within = within;
      waits = λ inside. ap is_some (ap (option_and_then (λ j. issued j s)) e ∙ f);
    }

    go : (o : Option Instruction) → slice_get p s.position ≡ o → ((i : Instruction) → slice_get p s.position ≡ Some i → IsAtRest p (rest_within n p (after i 0 s))) → IsAtRest p (moved (λ i. rest_within n p (after i 0 s)) s o)
    go None e behind = record { within = within; waits = λ inside. absurd (let f = slice_get_cases p s.position in grind (arith, f)) }
    go (Some i) e behind = by i (issued i s) e refl (behind i e)

pub at_rest-rests : (p : List Instruction) (s : State) → IsProgram p → s.position ≤ length p → IsAtRest p (at_rest p s)
at_rest-rests p s program within = rest_within-rests (length p) p s program within (omega arith)

-- ---- the instructions that touch no memory

pub silent : (i : Instruction) (s : State) → touches_memory i ≡ false → issued i s ≡ None
silent (Load to addr) s h = cc
silent (Store addr value) s h = cc
silent (StoreRegister addr from) s h = cc
silent (Add to from value) s h = refl
silent (SkipIfZero tested skip) s h = refl
silent (Swap to addr value) s h = cc

-- where the program has ended, the core rests
pub ended-rests : (p : List Instruction) (s : State) → s.position ≤ length p → None ≡ slice_get p s.position → IsAtRest p s
ended-rests p s within e = record {
  within = within;
  waits = λ inside. absurd (let f = slice_get_cases p s.position in grind (arith, f, e));
}
