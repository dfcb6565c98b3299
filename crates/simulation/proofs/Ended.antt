-- Where a simulation has come to its end, no core has an operation left.
use Rattle.std.proofs.Common.{◌≡◌, ◌<◌, ◌⊎◌, ℕ, zero, suc, ◌+◌, Bool, true, false, List, [], ◌∷◌, ◌++◌, if◌then◌else◌, inl, inr, refl, sym, subst, arith}
use Rattle.std.specs.Prelude.{Option, None, Some}
use Rattle.std.proofs.lemmas.Bool.{cases_lt}
use Rattle.core_machine.specs.Machine.{World}
use Rattle.core_machine.specs.Parts.{CoreParts, world}
use Rattle.core_machine.specs.Works.{has_next}
use Rattle.core_machine.proofs.Ended.{run_ended}
use Rattle.simulation.specs.declared.command.Command.{Command}
use Rattle.simulation.specs.Drawing.{IsDrawnOut, cores_left, left_below}
use Rattle.simulation.specs.Events.{ops_events}
use Rattle.simulation.specs.Finishing.{FinishesFirst}
use Rattle.simulation.specs.Finishing as finishing
use Rattle.simulation.specs.Simulating.{IsEnded, IsSimulated, NoneIsLeft}
use Rattle.simulation.proofs.SimulatedRuns.{ops_run}

which : (d n : ℕ) → d < n + 1 → (d ≡ n) ⊎ (d < n)
which d n below = elim (cases_lt d n) [ inl lower ↦ inr lower | inr past ↦ inl (omega arith) ]

-- ---- drawn rounds

nothing_before : {X : Type 0} (xs ys : List X) → xs ++ ys ≡ [] → xs ≡ []
nothing_before [] ys e = refl
nothing_before (x ∷ xs) ys e = absurd cc

nothing_behind : {X : Type 0} (xs ys : List X) → xs ++ ys ≡ [] → ys ≡ []
nothing_behind [] ys e = e
nothing_behind (x ∷ xs) ys e = absurd cc

not_listed : (c : ℕ) (b : Bool) → (if b then c ∷ [] else []) ≡ [] → b ≡ false
not_listed c true e = absurd cc
not_listed c false e = refl

none_below : (w : World) (n : ℕ) → left_below w n ≡ [] → (c : ℕ) → c < n → has_next w c ≡ false
none_below w zero none c below = absurd (omega arith)
none_below w (suc n) none c below = elim (which c n (omega arith)) [
  | inl own ↦ subst (λ m. has_next w m ≡ false) (sym own) (not_listed n (has_next w n) (nothing_behind (left_below w n) (if has_next w n then n ∷ [] else []) none))
  | inr lower ↦ none_below w n (nothing_before (left_below w n) (if has_next w n then n ∷ [] else []) none) c lower
]

drawn_ended : (seed : ℕ) (stress : Option ℕ) (p q : CoreParts) → IsDrawnOut seed stress p q → NoneIsLeft (world q)
unfolding cores_left
drawn_ended seed stress p q out = none_below (world q) 64 out.none_left

-- ---- cores finished in their order

finished_ended : (p : CoreParts) (n : ℕ) (q : CoreParts) → FinishesFirst p n q → (c : ℕ) → c < n → has_next (world q) c ≡ false
finished_ended p n q finishing.no_core c below = absurd (omega arith)
finished_ended p n q (finishing.one_more d r t before finished) c below = elim (which c d below) [
  | inl own ↦ subst (λ m. has_next (world t) m ≡ false) (sym own) finished.none_left
  | inr lower ↦
      let on = ops_run d r t finished.ops in
      run_ended r.config (world r) (ops_events d r t finished.ops) (world t) on.run c (finished_ended p d r before c lower)
]

-- ---- either

none_is_left : (seed stress : Option ℕ) (p q : CoreParts) → IsEnded seed stress p q → NoneIsLeft (world q)
none_is_left None None p q finished = finished_ended p 64 q finished
none_is_left None (Some both) p q out = drawn_ended both (Some both) p q out
none_is_left (Some seed) stress p q out = drawn_ended seed stress p q out

pub simulated_ended : (xs : List Command) (seed stress : Option ℕ) (p q : CoreParts) → IsSimulated xs seed stress p q → NoneIsLeft (world q)
simulated_ended xs seed stress p q did = none_is_left seed stress did.between q did.ended
