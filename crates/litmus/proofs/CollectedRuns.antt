-- Runs collected one by one.
use Rattle.std.proofs.Common.{◌≡◌, ℕ, zero, suc, ◌+◌, List, [], ◌∷◌, ◌++◌, length, map, refl, sym, ap, subst, ◌∙◌, arith, length-append}
use Rattle.std.specs.Prelude.{Option, Some, slice_get}
use Rattle.std.specs.Global.{Vec}
use Rattle.std.proofs.lemmas.List.{map_push}
use Rattle.lease_rule.specs.ConfigParts.{ConfigParts}
use Rattle.core_machine.specs.Machine.{World}
use Rattle.core_machine.specs.Parts.{CoreParts, world}
use Rattle.litmus.specs.Collecting.{AreEndsOf}
use Rattle.litmus.specs.Parts.{LitmusParts}
use Rattle.litmus.specs.Ends.{ThreadEnd, left, outcome_of}
use Rattle.litmus.specs.Runs.{IsEndOf, IsSeededRun, IsThreadRun, seed_of, seeded_numbers, stress_of, thread_numbers}
use Rattle.statistics.specs.Numbers.{IsBounded, joined, totals_of}
use Rattle.statistics.specs.declared.numbers.Numbers.{Numbers}
use Rattle.statistics.proofs.Totals.{totals_more}
use Rattle.litmus.specs.inner.Tallies.{IsTally}
use Rattle.litmus.proofs.Tallied.{none_counted}

abbrev pub outcomes_of : (E : Type 0) → (E → World) → LitmusParts → List E → List (List ℕ)
outcomes_of E at t ends = map (λ end. outcome_of t (at end)) ends

-- the runs before run k, each with logs that get Yes, their outcomes counted, and their numbers added up
pub record CollectedSoFar (E : Type 0) (Ran : ℕ → E → Type 0) (at : E → World) (numbers : E → Numbers) (t : LitmusParts) (entries : List (Vec ℕ × ℕ)) (totals : Numbers) (k : ℕ) : Type 0 where
  pub ends : List E
  pub count : length ends ≡ k
  pub each : AreEndsOf E Ran at t ends
  pub tally : IsTally (outcomes_of E at t ends) entries
  pub sums : totals ≡ totals_of (map numbers ends)
  pub bounded : IsBounded k totals

abbrev pub SeededSoFar : LitmusParts → ConfigParts → ℕ → Option ℕ → List (Vec ℕ × ℕ) → Numbers → ℕ → Type 0
SeededSoFar t g seed stress entries totals k =
    CollectedSoFar CoreParts (λ n. IsSeededRun t g (seed_of seed n) (stress_of stress n)) world (seeded_numbers t g) t entries totals k

abbrev pub ThreadedSoFar : LitmusParts → ConfigParts → List (Vec ℕ × ℕ) → Numbers → ℕ → Type 0
ThreadedSoFar t g entries totals k = CollectedSoFar ThreadEnd (λ n. IsThreadRun t g) left (thread_numbers t g) t entries totals k

pub none_so_far : (E : Type 0) (Ran : ℕ → E → Type 0) (at : E → World) (numbers : E → Numbers) (t : LitmusParts) (totals : Numbers) → totals ≡ totals_of [] → IsBounded 0 totals
    → CollectedSoFar E Ran at numbers t [] totals 0
none_so_far E Ran at numbers t totals none bounded = record {
  ends = [];
  count = refl;
  each = λ k q e. absurd cc;
  tally = none_counted;
  sums = none;
  bounded = bounded;
}

each_more : {A : Type 0} (P : ℕ → A → Type 0) (xs : List A) (x : A) → ((k : ℕ) (q : A) → slice_get xs k ≡ Some q → P k q) → P (length xs) x
    → (k : ℕ) (q : A) → slice_get (xs ++ x ∷ []) k ≡ Some q → P k q
each_more P [] x all here zero q e = let is : x ≡ q = cc in subst (P 0) is here
each_more P [] x all here (suc k) q e = absurd cc
each_more P (y ∷ xs) x all here zero q e = all 0 q e
each_more P (y ∷ xs) x all here (suc k) q e = each_more (λ n r. P (suc n) r) xs x (λ n r f. all (suc n) r f) here k q e

pub one_more_run : (E : Type 0) (Ran : ℕ → E → Type 0) (at : E → World) (numbers : E → Numbers) (t : LitmusParts) (k : ℕ) (old new : List (Vec ℕ × ℕ)) (totals after : Numbers)
    (outcome : List ℕ) (n : Numbers) → CollectedSoFar E Ran at numbers t old totals k → IsEndOf E (Ran k) at numbers t outcome n
    → ((outcomes : List (List ℕ)) → IsTally outcomes old → IsTally (outcomes ++ outcome ∷ []) new) → after ≡ joined totals n → IsBounded (k + 1) after
    → CollectedSoFar E Ran at numbers t new after (k + 1)
one_more_run E Ran at numbers t k old new totals after outcome n far end more adds bounded =
    let run-is = subst (λ (m : ℕ). IsEndOf E (Ran m) at numbers t outcome n) (sym far.count) end in
    record {
      ends = far.ends ++ run-is.end ∷ [];
      count = omega (arith, length-append far.ends (run-is.end ∷ []), far.count);
      each = each_more (λ n q. _) far.ends run-is.end far.each (run-is.run, run-is.yes);
      tally = subst (λ (os : List (List ℕ)). IsTally os new)
          (ap (λ (o : List ℕ). outcomes_of E at t far.ends ++ o ∷ []) run-is.outcome_is ∙ sym (map_push (λ q. outcome_of t (at q)) far.ends run-is.end))
          (more (outcomes_of E at t far.ends) far.tally);
      sums =
          adds ∙ ap (λ (s : Numbers). joined s n) far.sums ∙ ap (joined (totals_of (map numbers far.ends))) run-is.numbers_are
          ∙ sym (totals_more (map numbers far.ends) (numbers run-is.end)) ∙ sym (ap totals_of (map_push numbers far.ends run-is.end));
      bounded = bounded;
    }
