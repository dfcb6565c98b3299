-- Runs that have ended, judged.
use Rattle.std.proofs.Common.{◌≡◌, ℕ, zero, suc, List, [], ◌∷◌, ◌++◌, length, map, refl, sym, ap, subst, ◌∙◌, Ok, Err}
use Rattle.std.specs.Prelude.{None, Result, MatchResult, slice_get}
use Rattle.std.specs.Option.{option_map_or}
use Rattle.log_record.specs.declared.record.Record.{Record}
use Rattle.core_program.specs.State.{reg}
use Rattle.core_unit.specs.Core.{Core}
use Rattle.core_unit.specs.Parts.{UnitParts, core_of}
use Rattle.core_machine.specs.Machine.{World}
use Rattle.core_machine.specs.Parts.{CoreParts, world}
use Rattle.core_machine.specs.SeatParts.{SeatParts}
use Rattle.core_machine.specs.Seats.{seen}
use Rattle.core_machine.specs.Works.{log_at, logs_below}
use Rattle.statistics.specs.declared.numbers.Numbers.{Numbers}
use Rattle.verdict.specs.VerdictOf.{run_verdict_of}
use Rattle.verdict.specs.declared.answer.Verdict.TheVariants.{Yes}
use Rattle.litmus.specs.Parts.{LitmusParts, ShownParts}
use Rattle.litmus.specs.Ends.{GetsYes, IsJudgeCause, logs_of, outcome_of, word_in}
use Rattle.litmus.specs.declared.run_cause.RunCause.{RunCause}
use Rattle.litmus.specs.declared.run_cause.RunCause.TheVariants as cause
use Rattle.litmus.specs.inner.JudgedOutcome.{at_end}
use Rattle.litmus.specs.Runs.{IsCauseOf, IsEndOf, not_yes}
use Rattle.litmus.specs.declared.collecting.Kept.{Kept}

-- ---- what is seen of units alone

-- the cores have the same logs, and the same words in their registers
pub record Alike (w v : World) : Type 0 where
  pub logs : (c : ℕ) → log_at w c ≡ log_at v c
  pub words : (s : ShownParts) → word_in w s ≡ word_in v s

same_logs : (w v : World) → Alike w v → (n : ℕ) → logs_below w n ≡ logs_below v n
same_logs w v alike zero = refl
same_logs w v alike (suc n) =
    ap (λ (logs : List (List Record)). logs ++ log_at w n ∷ []) (same_logs w v alike n) ∙ ap (λ (log : List Record). logs_below v n ++ log ∷ []) (alike.logs n)

same_words : (w v : World) → Alike w v → (shown : List ShownParts) → map (word_in w) shown ≡ map (word_in v) shown
same_words w v alike [] = refl
same_words w v alike (s ∷ shown) = ap (λ x. x ∷ map (word_in w) shown) (alike.words s) ∙ ap (λ (xs : List ℕ). word_in v s ∷ xs) (same_words w v alike shown)

-- what a kept reply doesn't change
seen_alone : {A : Type 0} (f : Core → A) (d : A) → ((s : SeatParts) → f (core_of s.unit None) ≡ f (seen s)) → (seats : List SeatParts) (c : ℕ)
    → option_map_or f (slice_get (map (λ u. core_of u None) (map (λ s. s.unit) seats)) c) d ≡ option_map_or f (slice_get (map seen seats) c) d
seen_alone f d same [] c = refl
seen_alone f d same (s ∷ seats) zero = same s
seen_alone f d same (s ∷ seats) (suc c) = seen_alone f d same seats c

pub alike_alone : (q : CoreParts) → Alike (at_end (map (λ s. s.unit) q.seats)) (world q)
alike_alone q = record {
  logs = seen_alone (λ u. u.log) [] (λ s. refl) q.seats;
  words = λ shown. seen_alone (λ u. reg u.state shown.register) 0 (λ s. refl) q.seats shown.core;
}

same_cause : (t : LitmusParts) (w v : World) (why : RunCause) → logs_of t w ≡ logs_of t v → IsJudgeCause t w why → IsJudgeCause t v why
same_cause t w v (cause.No fault) logs is = ap (run_verdict_of t.programs) (sym logs) ∙ is
same_cause t w v (cause.Simulation fault) logs is = is
same_cause t w v (cause.Threads fault) logs is = is
same_cause t w v cause.OutOfMemory logs is = is

-- a run that has ended has its outcome and its numbers where its logs get Yes, and else a cause
pub judged_end : (E : Type 0) (Ran : E → Type 0) (NotEnded : RunCause → Type 0) (at : E → World) (numbers : E → Numbers) (t : LitmusParts) (end : E) (us : List UnitParts) (r : Result Kept RunCause)
    → Alike (at_end us) (at end) → Ran end
    → MatchResult r (λ k. GetsYes t (at_end us) × (k.outcome.items ≡ outcome_of t (at_end us)) × (k.counts ≡ numbers end)) (λ why. IsJudgeCause t (at_end us) why)
    → MatchResult r (λ k. IsEndOf E Ran at numbers t k.outcome.items k.counts) (λ why. IsCauseOf E Ran NotEnded at t why)
judged_end E Ran NotEnded at numbers t end us (Ok k) alike ran judged = record {
  end = end;
  run = ran;
  yes = subst (λ (logs : List (List Record)). (count : ℕ) × (run_verdict_of t.programs logs ≡ Yes count)) (same_logs (at_end us) (at end) alike (length t.programs)) judged.0;
  outcome_is = judged.1 ∙ same_words (at_end us) (at end) alike t.shown;
  numbers_are = judged.2;
}
judged_end E Ran NotEnded at numbers t end us (Err why) alike ran judged =
    not_yes end ran (same_cause t (at_end us) (at end) why (same_logs (at_end us) (at end) alike (length t.programs)) judged)
