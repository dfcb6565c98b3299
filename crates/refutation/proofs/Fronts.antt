-- What is read of a text, as answers.
use Rattle.std.proofs.Common.{rules, ◌≡◌, ◌≢◌, ℕ, List, ◌++◌, length, Option, Some}
use Rattle.std.specs.Prelude.{MatchOption}
use Rattle.mem_op.specs.Consistency.{Operation}
use Rattle.refutation.specs.declared.step.Step.{Step}
use Rattle.refutation.specs.declared.text.Front.{Front}
use Rattle.refutation.specs.Grammar.{header_line, step_text, Fits}
use Rattle.refutation.specs.Refuting.{IsRefutation}
use Rattle.refutation.specs.Texts.{Begins, NoStepInFront, SpellsRefutation, IsFirstBad}
use Rattle.refutation.specs.inner.Lines.{TellsEnd, TellsText}
use Rattle.text_lines.proofs.Items.{SoFar}

-- the steps and the bytes after them, where no more steps come
pub front-told : (text body rest : List ℕ) (old new : List Step) (count : ℕ) (bad : Option ℕ)
    → text ≡ header_line ++ body → SoFar step_text Fits body old rest → NoStepInFront rest → new ≡ old → count ≡ length new → TellsEnd rest count bad
    → (r : List ℕ) × Begins text new r × TellsEnd r (length new) bad
front-told text body rest old new count bad is far none same counted told = search rules

-- ---- the steps judged

judged : (cores : List (List Operation)) (text rest : List ℕ) (steps : List Step) (bad : Option ℕ) → Begins text steps rest
    → TellsEnd rest (length steps) bad → IsRefutation cores steps → MatchOption bad (SpellsRefutation cores text) (λ line. IsFirstBad cores text line)
judged cores text rest steps bad begins told is = search rules

pub judged_right : (cores : List (List Operation)) (text : List ℕ) (front : Front) (steps : List Step) → TellsText text front → front.bad_line ≢ Some 1 → steps ≡ front.steps.items → IsRefutation cores steps
    → MatchOption front.bad_line (SpellsRefutation cores text) (λ line. IsFirstBad cores text line)
judged_right cores text front steps told other same is = search (rules, judged)
