-- What the verdict of a replay says.
use Rattle.std.proofs.Common.{◌≡◌, ℕ, List, Option}
use Rattle.trace_replay.specs.Answers.{IsVerdict}
use Rattle.trace_replay.specs.Texts.{verdict_status}
use Rattle.trace_replay.specs.declared.verdict.ReplayVerdict.{ReplayVerdict}
use Rattle.trace_replay.specs.declared.verdict.ReplayVerdict.TheVariants.{Yes, No}
use Rattle.trace_replay.specs.Steps.{order_of, steps_of}
use Rattle.commands.specs.Replaying.{IsConsistentText, IsOutOfOrder, TellsText}

-- a yes says that the trace is consistent
pub right : (told : List ℕ → Option (List ℕ)) (name : List ℕ) (verdict : ReplayVerdict) → TellsText told name (λ text. IsVerdict text verdict) → verdict_status verdict ≡ 0
    → TellsText told name IsConsistentText
right told name (Yes count) (text, tells, is) zero = (text, tells, (is.said, is.says, (order_of (steps_of is.said), is.order)))
right told name (No wrong) (text, tells, is) zero = cc

-- a no says that its lines aren't in an order
pub wrong : (told : List ℕ → Option (List ℕ)) (name : List ℕ) (verdict : ReplayVerdict) → TellsText told name (λ text. IsVerdict text verdict) → verdict_status verdict ≡ 1
    → TellsText told name IsOutOfOrder
wrong told name (Yes count) is one = cc
wrong told name (No found) (text, tells, is) one = (text, tells, (found, is))
