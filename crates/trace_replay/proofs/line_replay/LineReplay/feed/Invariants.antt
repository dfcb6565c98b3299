-- What was taken of the piece so far was fed.
use Rattle.std.proofs.Common.{◌≡◌, ◌++◌, ℕ, List, length}
use Rattle.trace_replay.specs.inner.Feeding.{WasFed}
use Rattle.trace_replay.proofs.line_replay.LineReplay.feed.Given as goal

abbrev pub invariant-loop-part : goal.invariant-loop-part
invariant-loop-part l =
    (bytes : List ℕ) → WasFed l.fn.self l.fn.begun.items bytes → (taken : List ℕ) × (l.piece ≡ taken ++ l.rest)
    × WasFed l.self l.begun.items (bytes ++ taken)

abbrev pub decreases-loop-part : goal.decreases-loop-part
decreases-loop-part l = length l.rest
