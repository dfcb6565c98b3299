-- What was taken of the piece so far, the reader was fed.
use Rattle.std.proofs.Common.{◌≡◌, ◌++◌, ℕ, List, length}
use Rattle.trace.specs.Reading.{WasFed}
use Rattle.trace.proofs.reader.TraceReader.take.Given as goal

abbrev pub invariant-loop-part : goal.invariant-loop-part
invariant-loop-part l =
    (bytes : List ℕ) → WasFed l.fn.self bytes → (taken : List ℕ) × (l.piece ≡ taken ++ l.rest)
    × WasFed (record { cores = l.self-inside.trace; count = l.self-inside.count; begun = l.self-inside.begun.items; fault = l.self-inside.fault }) (bytes ++ taken)

abbrev pub decreases-loop-part : goal.decreases-loop-part
decreases-loop-part l = length l.rest
