-- What lines say of a trace, one after another.
use Rattle.std.proofs.Common.{◌≡◌, ◌≤◌, ℕ, List, [], ◌∷◌, ◌++◌, length, refl}
use Rattle.std.specs.Prelude.{fold}
use Rattle.mem_op.specs.Consistency.{Operation}
use Rattle.mem_op.specs.Limits.{operation_limit}
use Rattle.trace.specs.declared.line.TraceLine.{TraceLine}
use Rattle.trace.specs.declared.line.TraceLine.TheVariants.{Nothing, Performs}
use Rattle.trace.specs.declared.refusal.TraceFull.TheVariants.{TooMany}
use Rattle.trace.specs.Grammar.{IsLine}
use Rattle.flat_replay.specs.Accesses.{own_operations}
use Rattle.trace.specs.Texts.{with_line, trace_of}
use Rattle.trace.specs.inner.Taking.{IsLineRefusal}

fold-push : (cores : List (List Operation)) (said : List TraceLine) (last : TraceLine) → fold with_line cores (said ++ last ∷ []) ≡ with_line (fold with_line cores said) last
fold-push cores [] last = refl
fold-push cores (line ∷ said) last = fold-push (with_line cores line) said last

-- one line more
pub trace_of-push : (said : List TraceLine) (last : TraceLine) → trace_of (said ++ last ∷ []) ≡ with_line (trace_of said) last
trace_of-push said last = fold-push [] said last

-- only an operation is one too many
pub too_many : (cores : List (List Operation)) (line : List ℕ) (said : TraceLine) → IsLine line said → IsLineRefusal cores said TooMany
    → (core : ℕ) × (operation : Operation) × IsLine line (Performs core operation) × (operation_limit ≤ length (own_operations cores core))
too_many cores line Nothing is full = absurd full
too_many cores line (Performs core operation) is full = (core, operation, is, full)
