use Rattle.std.proofs.Common.{ℕ, ◌≡◌, ◌<◌, Some}
use Rattle.std.specs.Prelude.{slice_get}
use Rattle.manager_slice.specs.Parts.{SliceParts}
use Rattle.audit.specs.Runs.{IsNumbered}
use Rattle.audit.proofs.accepting.all_numbered.Given as goal

abbrev pub invariant-loop-number : goal.invariant-loop-number
invariant-loop-number l = (n : ℕ) (s : SliceParts) → n < l.number → slice_get l.slices n ≡ Some s → IsNumbered l.config n s
