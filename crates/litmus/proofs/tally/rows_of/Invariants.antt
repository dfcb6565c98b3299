-- The rows so far are those of the entries so far.
use Rattle.std.proofs.Common.{◌≡◌, map}
use Rattle.litmus.specs.inner.Tallies.{counted}
use Rattle.litmus.proofs.Tallied.{row_of}
use Rattle.litmus.proofs.tally.rows_of.Given as goal

abbrev pub invariant-loop-values : goal.invariant-loop-values
invariant-loop-values l = l.rows.items ≡ map (row_of l.test) (counted l.yielded)
