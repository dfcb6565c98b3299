-- None of the logs so far falls.
use Rattle.merge_judge.specs.inner.FinalVerdict.{NoneFalls}
use Rattle.merge_judge.proofs.final_verdict.first_fall.Given as goal

abbrev pub invariant-loop-core : goal.invariant-loop-core
invariant-loop-core g l = NoneFalls l.lanes l.core
