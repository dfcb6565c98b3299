-- None of the logs so far has a fault.
use Rattle.merge_judge.specs.inner.FinalVerdict.{NoneFaulty}
use Rattle.merge_judge.proofs.final_verdict.first_faulty.Given as goal

abbrev pub invariant-loop-file : goal.invariant-loop-file
invariant-loop-file g l = NoneFaulty l.lanes l.file
