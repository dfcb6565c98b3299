-- The runs so far, their outcomes counted and their numbers added up.
use Rattle.litmus.proofs.CollectedRuns.{ThreadedSoFar}
use Rattle.litmus.proofs.threaded.collect_threaded.Given as goal

abbrev pub invariant-loop-run : goal.invariant-loop-run
invariant-loop-run g l = ThreadedSoFar l.test l.config l.tally.entries l.totals l.run
