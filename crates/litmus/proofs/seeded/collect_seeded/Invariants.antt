-- The runs so far, their outcomes counted and their numbers added up.
use Rattle.litmus.proofs.CollectedRuns.{SeededSoFar}
use Rattle.litmus.proofs.seeded.collect_seeded.Given as goal

abbrev pub invariant-loop-run : goal.invariant-loop-run
invariant-loop-run g l = SeededSoFar l.test l.config l.seed l.stress l.tally.entries l.totals l.run
