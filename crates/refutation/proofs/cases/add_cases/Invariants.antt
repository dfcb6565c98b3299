use Rattle.std.proofs.Common.{◌≡◌, ◌++◌, map, vec_len}
use Rattle.std.specs.Prelude.{reverse}
use Rattle.refutation.specs.inner.Waiting.{waiting_on}
use Rattle.refutation.proofs.cases.add_cases.Given as goal

abbrev pub invariant-loop-fact : goal.invariant-loop-fact
invariant-loop-fact l = map (waiting_on l.kept) l.given.items ++ reverse l.waiting.items ≡ map (waiting_on l.kept) l.initial.given.items ++ reverse l.initial.waiting.items

abbrev pub decreases-loop-fact : goal.decreases-loop-fact
decreases-loop-fact l = vec_len l.given
