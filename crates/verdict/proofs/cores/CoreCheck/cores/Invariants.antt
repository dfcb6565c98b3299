-- Each core before `number` stands in the list.
use Rattle.std.proofs.Common.{ℕ, ◌<◌}
use Rattle.line_stamps.specs.Ordered.{In}
use Rattle.verdict.proofs.cores.CoreCheck.cores.Given as goal

abbrev pub invariant-loop-number : goal.invariant-loop-number
invariant-loop-number l = (core : ℕ) → core < l.number → In core l.cores.items
