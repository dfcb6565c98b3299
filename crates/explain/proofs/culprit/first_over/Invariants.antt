-- None of those before is over it.
use Rattle.std.proofs.Common.{◌≡◌, drop, take}
use Rattle.std.specs.Prelude.{find}
use Rattle.std.specs.Option.{option_copied}
use Rattle.explain.specs.Culprits.{is_over}
use Rattle.explain.proofs.culprit.first_over.Given as goal

abbrev pub invariant-loop-entry : goal.invariant-loop-entry
invariant-loop-entry l = find (is_over (option_copied l.store)) (drop l.entry-index (take l.place l.group)) ≡ find (is_over (option_copied l.store)) (take l.place l.group)
