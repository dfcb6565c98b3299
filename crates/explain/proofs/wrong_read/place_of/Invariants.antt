-- It isn't among those before.
use Rattle.std.proofs.Common.{◌≡◌, drop}
use Rattle.explain.specs.WrongReads.{of_id}
use Rattle.explain.proofs.wrong_read.place_of.Given as goal

abbrev pub invariant-loop-place : goal.invariant-loop-place
invariant-loop-place l = of_id (drop l.place l.entries) l.id ≡ of_id l.entries l.id
