-- The lines of the ids so far are those before the rest.
use Rattle.std.proofs.Common.{◌≡◌, ◌++◌, length}
use Rattle.merge_judge.specs.OrderText.{id_lines}
use Rattle.commands.proofs.order_certificate.read_ids.Given as goal

abbrev pub invariant-reading : goal.invariant-reading
invariant-reading l = l.text ≡ id_lines l.ids.items ++ l.rest

abbrev pub decreases-reading : goal.decreases-reading
decreases-reading l = length l.rest
