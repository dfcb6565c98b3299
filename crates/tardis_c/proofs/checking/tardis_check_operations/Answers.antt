-- What status 0 says, and what is told of refused ends.
use Rattle.std.proofs.Common.{sym, ◌∙◌}
use Rattle.tardis_c.specs.Parts.{parts_of}
use Rattle.tardis_c.proofs.Told.{count_told, operations_of_ends, yes_is_consistent_of}
use Rattle.tardis_c.proofs.checking.tardis_check_operations.Goals as goal

pub returns-clause-sound : goal.returns-clause-sound
returns-clause-sound c =
    λ zero. yes_is_consistent_of (parts_of c.args.operations.now c.args.ends.now) c.operations_verdict-answer.result c.operations_verdict-answer.ensures (sym c.operations_status.ensures ∙ zero)

pub returns-clause-refused : goal.returns-clause-refused
returns-clause-refused c = rw (c.operations_status.ensures, c.operations_told.ensures) (operations_of_ends c.operations_verdict-answer.result)

pub returns-in-Err-clause-refused : goal.returns-in-Err-clause-refused
returns-in-Err-clause-refused c = rw c.told_of.ensures (count_told c.in-Err.fault c.in-Err.ensures.err)
