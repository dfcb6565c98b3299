use Rattle.std.proofs.Common.{inl, ◌∙◌}
use Rattle.commands.proofs.Files.{only_read_after}
use Rattle.commands.proofs.first_operations.all_again.Goals as goal

pub loop-name-preserved : goal.loop-name-preserved
loop-name-preserved g c = c.in-Ok.ensures.quiet ∙ c.loop-name.invariant

pub returns-in-Err-Read : goal.returns-in-Err-Read
returns-in-Err-Read g c = only_read_after _ _ _ c.loop-name.invariant c.in-Err-Read.ensures.read

pub returns-in-Err-OutOfMemory : goal.returns-in-Err-OutOfMemory
returns-in-Err-OutOfMemory g c = only_read_after _ _ _ c.loop-name.invariant c.in-Err-OutOfMemory.ensures.read

pub returns-in_err-push-in-Ok : goal.returns-in_err-push-in-Ok
returns-in_err-push-in-Ok g c = inl (c.in-Ok.ensures.quiet ∙ c.loop-name.invariant)

pub returns : goal.returns
returns g c = inl c.loop-name.invariant
