use Rattle.std.proofs.Common.{inl}
use Rattle.commands.proofs.Numbers.{far_after, keeps_first, keeps_then}
use Rattle.commands.proofs.left.leave.Goals as goal

pub returns-in_err-count-clause-far : goal.returns-in_err-count-clause-far
returns-in_err-count-clause-far g c = inl c.write_logs.ensures.far

pub returns-in_err-count-clause-others : goal.returns-in_err-count-clause-others
returns-in_err-count-clause-others g c = keeps_first _ _ _ _ c.write_logs.ensures.others

pub returns-in_err-put_numbers-clause-far : goal.returns-in_err-put_numbers-clause-far
returns-in_err-put_numbers-clause-far g c = far_after _ _ _ _ _ _ _ _ _ c.in_ok-count.ensures.logs c.put_numbers.ensures.tried

pub returns-in_err-put_numbers-clause-others : goal.returns-in_err-put_numbers-clause-others
returns-in_err-put_numbers-clause-others g c = keeps_then _ _ _ _ _ c.write_logs.ensures.others c.put_numbers.ensures.others

pub returns-clause-ok : goal.returns-clause-ok
returns-clause-ok g c = (g.F.Folder.files c.write_logs.new.folder, c.in_ok-count.ensures.logs, c.put_numbers.ensures.others)

pub returns-clause-far : goal.returns-clause-far
returns-clause-far g c = far_after _ _ _ _ _ _ _ _ _ c.in_ok-count.ensures.logs c.put_numbers.ensures.tried

pub returns-clause-others : goal.returns-clause-others
returns-clause-others g c = keeps_then _ _ _ _ _ c.write_logs.ensures.others c.put_numbers.ensures.others
