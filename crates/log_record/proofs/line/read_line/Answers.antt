-- Nothing was read, or a record with a number out of range.
use Rattle.std.proofs.Common.{sym, None}
use Rattle.log_record.proofs.Kept.{none_is_bad, some_is_kept}
use Rattle.log_record.proofs.line.read_line.Goals as goal

pub returns-in-None-clause-bad : goal.returns-in-None-clause-bad
returns-in-None-clause-bad c = λ e shape. none_is_bad c.args.line.now c.in-None.ensures c.args.format shape

pub returns-in-Some-None-clause-range : goal.returns-in-Some-None-clause-range
returns-in-Some-None-clause-range c =
    λ e. let s = some_is_kept c.args.line.now None (cc c.in-Some-None.ensures) in (s.0, s.1, sym (c.if-not-may_begin.ensures s.0 s.1), s.2)
