-- A record of the bytes that were read, or of one more piece; and the end of the file.
use Rattle.std.proofs.Common.{◌∙◌, ap, arith}
use Rattle.std.proofs.lemmas.List.{nil_from_length}
use Rattle.std.proofs.lemmas.Result.{err_from_is_err_and}
use Rattle.merge_judge.specs.OpenedLog.{OpenedLog}
use Rattle.merge_judge.proofs.Following.{ends_at, ends_whole, filled_more, next_taken, not_read, read_failed, read_few, read_more, refused_at}
use Rattle.merge_judge.proofs.open_log.OpenLog.next.Goals as goal

pub returns-in_err-record-clause-next : goal.returns-in_err-record-clause-next
returns-in_err-record-clause-next g c = λ core cores first records h.
    let p = err_from_is_err_and c.from_residual.result c.from_residual.ensures.1 in
    rw (p.1, p.2) (refused_at (c.reading.invariant.follows core cores first records h) c.in_err-record.field-0.0 c.in_err-record.ensures.taken)

pub returns-in-Some-clause-next : goal.returns-in-Some-clause-next
returns-in-Some-clause-next g c = λ core cores first records h.
    (next_taken (c.reading.invariant.follows core cores first records h) c.take.new.self c.in-Some.record c.take.ensures.core c.take.ensures.cores (rw c.in-Some.is at c.in_ok-record.ensures.taken), λ whole. absurd cc)

pub returns-in_err-count-clause-next : goal.returns-in_err-count-clause-next
returns-in_err-count-clause-next g c = λ core cores first records h.
    let p = err_from_is_err_and c.from_residual-in_err-count.result c.from_residual-in_err-count.ensures.1 in
    rw (p.1, p.2) (read_failed (c.reading.invariant.follows core cores first records h))

pub returns-in_err-check_end-clause-next : goal.returns-in_err-check_end-clause-next
returns-in_err-check_end-clause-next g c = λ core cores first records h.
    let p = err_from_is_err_and c.from_residual-in_err-check_end.result c.from_residual-in_err-check_end.ensures.1 in
    let f = c.in_ok-count.ensures.filled in
    let on = filled_more (c.reading.invariant.follows core cores first records h) c.take.new.self c.fill.new.self (g.S.ByteSource.remaining c.fill.new.source) c.take.ensures.core c.take.ensures.cores (rw c.in_default.is at c.in_ok-record.ensures.taken) c.fill.ensures.reader f.1 in
    rw (p.1, p.2) (ends_at on (f.2 c.if-count-eq0.true) (nil_from_length c.fill.new.self.unused (f.0 ∙ c.if-count-eq0.true)) c.in_err-check_end.field-0.0 (rw (ap (λ (s : OpenedLog). s.reader) c.self.view_is) at c.in_err-check_end.ensures.ends))

pub returns-in_err-check_end-clause-read : goal.returns-in_err-check_end-clause-read
returns-in_err-check_end-clause-read g c = λ e.
    let p = err_from_is_err_and c.from_residual-in_err-check_end.result c.from_residual-in_err-check_end.ensures.1 in
    absurd (not_read c.reading.invariant.read c.take.new.self (rw c.in_default.is at c.in_ok-record.ensures.taken) c.fill.new.self c.in_err-check_end.field-0.0 c.fill.ensures.reader (rw (ap (λ (s : OpenedLog). s.reader) c.self.view_is) at c.in_err-check_end.ensures.ends) cc)

pub returns-then-count-eq0-clause-next : goal.returns-then-count-eq0-clause-next
returns-then-count-eq0-clause-next g c = λ core cores first records h.
    let f = c.in_ok-count.ensures.filled in
    let on = filled_more (c.reading.invariant.follows core cores first records h) c.take.new.self c.fill.new.self (g.S.ByteSource.remaining c.fill.new.source) c.take.ensures.core c.take.ensures.cores (rw c.in_default.is at c.in_ok-record.ensures.taken) c.fill.ensures.reader f.1 in
    ends_whole on (f.2 c.if-count-eq0.true) (nil_from_length c.fill.new.self.unused (f.0 ∙ c.if-count-eq0.true)) (rw (ap (λ (s : OpenedLog). s.reader) c.self.view_is) at c.in_ok-check_end.ensures.ends)

pub overflow_add-reads : goal.overflow_add-reads
overflow_add-reads g c = omega (arith, read_few c.reading.invariant.read c.take.new.self (rw c.in_default.is at c.in_ok-record.ensures.taken))

pub reading-preserved : goal.reading-preserved
reading-preserved g c =
    let f = c.in_ok-count.ensures.filled in
    let inv = c.reading.invariant in
    let takes = rw c.in_default.is at c.in_ok-record.ensures.taken in
    record {
      read = read_more inv.read c.take.new.self takes c.fill.new.self c.fill.ensures.reader (omega (arith, f.0, c.if-count-eq0.false));
      follows = λ core cores first records h. filled_more (inv.follows core cores first records h) c.take.new.self c.fill.new.self (g.S.ByteSource.remaining c.fill.new.source) c.take.ensures.core c.take.ensures.cores takes c.fill.ensures.reader f.1;
      quiet = c.in_ok-count.ensures.counts ∙ inv.quiet;
    }
