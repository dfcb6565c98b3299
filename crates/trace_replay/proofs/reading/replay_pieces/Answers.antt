use Rattle.std.proofs.Common.{rules, ◌≡◌, ◌≤◌, ◌++◌, [], append-nil, arith, length, refl, subst, sym, take}
use Rattle.std.proofs.KnownBytes.{Consumes-nil, Consumes-trans}
use Rattle.std.proofs.lemmas.List.{length-take}
use Rattle.std.proofs.lemmas.Result.{err_from_is_err_and}
use Rattle.std.specs.Io.KnownBytes.{Consumes, IsAtEnd}
use Rattle.log_file.proofs.Devices.{consumes_end, tells_told, told}
use Rattle.trace_replay.specs.inner.Feeding.{WasFed}
use Rattle.trace_replay.proofs.Readings.{end_answered, end_not_unread, failed_read, kept, not_unread, reads_on, settled_answered}
use Rattle.trace_replay.proofs.reading.replay_pieces.Goals as goal

pub returns-in_err-buffer-clause-answer : goal.returns-in_err-buffer-clause-answer
returns-in_err-buffer-clause-answer g c =
    let before = g.S.ByteSource.remaining c.args.source.now in
    let p = err_from_is_err_and c.from_residual.result c.from_residual.ensures.1 in
    (told before, tells_told before, rw (p.1, p.2) tt)

pub returns-in_err-buffer-clause-far : goal.returns-in_err-buffer-clause-far
returns-in_err-buffer-clause-far g c =
    let before = g.S.ByteSource.remaining c.args.source.now in
    reads_on c.new-lines.result [] [] [] before before c.new-lines.ensures (Consumes-nil before) (omega arith)

pub pieces-init : goal.pieces-init
pieces-init g c = record {
  read = (
    [],
    subst (λ begun. WasFed c.new-lines.result begun []) (sym c.new-begun.ensures.items) c.new-lines.ensures,
    Consumes-nil (g.S.ByteSource.remaining c.args.source.now),
  );
  quiet = refl;
  room = search rules;
}

pub returns-in_err-count-clause-answer : goal.returns-in_err-count-clause-answer
returns-in_err-count-clause-answer g c =
    let before = g.S.ByteSource.remaining c.args.source.now in
    let p = err_from_is_err_and c.from_residual-in_err-count.result c.from_residual-in_err-count.ensures.1 in
    (told before, tells_told before, rw (p.1, p.2) tt)

pub returns-in_err-count-clause-far : goal.returns-in_err-count-clause-far
returns-in_err-count-clause-far g c =
    let rem = g.S.ByteSource.remaining in
    let (bytes, fed, consumed) = c.pieces.invariant.read in
    reads_on c.pieces.lines c.pieces.begun.items bytes [] (rem c.args.source.now) (rem c.read.new.self) fed
    (Consumes-trans _ (rem c.pieces.source) _ bytes [] consumed (kept (rem c.pieces.source) (rem c.read.new.self) c.in_err-count.ensures.bytes)) (omega arith)

pub returns-in_err-count-clause-read : goal.returns-in_err-count-clause-read
returns-in_err-count-clause-read g c = λ e.
    failed_read (g.S.ByteSource.failed c.args.source.now) (g.S.ByteSource.failed c.pieces.source) (g.S.ByteSource.failed c.read.new.self) c.pieces.invariant.quiet c.in_err-count.ensures.counts

pub returns-then-count-eq0-clause-answer : goal.returns-then-count-eq0-clause-answer
returns-then-count-eq0-clause-answer g c =
    let rem = g.S.ByteSource.remaining in
    let (bytes, fed, consumed) = c.pieces.invariant.read in
    let zero : c.in_ok-count.count ≡ 0 = search rules in
    let end : IsAtEnd (rem c.read.new.self) = c.in_ok-count.ensures.bytes.1 zero (search rules) in
    let none : Consumes (rem c.pieces.source) (rem c.read.new.self) [] = rw zero at c.in_ok-count.ensures.bytes.0 in
    let all : Consumes (rem c.args.source.now) (rem c.read.new.self) bytes = rw (append-nil bytes) at (Consumes-trans _ (rem c.pieces.source) _ bytes [] consumed none) in (
      bytes,
      consumes_end _ _ bytes all end,
      end_answered bytes c.finish.result (c.finish.ensures bytes (subst (λ begun. WasFed c.pieces.lines begun bytes) (sym c.as_slice.ensures.value) fed)),
    )

pub returns-then-count-eq0-clause-far : goal.returns-then-count-eq0-clause-far
returns-then-count-eq0-clause-far g c =
    let rem = g.S.ByteSource.remaining in
    let (bytes, fed, consumed) = c.pieces.invariant.read in
    let zero : c.in_ok-count.count ≡ 0 = search rules in
    let none : Consumes (rem c.pieces.source) (rem c.read.new.self) [] = rw zero at c.in_ok-count.ensures.bytes.0 in
    reads_on c.pieces.lines c.pieces.begun.items bytes [] (rem c.args.source.now) (rem c.read.new.self) fed
    (Consumes-trans _ (rem c.pieces.source) _ bytes [] consumed none) (omega arith)

pub returns-then-count-eq0-clause-read : goal.returns-then-count-eq0-clause-read
returns-then-count-eq0-clause-read g c = λ e.
    let (bytes, fed, consumed) = c.pieces.invariant.read in
    absurd (end_not_unread bytes c.finish.result (c.finish.ensures bytes (subst (λ begun. WasFed c.pieces.lines begun bytes) (sym c.as_slice.ensures.value) fed)) e)

pub returns-in_err-feed-clause-answer : goal.returns-in_err-feed-clause-answer
returns-in_err-feed-clause-answer g c =
    let rem = g.S.ByteSource.remaining in
    let (bytes, fed, consumed) = c.pieces.invariant.read in
    let piece = take c.in_ok-count.count c.read.new.buf in
    let read : Consumes (rem c.pieces.source) (rem c.read.new.self) piece = c.in_ok-count.ensures.bytes.0 in
    let p = err_from_is_err_and c.from_residual-in_err-feed.result c.from_residual-in_err-feed.ensures.1 in
    rw (p.1, p.2) (settled_answered (rem c.args.source.now) (rem c.read.new.self) (bytes ++ piece) c.in_err-feed.field-0.0
    (Consumes-trans _ (rem c.pieces.source) _ bytes piece consumed read) (c.in_err-feed.ensures bytes fed))

pub returns-in_err-feed-clause-far : goal.returns-in_err-feed-clause-far
returns-in_err-feed-clause-far g c =
    let rem = g.S.ByteSource.remaining in
    let (bytes, fed, consumed) = c.pieces.invariant.read in
    let piece = take c.in_ok-count.count c.read.new.buf in
    let read : Consumes (rem c.pieces.source) (rem c.read.new.self) piece = c.in_ok-count.ensures.bytes.0 in
    let room : length c.read.new.buf ≡ 65536 = search rules in
    let short : length piece ≤ 65536 = omega (arith, length-take c.in_ok-count.count c.read.new.buf, room) in
    reads_on c.pieces.lines c.pieces.begun.items bytes piece (rem c.args.source.now) (rem c.read.new.self) fed
    (Consumes-trans _ (rem c.pieces.source) _ bytes piece consumed read) short

pub returns-in_err-feed-clause-read : goal.returns-in_err-feed-clause-read
returns-in_err-feed-clause-read g c = λ e.
    let (bytes, fed, consumed) = c.pieces.invariant.read in
    let p = err_from_is_err_and c.from_residual-in_err-feed.result c.from_residual-in_err-feed.ensures.1 in
    absurd (not_unread _ c.in_err-feed.field-0.0 (c.in_err-feed.ensures bytes fed []) (let same = p.1 in let is = p.2 in cc))

pub pieces-preserved : goal.pieces-preserved
pieces-preserved g c =
    let rem = g.S.ByteSource.remaining in
    let (bytes, fed, consumed) = c.pieces.invariant.read in
    let piece = take c.in_ok-count.count c.read.new.buf in
    let read : Consumes (rem c.pieces.source) (rem c.read.new.self) piece = c.in_ok-count.ensures.bytes.0 in
    record {
      read = (bytes ++ piece, c.in_ok-feed.ensures bytes fed, Consumes-trans _ (rem c.pieces.source) _ bytes piece consumed read);
      quiet = search rules;
      room = search rules;
    }

pub returns-clause-answer : goal.returns-clause-answer
returns-clause-answer g c =
    let before = g.S.ByteSource.remaining c.args.source.now in
    (told before, tells_told before, tt)

pub returns-clause-far : goal.returns-clause-far
returns-clause-far g c =
    let rem = g.S.ByteSource.remaining in
    let (bytes, fed, consumed) = c.pieces.invariant.read in
    reads_on c.pieces.lines c.pieces.begun.items bytes [] (rem c.args.source.now) (rem c.pieces.source) fed
    (Consumes-trans _ (rem c.pieces.source) _ bytes [] consumed (Consumes-nil (rem c.pieces.source))) (omega arith)
