use Rattle.std.proofs.Common.{rules, ◌≡◌, ◌++◌, [], append-nil, refl, take}
use Rattle.std.proofs.KnownBytes.{Consumes-nil, Consumes-trans}
use Rattle.std.proofs.lemmas.Result.{err_from_is_err_and}
use Rattle.std.specs.Io.KnownBytes.{Consumes, IsAtEnd}
use Rattle.log_file.proofs.Devices.{consumes_end}
use Rattle.trace_replay.proofs.Readings.{failed_read}
use Rattle.commands.proofs.Performed.{of_text}
use Rattle.commands.proofs.trace_file.read_pieces.Goals as goal

pub pieces-init : goal.pieces-init
pieces-init g c = record {
  read = ([], c.new-reader.ensures, Consumes-nil (g.S.ByteSource.remaining c.args.source.now));
  quiet = refl;
  room = search rules;
}

pub returns-in_default-clause-err : goal.returns-in_default-clause-err
returns-in_default-clause-err g c = (
  refl,
  failed_read (g.S.ByteSource.failed c.args.source.now) (g.S.ByteSource.failed c.pieces.source) (g.S.ByteSource.failed c.read.new.self) c.pieces.invariant.quiet c.in_default.ensures.counts,
)

pub returns-in_err-finish-clause-err : goal.returns-in_err-finish-clause-err
returns-in_err-finish-clause-err g c =
    let p = err_from_is_err_and c.from_residual-in_err-finish.result c.from_residual-in_err-finish.ensures.1 in
    rw p.1 (of_text _ _ p.0 p.2)

pub returns-in_err-feed-clause-err : goal.returns-in_err-feed-clause-err
returns-in_err-feed-clause-err g c =
    let p = err_from_is_err_and c.from_residual-in_err-feed.result c.from_residual-in_err-feed.ensures.1 in
    rw p.1 (of_text _ _ p.0 p.2)

pub returns-then-count-eq0-clause-ok : goal.returns-then-count-eq0-clause-ok
returns-then-count-eq0-clause-ok g c =
    let rem = g.S.ByteSource.remaining in
    let (bytes, fed, consumed) = c.pieces.invariant.read in
    let zero : c.in-Ok.count ≡ 0 = search rules in
    let end : IsAtEnd (rem c.read.new.self) = c.in-Ok.ensures.bytes.1 zero (search rules) in
    let none : Consumes (rem c.pieces.source) (rem c.read.new.self) [] = rw zero at c.in-Ok.ensures.bytes.0 in
    let all : Consumes (rem c.args.source.now) (rem c.read.new.self) bytes = rw (append-nil bytes) at (Consumes-trans _ (rem c.pieces.source) _ bytes [] consumed none) in
    (bytes, consumes_end _ _ bytes all end, c.in_ok-finish.ensures.ends bytes fed)

pub pieces-preserved : goal.pieces-preserved
pieces-preserved g c =
    let rem = g.S.ByteSource.remaining in
    let (bytes, fed, consumed) = c.pieces.invariant.read in
    let piece = take c.in-Ok.count c.read.new.buf in
    let read : Consumes (rem c.pieces.source) (rem c.read.new.self) piece = c.in-Ok.ensures.bytes.0 in
    record {
      read = (bytes ++ piece, c.in_ok-feed.ensures.fed bytes fed, Consumes-trans _ (rem c.pieces.source) _ bytes piece consumed read);
      quiet = search rules;
      room = search rules;
    }
