-- A read that fails, a piece that is refused, and the end.
use Rattle.std.proofs.Common.{rules, ◌≡◌, ◌++◌, ◌<◌, List, [], ℕ, take, arith, length, length-append, append-nil, subst, ap, refl}
use Rattle.std.proofs.KnownBytes.{Consumes-nil, Consumes-trans}
use Rattle.std.specs.Io.KnownBytes.{Consumes, IsAtEnd}
use Rattle.log_file.specs.declared.fault.LogFault.TheVariants.{OutOfMemory, Read}
use Rattle.log_file.specs.Answering.{HasAnswered, fed_text}
use Rattle.log_file.specs.Answers.{IsFaultOf}
use Rattle.log_file.specs.Feeding.{IsSettled}
use Rattle.log_file.specs.Log.{Spells}
use Rattle.log_file.proofs.Bounded.{read_long}
use Rattle.log_file.proofs.Devices.{consumes_end}
use Rattle.log_file.proofs.FedAll.{answered}
use Rattle.log_file.proofs.Fed.{source_unread, source_refused, source_ended, same_log}
use Rattle.log_file.proofs.one_log.read_list.Goals as goal

pub returns-in_err-buffer-clause-answer : goal.returns-in_err-buffer-clause-answer
returns-in_err-buffer-clause-answer g c =
    source_unread g.L.RecordList.records c.args.reader.core c.args.reader.cores _ c.from_residual.result OutOfMemory c.from_residual.ensures.1 tt

pub pieces-init : goal.pieces-init
pieces-init g c =
    let before = g.S.ByteSource.remaining c.args.source.now in
    let records = g.L.RecordList.records c.args.list in
    record {
      answered = subst (λ (bytes : List ℕ). HasAnswered c.args.reader bytes records) c.requires.text c.requires;
      core = refl;
      cores = refl;
      read = subst (λ (bytes : List ℕ). Consumes before before bytes) c.requires.text (Consumes-nil before);
      quiet = refl;
      base = refl;
      room = search rules;
    }

pub returns-in_err-count-clause-answer : goal.returns-in_err-count-clause-answer
returns-in_err-count-clause-answer g c =
    source_unread g.L.RecordList.records c.args.reader.core c.args.reader.cores _ c.from_residual-in_err-count.result Read c.from_residual-in_err-count.ensures.1 tt

pub returns-in_err-check_end-clause-answer : goal.returns-in_err-check_end-clause-answer
returns-in_err-check_end-clause-answer g c =
    let inv = c.pieces.invariant in
    let rem = g.S.ByteSource.remaining in
    let records = g.L.RecordList.records in
    let bytes = fed_text c.pieces.reader (records c.pieces.list) in
    let zero : c.in_ok-count.count ≡ 0 = search rules in
    let end : IsAtEnd (rem c.read.new.self) = c.in_ok-count.ensures.bytes.1 zero (search rules) in
    let none : Consumes (rem c.pieces.source) (rem c.read.new.self) [] = rw zero at c.in_ok-count.ensures.bytes.0 in
    let all : Consumes (rem c.args.source.now) (rem c.read.new.self) bytes = rw (append-nil bytes) at (Consumes-trans _ (rem c.pieces.source) _ bytes [] inv.read none) in
    let fault : IsFaultOf c.pieces.reader.core c.pieces.reader.cores bytes c.in_err-check_end.field-0.0 = c.in_err-check_end.ensures.ends bytes (records c.pieces.list) inv.answered in
    source_ended records c.args.reader.core c.args.reader.cores (rem c.args.source.now) (rem c.read.new.self) c.from_residual-in_err-check_end.result c.in_err-check_end.field-0.0 c.from_residual-in_err-check_end.ensures.1
    bytes all end (same_log (λ core cores. IsFaultOf core cores bytes c.in_err-check_end.field-0.0) inv.core inv.cores fault)

pub returns-then-count-eq0-clause-answer : goal.returns-then-count-eq0-clause-answer
returns-then-count-eq0-clause-answer g c =
    let inv = c.pieces.invariant in
    let rem = g.S.ByteSource.remaining in
    let records = g.L.RecordList.records in
    let bytes = fed_text c.pieces.reader (records c.pieces.list) in
    let zero : c.in_ok-count.count ≡ 0 = search rules in
    let end : IsAtEnd (rem c.read.new.self) = c.in_ok-count.ensures.bytes.1 zero (search rules) in
    let none : Consumes (rem c.pieces.source) (rem c.read.new.self) [] = rw zero at c.in_ok-count.ensures.bytes.0 in
    let all : Consumes (rem c.args.source.now) (rem c.read.new.self) bytes = rw (append-nil bytes) at (Consumes-trans _ (rem c.pieces.source) _ bytes [] inv.read none) in
    let spelled : Spells c.pieces.reader.core c.pieces.reader.cores bytes (records c.pieces.list) = c.in_ok-check_end.ensures.ends bytes (records c.pieces.list) inv.answered in
    (bytes, consumes_end _ _ bytes all end, same_log (λ core cores. Spells core cores bytes (records c.pieces.list)) inv.core inv.cores spelled)

pub returns-in_err-feed_all-clause-answer : goal.returns-in_err-feed_all-clause-answer
returns-in_err-feed_all-clause-answer g c =
    let inv = c.pieces.invariant in
    let rem = g.S.ByteSource.remaining in
    let records = g.L.RecordList.records in
    let piece = take c.in_ok-count.count c.read.new.buf in
    let bytes = fed_text c.pieces.reader (records c.pieces.list) in
    let f = c.in_err-feed_all.field-0.0 in
    let read : Consumes (rem c.pieces.source) (rem c.read.new.self) piece = c.in_ok-count.ensures.bytes.0 in
    let settled : IsSettled c.pieces.reader.core c.pieces.reader.cores (bytes ++ piece) f = (c.in_err-feed_all.ensures.fed.fed inv.answered.faultless).1 in
    source_refused records c.args.reader.core c.args.reader.cores (rem c.args.source.now) (rem c.read.new.self) c.from_residual-in_err-feed_all.result f c.from_residual-in_err-feed_all.ensures.1
    (bytes ++ piece) (Consumes-trans _ (rem c.pieces.source) _ bytes piece inv.read read) (same_log (λ core cores. IsSettled core cores (bytes ++ piece) f) inv.core inv.cores settled)

pub pieces-smaller : goal.pieces-smaller
pieces-smaller g c =
    let records = g.L.RecordList.records in
    let piece = take c.in_ok-count.count c.read.new.buf in
    let bytes = fed_text c.pieces.reader (records c.pieces.list) in
    let now = c.feed_all.new in
    let after : HasAnswered now.self (bytes ++ piece) (records now.records) = answered c.in_ok-feed_all.field-0 c.in_ok-feed_all.ensures.fed in
    let few = read_long now.self (bytes ++ piece) (records now.records) after in
    let some : 0 < length piece = search rules in
    omega (arith, few, some, ap length after.text, length-append bytes piece)

pub pieces-preserved : goal.pieces-preserved
pieces-preserved g c =
    let inv = c.pieces.invariant in
    let rem = g.S.ByteSource.remaining in
    let records = g.L.RecordList.records in
    let piece = take c.in_ok-count.count c.read.new.buf in
    let bytes = fed_text c.pieces.reader (records c.pieces.list) in
    let now = c.feed_all.new in
    let read : Consumes (rem c.pieces.source) (rem c.read.new.self) piece = c.in_ok-count.ensures.bytes.0 in
    let after : HasAnswered now.self (bytes ++ piece) (records now.records) = answered c.in_ok-feed_all.field-0 c.in_ok-feed_all.ensures.fed in
    record {
      answered = subst (λ (all : List ℕ). HasAnswered now.self all (records now.records)) after.text after;
      core = search rules;
      cores = search rules;
      read = subst (λ (all : List ℕ). Consumes (rem c.args.source.now) (rem c.read.new.self) all) after.text (Consumes-trans _ (rem c.pieces.source) _ bytes piece inv.read read);
      quiet = search rules;
      base = search rules;
      room = search rules;
    }
