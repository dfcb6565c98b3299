-- One record more, and a piece that is refused.
use Rattle.std.proofs.Common.{rules, ◌≡◌, ◌++◌, ◌∷◌, [], Err, None, Ok, arith}
use Rattle.std.proofs.lemmas.List.{length-drop, take_rest}
use Rattle.std.proofs.lemmas.Result.{err_from_is_err_and}
use Rattle.log_file.proofs.TakenParts.{all_taken, one_taken, piece_taken, rest_settled, room_for, some_used, still_same}
use Rattle.log_file.proofs.record_reader.RecordReader.feed_all.Goals as goal

pub keep-requires : goal.keep-requires
keep-requires g c =
    let e = c.in_ok-used.ensures in
    room_for c.loop-used.invariant.0 c.feed_one.new.self e.core e.cores c.in_ok-used.field-0 e.fed c.in_default-Some.logged c.in_default-Some.is-1

pub loop-used-smaller : goal.loop-used-smaller
loop-used-smaller g c =
    let e = c.in_ok-used.ensures in
    let some = some_used c.loop-used.invariant.0 c.feed_one.new.self e.core e.cores c.in_ok-used.field-0 e.fed c.in_default-Some.logged c.in_default-Some.is-1 in
    let rest = c.loop-used.rest.now in
    rw (take_rest rest c.in_ok-used.field-0.0) (omega (arith, some, e.within, length-drop c.in_ok-used.field-0.0 rest))

pub loop-used-preserved : goal.loop-used-preserved
loop-used-preserved g c =
    let e = c.in_ok-used.ensures in
    let records = g.L.RecordList.records in
    let kept : records c.keep.new.self ≡ records c.loop-used.records ++ c.in_default-Some.logged ∷ [] = search rules in (
      rw kept (one_taken c.loop-used.invariant.0 c.feed_one.new.self e.core e.cores c.in_ok-used.field-0 e.fed c.in_default-Some.logged c.in_default-Some.is-1 _
          (take_rest c.loop-used.rest.now c.in_ok-used.field-0.0)),
      search rules,
    )

pub returns-in_err-used-clause-fed : goal.returns-in_err-used-clause-fed
returns-in_err-used-clause-fed g c =
    let p = err_from_is_err_and c.from_residual-in_err-used.result c.from_residual-in_err-used.ensures.1 in
    let e = c.in_err-used.ensures in
    let so_far = c.loop-used.invariant.0 in
    let f = c.in_err-used.field-0.0 in
    rw (p.1, p.2) (piece_taken (Err f) c.in_ok-faultless.ensures (still_same so_far c.feed_one.new.self e.core e.cores)
    (rest_settled so_far c.feed_one.new.self e.core e.cores f e.fed))

pub returns-clause-fed : goal.returns-clause-fed
returns-clause-fed g c =
    let e = c.in_ok-used.ensures in
    let so_far = c.loop-used.invariant.0 in
    let none : c.in_ok-used.field-0.1 ≡ None = search rules in
    piece_taken (Ok tt) c.in_ok-faultless.ensures (still_same so_far c.feed_one.new.self e.core e.cores)
    (all_taken so_far c.feed_one.new.self e.core e.cores c.in_ok-used.field-0 e.fed none)
