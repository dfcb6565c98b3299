-- The lines before, and then the next one, or what is left of the piece.
use Rattle.std.proofs.Common.{take, sym, refl}
use Rattle.std.proofs.lemmas.Result.{err_from_is_err_and}
use Rattle.log_file.proofs.LineFeeds.{cut_at_feed, front_is_one_line, none_is_one_line}
use Rattle.log_file.proofs.TakenParts.{comes_to, goes_on, line_refused, rest_refused, rest_taken}
use Rattle.log_file.proofs.record_reader.RecordReader.feed_one.Goals as goal

pub loop-at-preserved : goal.loop-at-preserved
loop-at-preserved c =
    let rest = c.loop-at.rest.now in
    let at = c.in-Some.at in
    let first = c.in-Some.ensures in
    goes_on c.loop-at.invariant (take at rest) _ (front_is_one_line rest at first.0) (cut_at_feed rest at first.0 first.1)
    c.end.new.self c.in_ok-logged.logged c.in_ok-logged.ensures.taken (sym c.if-is_some.ensures)

pub returns-then-is_some-clause-fed : goal.returns-then-is_some-clause-fed
returns-then-is_some-clause-fed c =
    let rest = c.loop-at.rest.now in
    let at = c.in-Some.at in
    let first = c.in-Some.ensures in
    comes_to c.loop-at.invariant (take at rest) _ (front_is_one_line rest at first.0) (cut_at_feed rest at first.0 first.1)
    c.end.new.self c.in_ok-logged.logged c.in_ok-logged.ensures.taken (sym c.if-is_some.ensures)

pub returns-in_err-logged-clause-fed : goal.returns-in_err-logged-clause-fed
returns-in_err-logged-clause-fed c = λ bytes records had.
    let p = err_from_is_err_and c.from_residual-in_err-logged.result c.from_residual-in_err-logged.ensures.1 in
    let rest = c.loop-at.rest.now in
    let at = c.in-Some.at in
    let first = c.in-Some.ensures in
    let refused = c.in_err-logged.ensures.refused in
    rw (p.1, p.2) (
      refused.1,
      line_refused c.loop-at.invariant (take at rest) _ (front_is_one_line rest at first.0) (cut_at_feed rest at first.0 first.1)
          c.in_err-logged.field-0.0 refused.0 bytes records had,
    )

pub returns-in_err-begin-clause-fed : goal.returns-in_err-begin-clause-fed
returns-in_err-begin-clause-fed c = λ bytes records had.
    let p = err_from_is_err_and c.from_residual-in_err-begin.result c.from_residual-in_err-begin.ensures.1 in
    let one = none_is_one_line c.loop-at.rest.now c.in_default.ensures in
    let refused = c.in_err-begin.ensures.refused in
    rw (p.1, p.2, refused.1) (refl, rest_refused c.loop-at.invariant one bytes records had c.in_err-begin.field-0.0 refused.0)

pub returns-clause-fed : goal.returns-clause-fed
returns-clause-fed c = λ bytes records had.
    let one = none_is_one_line c.loop-at.rest.now c.in_default.ensures in
    rw c.in_ok-begin.ensures.begun (refl, rest_taken c.loop-at.invariant one bytes records had c.in_ok-begin.ensures.fits)
