-- Nothing is written where memory was refused.
use Rattle.std.proofs.Common.{[]}
use Rattle.std.proofs.lemmas.Result.{err_from_is_err_and}
use Rattle.merge_judge.specs.OrderText.{end_line}
use Rattle.merge_judge.proofs.WritingFacts.{none_written, end_line_some}
use Rattle.merge_judge.proofs.order_text.OrderTextOrder.end.Goals as goal

pub returns-in_err-push_end-clause-written : goal.returns-in_err-push_end-clause-written
returns-in_err-push_end-clause-written g c =
    let p = err_from_is_err_and c.from_residual.result c.from_residual.ensures.1 in
    rw p.1 (none_written (g.W.ByteSink.contents c.args.out.now) c.args.self (end_line c.args.count) [] p.0 (end_line_some c.args.count))
