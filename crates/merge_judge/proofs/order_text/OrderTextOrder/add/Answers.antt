-- Nothing is written where memory was refused.
use Rattle.std.proofs.Common.{[]}
use Rattle.std.proofs.lemmas.Result.{err_from_is_err_and}
use Rattle.merge_judge.specs.OrderText.{id_line}
use Rattle.merge_judge.proofs.WritingFacts.{none_written, id_line_some}
use Rattle.merge_judge.proofs.order_text.OrderTextOrder.add.Goals as goal

pub returns-in_err-push_id-clause-written : goal.returns-in_err-push_id-clause-written
returns-in_err-push_id-clause-written g c =
    let p = err_from_is_err_and c.from_residual.result c.from_residual.ensures.1 in
    rw p.1 (none_written (g.W.ByteSink.contents c.args.out.now) c.args.self.now (id_line c.args.id) [] p.0 (id_line_some c.args.id))
