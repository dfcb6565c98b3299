-- A write that fails leaves some of the text.
use Rattle.std.proofs.Common.{List, ℕ, Err, [], ◌∙◌, subst}
use Rattle.std.proofs.lemmas.Result.{err_from_is_err_and}
use Rattle.merge_judge.specs.inner.Writing.{IsWritten}
use Rattle.merge_judge.proofs.WritingFacts.{cut_off}
use Rattle.merge_judge.proofs.order_text.OrderText.flush.Goals as goal

pub returns-in_err-write_all-clause-written : goal.returns-in_err-write_all-clause-written
returns-in_err-write_all-clause-written g c =
    let p = err_from_is_err_and c.from_residual.result c.from_residual.ensures.1 in
    let held = g.W.ByteSink.contents in
    rw p.1 (subst (λ (xs : List ℕ). IsWritten (held c.args.out.now) (held c.write_all.new.sink) xs (Err p.0) []) (c.as_bytes.ensures.value ∙ c.self.view_is)
    (cut_off (held c.args.out.now) (held c.write_all.new.sink) c.as_bytes.result.now [] p.0 c.in_err-write_all.ensures.cut))
