use Rattle.std.proofs.Common.{[], subst, append-nil}
use Rattle.std.proofs.lemmas.Result.{err_from_is_err_and}
use Rattle.trace.specs.Texts.{IsFault}
use Rattle.trace.proofs.trace.Trace.parse.Goals as goal

pub returns-in_err-feed : goal.returns-in_err-feed
returns-in_err-feed c =
    let p = err_from_is_err_and c.from_residual.result c.from_residual.ensures.1 in
    let fed = c.in_err-feed.ensures.fed [] c.new-reader.ensures in
    rw (p.1, p.2) (subst (λ b. IsFault b c.in_err-feed.field-0.0) (append-nil c.args.text.now) (fed.1 []))
