-- What is merged is answered; and where the number of files is out of range, nothing is read.
use Rattle.std.proofs.Common.{map}
use Rattle.std.proofs.lemmas.Result.{err_from_is_err_and}
use Rattle.verdict.specs.VerdictOf.{verdict_of}
use Rattle.verdict.proofs.Soundness.{bad_count_answers}
use Rattle.log_file.proofs.Devices.{told}
use Rattle.log_file.proofs.Sets.{each_tells}
use Rattle.merge_judge.proofs.judging.merged_verdict.Goals as goal

pub returns-in_err-check_counts-clause-exact : goal.returns-in_err-check_counts-clause-exact
returns-in_err-check_counts-clause-exact g c =
    let p = err_from_is_err_and c.from_residual.result c.from_residual.ensures.1 in
    let fault = c.in_err-check_counts.field-0.0 in
    let bad = c.in_err-check_counts.ensures.err in
    let texts = map (λ reader. told (g.S.ByteSource.remaining reader)) c.args.readers.now in
    rw (p.1, p.2) (texts, each_tells g.S.ByteSource.remaining c.args.readers.now, bad_count_answers verdict_of texts fault bad)
