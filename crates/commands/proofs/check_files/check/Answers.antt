use Rattle.std.proofs.Common.{rules, ◌≡◌, refl, inl, subst, sym, Err}
use Rattle.command_line.specs.declared.request.Request.TheVariants as request
use Rattle.log_file.specs.Sinks.{line, sink_of}
use Rattle.verdict.specs.Statuses.{verdict_status}
use Rattle.verdict.specs.Texts.{verdict_text}
use Rattle.commands.proofs.Checks.{consistent_files, files_no, flat_files}
use Rattle.commands.proofs.Files.{keeps_files}
use Rattle.commands.proofs.Performed.{printed, read_refused, said, unsaid}
use Rattle.commands.specs.Checking.{FilesGet}
use Rattle.commands.specs.VerdictLines.{IsVerdictLine}
use Rattle.commands.specs.declared.answer.CommandAnswer.TheVariants.{Judged}
use Rattle.commands.proofs.check_files.check.Goals as goal

pub returns-in_err-found : goal.returns-in_err-found
returns-in_err-found g c =
    let refusal = c.in_err-found.field-0.0 in
    let is : c.from_residual.result ≡ Err refusal = search rules in
    rw is (read_refused _ _ _ _ _ (request.Check c.args.asked.now) refusal c.in_err-found.ensures.err c.in_err-found.ensures.read (inl refl))

pub returns : goal.returns
returns g c =
    let files = g.F.Folder.files in
    let old = files c.args.folder.now in
    let new = files c.judge.new.folder in
    let asked = c.args.asked.now in
    let sink = sink_of g.O.ByteSink.contents g.O.ByteSink.failed in
    let out = sink c.args.out.now in
    let out' = sink c.print_answer.new.out in
    let verdict = c.verdict.result in
    let gets = subst (FilesGet old.told asked) (sym c.verdict.ensures) c.in_ok-found.ensures.verdict in
    let is : IsVerdictLine old.told (request.Check asked) (verdict_status verdict) (line (verdict_text verdict)) = (verdict, gets, refl, refl) in
    printed old new _ out out' (request.Check asked) (Judged verdict) _ c.print_answer.ensures (keeps_files old new _ c.in_ok-found.ensures.read)
    (λ took. record {
      sound = consistent_files old.told asked verdict gets;
      flat = flat_files old.told asked verdict gets;
      no = files_no old.told asked verdict gets;
      order = λ zero. tt;
      printed = said old.told out out' (request.Check asked) (verdict_status verdict) (line (verdict_text verdict)) is took;
      shown = tt;
      counted = tt;
      vetted = λ zero. tt;
      another = tt;
      upgraded = λ zero. tt;
      yes = λ zero apart. tt;
    }) tt (λ refusal short. unsaid old.told out out' (request.Check asked) (Judged verdict) (verdict_status verdict) (verdict_text verdict) refusal refl is short)
