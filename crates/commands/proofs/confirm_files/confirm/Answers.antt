use Rattle.std.proofs.Common.{rules, ◌≡◌, Err, inl, refl}
use Rattle.command_line.specs.declared.request.Request.TheVariants as request
use Rattle.log_file.specs.Sinks.{line, sink_of}
use Rattle.commands.proofs.Files.{keeps_files}
use Rattle.commands.proofs.Performed.{printed, read_refused, said, unsaid}
use Rattle.commands.proofs.Searches.{certificate_right, confirmed, trace_line}
use Rattle.commands.specs.SearchAnswers.{search_status, search_text}
use Rattle.commands.specs.declared.answer.CommandAnswer.TheVariants.{Searched}
use Rattle.commands.proofs.confirm_files.confirm.Goals as goal

pub returns-in_err-answer : goal.returns-in_err-answer
returns-in_err-answer g c =
    let refusal = c.in_err-answer.field-0.0 in
    let is : c.from_residual.result ≡ Err refusal = search rules in
    rw is (read_refused _ _ _ _ _ (request.Confirm c.args.asked.now) refusal c.in_err-answer.ensures.err c.in_err-answer.ensures.read (inl refl))

pub returns : goal.returns
returns g c =
    let files = g.F.Folder.files in
    let sink = sink_of g.O.ByteSink.contents g.O.ByteSink.failed in
    let old = files c.args.folder.now in
    let new = files c.answer_of.new.folder in
    let asked = c.args.asked.now in
    let answer = c.in_ok-answer.answer in
    let out = sink c.args.out.now in
    let out' = sink c.print_answer.new.out in
    let right = certificate_right old.told asked answer c.in_ok-answer.ensures.ok in
    let is = trace_line old.told asked.trace answer right in
    printed _ _ _ _ _ (request.Confirm asked) (Searched answer) _ c.print_answer.ensures (keeps_files _ _ _ c.in_ok-answer.ensures.read)
    (λ took. confirmed old new out out' asked answer right (said old.told out out' (request.Confirm asked) (search_status answer) (line (search_text answer)) is took))
    tt (λ refusal why. unsaid old.told out out' (request.Confirm asked) (Searched answer) (search_status answer) (search_text answer) refusal refl is why)
