use Rattle.std.proofs.Common.{rules, ◌≡◌, Err}
use Rattle.command_line.specs.declared.request.Request.TheVariants as request
use Rattle.log_file.specs.Sinks.{sink_of}
use Rattle.commands.proofs.Files.{keeps_files}
use Rattle.commands.proofs.Performed.{printed, read_refused}
use Rattle.commands.proofs.Searches.{vet_fault, vetted}
use Rattle.commands.specs.declared.answer.CommandAnswer.TheVariants.{Certified}
use Rattle.commands.proofs.confirm_files.vet.Goals as goal

pub returns-in_err-answer : goal.returns-in_err-answer
returns-in_err-answer g c =
    let refusal = c.in_err-answer.field-0.0 in
    let is : c.from_residual.result ≡ Err refusal = search rules in
    rw is (read_refused _ _ _ _ _ (request.Vet c.args.asked.now) refusal (vet_fault _ c.args.asked.now refusal c.in_err-answer.ensures.err) c.in_err-answer.ensures.read tt)

pub returns : goal.returns
returns g c =
    let files = g.F.Folder.files in
    let sink = sink_of g.O.ByteSink.contents g.O.ByteSink.failed in
    let asked = c.args.asked.now in
    let answer = c.in_ok-answer.answer in
    printed _ _ _ _ _ (request.Vet asked) (Certified answer) _ c.print_answer.ensures (keeps_files _ _ _ c.in_ok-answer.ensures.read)
    (λ took. vetted (files c.args.folder.now) (files c.answer_of.new.folder) (sink c.args.out.now) (sink c.print_answer.new.out) asked answer c.in_ok-answer.ensures.ok) tt (λ refusal why. tt)
