use Rattle.std.proofs.Common.{rules, ◌≡◌, Err}
use Rattle.command_line.specs.declared.request.Request.TheVariants as request
use Rattle.commands.proofs.Files.{keeps_files}
use Rattle.commands.proofs.Performed.{printed, read_refused}
use Rattle.commands.specs.declared.answer.CommandAnswer.TheVariants.{Readable}
use Rattle.commands.proofs.inspect_files.inspect.Goals as goal

pub returns-in_err-cores : goal.returns-in_err-cores
returns-in_err-cores g c =
    let refusal = c.in_err-cores.field-0.0 in
    let is : c.from_residual.result ≡ Err refusal = search rules in
    rw is (read_refused _ _ _ _ _ (request.Inspect c.args.asked.now) refusal c.in_err-cores.ensures.err c.in_err-cores.ensures.read tt)

pub returns : goal.returns
returns g c =
    let files = g.F.Folder.files in
    printed (files c.args.folder.now) (files c.cores_in.new.folder) _ _ _ (request.Inspect c.args.asked.now) (Readable c.args.asked.now.kind c.in_ok-cores.cores) _ c.print_answer.ensures
    (keeps_files _ _ _ c.in_ok-cores.ensures.read)
    (λ took. record {
      sound = λ zero. tt;
      flat = λ zero. tt;
      no = λ one. tt;
      order = λ zero. tt;
      printed = tt;
      shown = tt;
      counted = tt;
      vetted = λ zero. tt;
      another = tt;
      upgraded = λ zero. tt;
      yes = λ zero apart. tt;
    }) tt (λ refusal short. tt)
