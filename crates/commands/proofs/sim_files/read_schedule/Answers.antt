use Rattle.std.proofs.Common.{refl, rules}
use Rattle.std.proofs.lemmas.Result.{err_from_is_err_and}
use Rattle.command_line.specs.declared.request.Request.TheVariants as request
use Rattle.host_files.specs.Files.{IsUnread}
use Rattle.commands.specs.declared.place.Input.TheVariants as input
use Rattle.commands.specs.declared.refusal.Refusal.TheVariants.{Unread}
use Rattle.commands.proofs.Performed.{input_fault, text_fault}
use Rattle.commands.proofs.sim_files.read_schedule.Goals as goal

pub returns-in_err-commands-clause-err : goal.returns-in_err-commands-clause-err
returns-in_err-commands-clause-err g c =
    let p = err_from_is_err_and c.from_residual.result c.from_residual.ensures.1 in
    rw p.1 (text_fault _ (request.Sim c.args.asked.now) p.0 p.2)

pub returns-in-Err-Read-clause-err : goal.returns-in-Err-Read-clause-err
returns-in-Err-Read-clause-err g c =
    let files = g.F.Folder.files in
    let unread = IsUnread g.F.Source.ByteSource.remaining g.F.Source.ByteSource.failed (files c.args.folder.now) (files c.read_text.new.folder) in
    input_fault unread (request.Sim c.args.asked.now) input.Schedule c.in-Some.name (Unread input.Schedule) c.in-Some.is (refl, search rules)
