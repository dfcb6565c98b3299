use Rattle.std.proofs.Common.{rules, ◌≡◌, ℕ, List, refl, subst, Err}
use Rattle.command_line.specs.declared.request.Request.TheVariants as request
use Rattle.host_files.specs.Files.{Files, IsUnread}
use Rattle.log_file.specs.Devices.{Tells}
use Rattle.commands.proofs.Files.{only_read_after}
use Rattle.commands.specs.Confirming.{Certifies}
use Rattle.commands.proofs.confirm_files.answer_of.Goals as goal

pub returns-in_err-read-clause-err : goal.returns-in_err-read-clause-err
returns-in_err-read-clause-err g c =
    let is : c.from_residual.result ≡ Err c.in_err-read.field-0.0 = search rules in
    rw is (c.in_err-read.ensures.err (request.Confirm c.args.asked.now) refl refl)

pub returns-in-Err-Read-clause-err : goal.returns-in-Err-Read-clause-err
returns-in-Err-Read-clause-err g c =
    let files = g.F.Folder.files in
    let new = files c.read_text.new.folder in
    let unread = λ (f : Files). IsUnread g.F.Source.ByteSource.remaining g.F.Source.ByteSource.failed f new c.args.asked.now.certificate.now in
    let why : unread (files c.read_files.new.folder) = rw c.in-Err-Read.field-0-is at c.in-Err-Read.ensures.err in
    record { unread = subst unread c.in_ok-read.ensures.quiet why; of_file = tt }

pub returns-in-Err-Read-clause-read : goal.returns-in-Err-Read-clause-read
returns-in-Err-Read-clause-read g c = only_read_after _ _ _ c.in_ok-read.ensures.quiet c.in-Err-Read.ensures.read

pub returns-in-Err-OutOfMemory-clause-read : goal.returns-in-Err-OutOfMemory-clause-read
returns-in-Err-OutOfMemory-clause-read g c = only_read_after _ _ _ c.in_ok-read.ensures.quiet c.in-Err-OutOfMemory.ensures.read

pub returns-in-Ok-look_at-clause-ok : goal.returns-in-Ok-look_at-clause-ok
returns-in-Ok-look_at-clause-ok g c =
    let asked = c.args.asked.now in
    let cores = c.in_ok-read.read.trace in
    let text = c.in-Ok.text.items in
    let tells = subst (λ (f : Files). Tells (f.told asked.certificate.now) text) c.in_ok-read.ensures.quiet c.in-Ok.ensures.ok in
    let certifies = subst (λ (t : List ℕ). Certifies asked.trace cores t c.in-Ok-look_at.answer) c.as_slice.ensures.value c.in-Ok-look_at.ensures in
    (cores, c.in_ok-read.ensures.ok, (text, tells, certifies))
