use Rattle.std.proofs.Common.{rules, ◌≡◌, refl, subst, Err}
use Rattle.std.specs.Prelude.{IfErr, IfOk, string_bytes}
use Rattle.command_line.specs.declared.request.Request.TheVariants as request
use Rattle.host_files.specs.Files.{Files, IsOnlyRead, IsUnread}
use Rattle.commands.specs.inner.Explaining.{IsExplained}
use Rattle.commands.specs.inner.Performing.{IsReadFault}
use Rattle.commands.proofs.Performed.{given_fault}
use Rattle.commands.specs.declared.place.Input.TheVariants as input
use Rattle.commands.proofs.explain_files.tell.Goals as goal

pub returns-in_err-names-clause-err : goal.returns-in_err-names-clause-err
returns-in_err-names-clause-err g c =
    let refusal = c.in_err-names.field-0.0 in
    let is : c.from_residual.result ≡ Err refusal = search rules in
    rw is (given_fault _ (request.Explain c.args.asked.now) input.Names c.args.asked.now.names refusal refl c.in_err-names.ensures.err)

pub returns-clause-ok : goal.returns-clause-ok
returns-clause-ok g c =
    subst (λ (f : Files). IfOk c.tell_named.result (λ told. IsExplained f.told c.args.asked.now told.verdict (string_bytes told.text))) c.in_ok-names.ensures.quiet c.tell_named.ensures.ok

pub returns-clause-err : goal.returns-clause-err
returns-clause-err g c =
    let new = g.F.Folder.files c.tell_named.new.folder in
    subst (λ (f : Files). IfErr c.tell_named.result (IsReadFault (IsUnread g.F.Source.ByteSource.remaining g.F.Source.ByteSource.failed f new) (request.Explain c.args.asked.now)))
    c.in_ok-names.ensures.quiet c.tell_named.ensures.err

pub returns-clause-read : goal.returns-clause-read
returns-clause-read g c = subst (λ (f : Files). IsOnlyRead f (g.F.Folder.files c.tell_named.new.folder)) c.in_ok-names.ensures.quiet c.tell_named.ensures.read
