use Rattle.std.proofs.Common.{rules, inl, ◌≡◌, refl, length, Err}
use Rattle.command_line.specs.declared.request.Request.TheVariants as request
use Rattle.verdict.specs.Counts.{IsInRange}
use Rattle.commands.specs.LogFiles.{AreSourcesOf}
use Rattle.commands.specs.Refusals.{from_judge}
use Rattle.commands.proofs.Checks.{examined_fault, logs_examined}
use Rattle.commands.proofs.LogFiles.{told_by_sources, unopened_files}
use Rattle.verdict.specs.CoreFaultsOf.{given}
use Rattle.commands.proofs.check_files.examine_files.Goals as goal

pub returns-in_err-sources-clause-err : goal.returns-in_err-sources-clause-err
returns-in_err-sources-clause-err g c =
    let files = g.F.Folder.files in
    let old = files c.args.folder.now in
    let new = files c.open_all.new.folder in
    let remaining = g.F.Source.ByteSource.remaining in
    let failed = g.F.Source.ByteSource.failed in
    let names = c.args.asked.now.files.items in
    let refusal = from_judge c.in_err-sources.field-0.0 in
    let is : c.from_residual.result ≡ Err refusal = search rules in
    rw is (unopened_files remaining failed old new names c.in_err-sources.field-0.0 (search rules) (request.Check c.args.asked.now) refl)

pub returns-in_err-examined-clause-err : goal.returns-in_err-examined-clause-err
returns-in_err-examined-clause-err g c =
    let files = g.F.Folder.files in
    let old = files c.args.folder.now in
    let new = files c.open_all.new.folder in
    let remaining = g.F.Source.ByteSource.remaining in
    let are : AreSourcesOf old.told remaining c.as_mut_slice.result.now c.args.asked.now.files.items = search rules in
    let is : c.from_residual-in_err-examined.result ≡ Err (from_judge c.in_err-examined.field-0.0) = search rules in
    rw is (examined_fault remaining g.F.Source.ByteSource.failed old new c.args.asked.now _ _ c.in_err-examined.field-0.0 are c.in_err-examined.ensures.read)

pub returns-in_err-examined-clause-read : goal.returns-in_err-examined-clause-read
returns-in_err-examined-clause-read g c = inl c.in_ok-sources.ensures.quiet

pub returns-clause-verdict : goal.returns-clause-verdict
returns-clause-verdict g c =
    let told = (g.F.Folder.files c.args.folder.now).told in
    let remaining = g.F.Source.ByteSource.remaining in
    let names = c.args.asked.now.files.items in
    let are : AreSourcesOf told remaining c.as_mut_slice.result.now names = search rules in
    let (texts, tell, upto, by, answers, when_yes) = c.in_ok-examined.ensures.exact in
    (texts, told_by_sources told remaining _ names texts are tell, answers, when_yes)

pub returns-clause-examined : goal.returns-clause-examined
returns-clause-examined g c =
    let told = (g.F.Folder.files c.args.folder.now).told in
    let remaining = g.F.Source.ByteSource.remaining in
    let names = c.args.asked.now.files.items in
    let are : AreSourcesOf told remaining c.as_mut_slice.result.now names = search rules in
    let range : IsInRange (length names) = search rules in
    let (texts, tell, upto, (logs, spell, is), answers, when_yes) = c.in_ok-examined.ensures.exact in
    let texts_are = told_by_sources told remaining _ names texts are tell in
    (texts, texts_are, (logs, spell, (is, logs_examined told names (given c.args.programs) texts logs c.in_ok-examined.examined range texts_are spell is)))

pub returns-clause-read : goal.returns-clause-read
returns-clause-read g c = inl c.in_ok-sources.ensures.quiet
