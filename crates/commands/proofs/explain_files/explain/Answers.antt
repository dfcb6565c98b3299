use Rattle.std.proofs.Common.{rules, ◌≡◌, refl, inl, inr, subst, Err}
use Rattle.std.specs.Prelude.{string_bytes}
use Rattle.std.specs.Io.KnownBytes.{Appends}
use Rattle.command_line.specs.declared.request.Request.TheVariants as request
use Rattle.log_file.specs.Devices.{TakesBeginning}
use Rattle.log_file.specs.Sinks.{line, sink_of}
use Rattle.verdict.specs.Statuses.{verdict_status}
use Rattle.verdict.specs.Texts.{verdict_text}
use Rattle.commands.proofs.Checks.{consistent_files, files_no, flat_files}
use Rattle.commands.proofs.Explained.{unwritten}
use Rattle.commands.proofs.Files.{keeps_after}
use Rattle.commands.proofs.Performed.{answered, not_printed, read_refused}
use Rattle.commands.specs.Outputs.{IsNameOf}
use Rattle.commands.specs.declared.answer.CommandAnswer.TheVariants.{Explained}
use Rattle.commands.specs.declared.place.Output.TheVariants as output
use Rattle.commands.specs.declared.refusal.Refusal.TheVariants.{Unwritten}
use Rattle.commands.proofs.explain_files.explain.Goals as goal

pub returns-in_err-told : goal.returns-in_err-told
returns-in_err-told g c =
    let refusal = c.in_err-told.field-0.0 in
    let is : c.from_residual.result ≡ Err refusal = search rules in
    rw is (read_refused _ _ _ _ _ (request.Explain c.args.asked.now) refusal c.in_err-told.ensures.err c.in_err-told.ensures.read (unwritten _ _ c.args.asked.now refusal))

pub returns-in_err-put_picture : goal.returns-in_err-put_picture
returns-in_err-put_picture g c =
    let files = g.F.Folder.files in
    let keeps = keeps_after (files c.args.folder.now) (files c.tell.new.folder) (files c.put_picture.new.folder) (IsNameOf c.args.asked.now.picture) c.in_ok-told.ensures.read c.in_err-put_picture.ensures.files in
    let is : c.from_residual-in_err-put_picture.result ≡ Err c.in_err-put_picture.field-0.0 = search rules in
    rw (is, c.in_err-put_picture.ensures.err) (not_printed _ _ _ _ _ (request.Explain c.args.asked.now) (Unwritten output.Picture) tt keeps (inl refl))

pub returns-in_err-write_all : goal.returns-in_err-write_all
returns-in_err-write_all g c =
    let files = g.F.Folder.files in
    let sink = sink_of g.O.ByteSink.contents g.O.ByteSink.failed in
    let verdict = c.in_ok-told.told.verdict in
    let keeps = keeps_after (files c.args.folder.now) (files c.tell.new.folder) (files c.put_picture.new.folder) (IsNameOf c.args.asked.now.picture) c.in_ok-told.ensures.read c.in_ok-put_picture.ensures.files in
    let (more, same) = c.in_ok-told.ensures.ok.first in
    let begun : TakesBeginning (sink c.args.out.now).contents (sink c.write_all.new.sink).contents (string_bytes c.in_ok-told.told.text) = search rules in
    let is : c.from_residual-in_err-write_all.result ≡ Err (Unwritten output.Standard) = search rules in
    rw is (not_printed _ _ _ _ _ (request.Explain c.args.asked.now) (Unwritten output.Standard) tt keeps
    (inr (refl, verdict_status verdict, line (verdict_text verdict), (verdict, c.in_ok-told.ensures.ok.gets, refl, refl), (more, subst (TakesBeginning (sink c.args.out.now).contents (sink c.write_all.new.sink).contents) same begun))))

pub returns : goal.returns
returns g c =
    let files = g.F.Folder.files in
    let told = (files c.args.folder.now).told in
    let asked = c.args.asked.now in
    let verdict = c.in_ok-told.told.verdict in
    let sink = sink_of g.O.ByteSink.contents g.O.ByteSink.failed in
    let is = c.in_ok-told.ensures.ok in
    let (more, same) = is.first in
    let took : Appends (sink c.args.out.now).contents (sink c.write_all.new.sink).contents (string_bytes c.in_ok-told.told.text) = search rules in
    let keeps = keeps_after (files c.args.folder.now) (files c.tell.new.folder) (files c.put_picture.new.folder) (IsNameOf asked.picture) c.in_ok-told.ensures.read c.in_ok-put_picture.ensures.files in
    answered _ _ _ _ _ (request.Explain asked) (Explained verdict) keeps (record {
      sound = consistent_files told asked.check verdict is.gets;
      flat = flat_files told asked.check verdict is.gets;
      no = files_no told asked.check verdict is.gets;
      order = λ zero. tt;
      printed = (
        line (verdict_text verdict),
        (verdict, is.gets, refl, refl),
        (more, subst (Appends (sink c.args.out.now).contents (sink c.write_all.new.sink).contents) same took),
      );
      shown = tt;
      counted = tt;
      vetted = λ zero. tt;
      another = (string_bytes c.in_ok-told.told.text, took, is.another);
      upgraded = λ zero. tt;
      yes = λ zero apart. tt;
    }) tt
