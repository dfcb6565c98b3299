use Rattle.std.proofs.Common.{rules, inl, ◌≡◌, refl, Err}
use Rattle.command_line.specs.declared.request.Request.TheVariants as request
use Rattle.host_files.specs.Files.{IsUnread}
use Rattle.log_file.specs.Sinks.{sink_of}
use Rattle.commands.specs.LogFiles.{AreSourcesOf}
use Rattle.commands.proofs.Files.{keeps_files}
use Rattle.commands.proofs.LogFiles.{told_by_sources, unopened_files}
use Rattle.commands.proofs.Orders.{OrdersTexts, merge_fault, nothing, order_answer}
use Rattle.commands.proofs.Performed.{answered, read_refused}
use Rattle.commands.specs.Refusals.{from_judge, from_merge}
use Rattle.commands.specs.declared.answer.CommandAnswer.TheVariants.{Ordered}
use Rattle.commands.proofs.order_files.order.Goals as goal

pub returns-in_err-sources : goal.returns-in_err-sources
returns-in_err-sources g c =
    let files = g.F.Folder.files in
    let old = files c.args.folder.now in
    let new = files c.open_all.new.folder in
    let sink = sink_of g.O.ByteSink.contents g.O.ByteSink.failed in
    let remaining = g.F.Source.ByteSource.remaining in
    let failed = g.F.Source.ByteSource.failed in
    let asked = c.args.asked.now in
    let refusal = from_judge c.in_err-sources.field-0.0 in
    let is : c.from_residual.result ≡ Err refusal = search rules in
    rw is (read_refused old new (IsUnread remaining failed old new) (sink c.args.out.now) (sink c.args.out.now) (request.Order asked) refusal
    (unopened_files remaining failed old new asked.files.items c.in_err-sources.field-0.0 (search rules) (request.Order asked) refl)
    c.in_err-sources.ensures.read (nothing (sink c.args.out.now)))

pub returns-in_err-verdict : goal.returns-in_err-verdict
returns-in_err-verdict g c =
    let files = g.F.Folder.files in
    let old = files c.args.folder.now in
    let new = files c.open_all.new.folder in
    let remaining = g.F.Source.ByteSource.remaining in
    let failed = g.F.Source.ByteSource.failed in
    let asked = c.args.asked.now in
    let refusal = from_merge c.in_err-verdict.field-0.0 in
    let are : AreSourcesOf old.told remaining c.as_mut_slice.result.now asked.files.items = search rules in
    let (texts, tell, answers, (written, appends, writes, stops)) = c.in_err-verdict.ensures.exact in
    let is : c.from_residual-in_err-verdict.result ≡ Err refusal = search rules in
    rw is (read_refused old new (IsUnread remaining failed old new) _ _ (request.Order asked) refusal
    (merge_fault remaining failed old new asked c.as_mut_slice.result.now c.merge_judge.new.readers c.in_err-verdict.field-0.0 are c.in_err-verdict.ensures.read)
    (inl c.in_ok-sources.ensures.quiet) (written, appends, writes))

pub returns : goal.returns
returns g c =
    let files = g.F.Folder.files in
    let old = files c.args.folder.now in
    let new = files c.open_all.new.folder in
    let sink = sink_of g.O.ByteSink.contents g.O.ByteSink.failed in
    let remaining = g.F.Source.ByteSource.remaining in
    let names = c.args.asked.now.files.items in
    let verdict = c.in_ok-verdict.verdict in
    let are : AreSourcesOf old.told remaining c.as_mut_slice.result.now names = search rules in
    let (texts, tell, answers, (written, appends, writes, stops)) = c.in_ok-verdict.ensures.exact in
    let texts_are = told_by_sources old.told remaining _ names texts are tell in
    let ordered : OrdersTexts old.told names (sink c.args.out.now) (sink c.merge_judge.new.order_out) verdict = (texts, texts_are, answers, (written, appends, writes)) in
    answered old new _ _ _ (request.Order c.args.asked.now) (Ordered verdict) (keeps_files old new _ (inl c.in_ok-sources.ensures.quiet))
    (order_answer old new _ _ c.args.asked.now verdict ordered) (verdict, refl, (texts, texts_are, answers))
