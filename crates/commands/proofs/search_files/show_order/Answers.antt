use Rattle.std.proofs.Common.{rules, ◌≡◌, Err, inl, refl}
use Rattle.command_line.specs.declared.request.Request.TheVariants as request
use Rattle.log_file.specs.Sinks.{line, sink_of}
use Rattle.merge_judge.specs.OrderText.{order_text}
use Rattle.commands.proofs.Performed.{not_printed, printed, said, unsaid}
use Rattle.commands.proofs.Puts.{keeps_order}
use Rattle.commands.proofs.Searches.{found, holds_such, trace_line}
use Rattle.commands.specs.OrderTexts.{SpellsOrder}
use Rattle.commands.specs.SearchAnswers.{IsRightOf, search_text}
use Rattle.commands.specs.declared.answer.CommandAnswer.TheVariants.{Searched}
use Rattle.commands.specs.declared.search_answer.SearchAnswer.TheVariants.{Yes}
use Rattle.commands.proofs.search_files.show_order.Goals as goal

pub returns-in_err-put_order : goal.returns-in_err-put_order
returns-in_err-put_order g c =
    let files = g.F.Folder.files in
    let asked = c.args.asked.now in
    let refusal = c.in_err-put_order.field-0.0 in
    let is : c.from_residual.result ≡ Err refusal = search rules in
    rw is (not_printed _ _ _ _ _ (request.Search asked) refusal c.in_err-put_order.ensures.err
    (keeps_order (files c.args.folder.now) (files c.put_order.new.folder) asked c.in_err-put_order.ensures.files) (inl refl))

pub returns : goal.returns
returns g c =
    let files = g.F.Folder.files in
    let sink = sink_of g.O.ByteSink.contents g.O.ByteSink.failed in
    let old = files c.args.folder.now in
    let new = files c.put_order.new.folder in
    let asked = c.args.asked.now in
    let cores = c.args.trace.now in
    let order = c.args.order.now in
    let answer = Yes c.count_of.result in
    let right : IsRightOf cores answer = ((order, c.requires.order), c.count_of.ensures.count) in
    let is = trace_line old.told asked.trace answer (cores, c.requires.read, right) in
    let out = sink c.args.out.now in
    let out' = sink c.print_answer.new.out in
    let shows = holds_such new.told asked.order (λ bytes. bytes ≡ order_text order) (SpellsOrder cores) (λ bytes same. (order, c.requires.order, same)) c.in_ok-put_order.ensures.ok in
    printed _ _ _ _ _ (request.Search asked) (Searched answer) _ c.print_answer.ensures (keeps_order old new asked c.in_ok-put_order.ensures.files)
    (λ took. found old new out out' asked cores answer c.requires.read right (record { order = λ zero. shows; refutation = λ one apart. cc }) (said old.told out out' (request.Search asked) 0 (line (search_text answer)) is took))
    tt (λ refusal why. unsaid old.told out out' (request.Search asked) (Searched answer) 0 (search_text answer) refusal refl is why)
