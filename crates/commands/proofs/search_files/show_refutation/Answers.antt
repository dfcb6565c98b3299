use Rattle.std.proofs.Common.{rules, ◌≡◌, Err, inl, inr, refl, subst}
use Rattle.std.specs.Prelude.{string_bytes}
use Rattle.std.specs.Io.KnownBytes.{Appends}
use Rattle.command_line.specs.declared.request.Request.TheVariants as request
use Rattle.log_file.specs.Devices.{TakesBeginning}
use Rattle.log_file.specs.Sinks.{line, sink_of}
use Rattle.refutation.proofs.Sound.{refutations_hold}
use Rattle.refutation.specs.Grammar.{refutation_text}
use Rattle.commands.proofs.Performed.{answered, not_printed}
use Rattle.commands.proofs.Puts.{keeps_both, keeps_first}
use Rattle.commands.proofs.Searches.{found, holds_still, holds_such, no_answer, shows_no, trace_line}
use Rattle.commands.specs.Outputs.{IsNameOf}
use Rattle.commands.specs.SearchAnswers.{search_status, search_text}
use Rattle.commands.specs.Searching.{IsRefutationText}
use Rattle.commands.specs.declared.answer.CommandAnswer.TheVariants.{Searched}
use Rattle.commands.specs.declared.place.Output.TheVariants as output
use Rattle.commands.specs.declared.refusal.Refusal.TheVariants.{OutOfMemory, Unwritten}
use Rattle.commands.proofs.search_files.show_refutation.Goals as goal

pub returns-in_err-text : goal.returns-in_err-text
returns-in_err-text g c =
    let is : c.from_residual.result ≡ Err OutOfMemory = search rules in
    rw is (not_printed _ _ _ _ _ (request.Search c.args.asked.now) OutOfMemory tt (λ name none. refl) (inl refl))

pub returns-in_err-put_refutation : goal.returns-in_err-put_refutation
returns-in_err-put_refutation g c =
    let files = g.F.Folder.files in
    let asked = c.args.asked.now in
    let refusal = c.in_err-put_refutation.field-0.0 in
    let is : c.from_residual-in_err-put_refutation.result ≡ Err refusal = search rules in
    rw is (not_printed _ _ _ _ _ (request.Search asked) refusal c.in_err-put_refutation.ensures.err
    (keeps_first (files c.args.folder.now) (files c.put_refutation.new.folder) asked c.in_err-put_refutation.ensures.files) (inl refl))

pub returns-in_err-put_picture : goal.returns-in_err-put_picture
returns-in_err-put_picture g c =
    let files = g.F.Folder.files in
    let asked = c.args.asked.now in
    let refusal = c.in_err-put_picture.field-0.0 in
    let is : c.from_residual-in_err-put_picture.result ≡ Err refusal = search rules in
    rw is (not_printed _ _ _ _ _ (request.Search asked) refusal c.in_err-put_picture.ensures.err
    (keeps_both (files c.args.folder.now) (files c.put_refutation.new.folder) (files c.put_picture.new.folder) asked c.in_ok-put_refutation.ensures.files c.in_err-put_picture.ensures.files) (inl refl))

pub returns-in_err-write_all : goal.returns-in_err-write_all
returns-in_err-write_all g c =
    let files = g.F.Folder.files in
    let sink = sink_of g.O.ByteSink.contents g.O.ByteSink.failed in
    let old = files c.args.folder.now in
    let asked = c.args.asked.now in
    let cores = c.args.read.now.trace in
    let answer = c.no_of-answer.result in
    let right = no_answer asked.trace cores c.count_of.result answer c.no_of-answer.ensures c.count_of.ensures.count (refutations_hold cores c.args.refutation.now c.requires.refutation) in
    let is = trace_line old.told asked.trace answer (cores, c.requires.read, right) in
    let (more, same) = c.in_ok-text.ensures in
    let begun : TakesBeginning (sink c.args.out.now).contents (sink c.write_all.new.sink).contents (string_bytes c.in_ok-text.text) = search rules in
    let unwritten : c.from_residual-in_err-write_all.result ≡ Err (Unwritten output.Standard) = search rules in
    rw unwritten (not_printed _ _ _ _ _ (request.Search asked) (Unwritten output.Standard) tt
    (keeps_both old (files c.put_refutation.new.folder) (files c.put_picture.new.folder) asked c.in_ok-put_refutation.ensures.files c.in_ok-put_picture.ensures.files)
    (inr (refl, search_status answer, line (search_text answer), is, (more, subst (TakesBeginning (sink c.args.out.now).contents (sink c.write_all.new.sink).contents) same begun))))

pub returns : goal.returns
returns g c =
    let files = g.F.Folder.files in
    let sink = sink_of g.O.ByteSink.contents g.O.ByteSink.failed in
    let old = files c.args.folder.now in
    let between = files c.put_refutation.new.folder in
    let new = files c.put_picture.new.folder in
    let asked = c.args.asked.now in
    let cores = c.args.read.now.trace in
    let steps = c.args.refutation.now in
    let answer = c.no_of-answer.result in
    let right = no_answer asked.trace cores c.count_of.result answer c.no_of-answer.ensures c.count_of.ensures.count (refutations_hold cores steps c.requires.refutation) in
    let is = trace_line old.told asked.trace answer (cores, c.requires.read, right) in
    let out = sink c.args.out.now in
    let out' = sink c.write_all.new.sink in
    let (more, same) = c.in_ok-text.ensures in
    let took : Appends out.contents out'.contents (string_bytes c.in_ok-text.text) = search rules in
    let holds = holds_such between.told asked.refutation (λ bytes. bytes ≡ refutation_text steps) (IsRefutationText cores) (λ bytes same. (steps, c.requires.refutation, same)) c.in_ok-put_refutation.ensures.ok in
    let shows = shows_no new.told asked cores c.count_of.result answer c.no_of-answer.ensures (λ apart.
    holds_still between.told new.told asked.refutation (IsNameOf asked.picture) (IsRefutationText cores) apart c.in_ok-put_picture.ensures.files holds) in
    answered _ _ _ _ _ (request.Search asked) (Searched answer) (keeps_both old between new asked c.in_ok-put_refutation.ensures.files c.in_ok-put_picture.ensures.files)
    (found old new out out' asked cores answer c.requires.read right shows (line (search_text answer), is, (more, subst (Appends out.contents out'.contents) same took))) tt
