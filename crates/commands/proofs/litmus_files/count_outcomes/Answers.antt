use Rattle.std.proofs.Common.{◌≡◌, Err, ap, if◌then◌else◌, refl, rules}
use Rattle.std.proofs.lemmas.Result.{err_from_is_err_and}
use Rattle.command_line.specs.declared.request.Request.TheVariants as request
use Rattle.commands.specs.Programmed.{config_of}
use Rattle.commands.specs.declared.answer.CommandAnswer.TheVariants.{Counted}
use Rattle.commands.specs.declared.place.Input.TheVariants as input
use Rattle.commands.specs.declared.place.Output.TheVariants as output
use Rattle.commands.specs.declared.refusal.Refusal.TheVariants.{OutOfMemory, Unwritten}
use Rattle.commands.proofs.Files.{keeps_after, keeps_files}
use Rattle.commands.proofs.Performed.{answered, input_fault, not_printed, read_refused}
use Rattle.commands.proofs.Tables.{counted}
use Rattle.commands.proofs.litmus_files.count_outcomes.Goals as goal

pub returns-in_err-collected : goal.returns-in_err-collected
returns-in_err-collected g c =
    let asked = c.args.asked.now in
    let refusal = c.in_err-collected.field-0.0 in
    let is : c.from_residual.result ≡ Err refusal = search rules in
    rw is (read_refused _ _ _ _ _ (request.Litmus asked) refusal (input_fault _ (request.Litmus asked) input.Test asked.test refusal refl c.in_err-collected.ensures.err) c.in_err-collected.ensures.read tt)

pub returns-in_default : goal.returns-in_default
returns-in_default g c = not_printed _ _ _ _ _ (request.Litmus c.args.asked.now) OutOfMemory tt (keeps_files _ _ _ c.in_ok-collected.ensures.read) tt

pub returns-in_err-write_table : goal.returns-in_err-write_table
returns-in_err-write_table g c =
    let p = err_from_is_err_and c.from_residual-in_err-write_table.result c.from_residual-in_err-write_table.ensures.1 in
    rw p.1 (not_printed _ _ _ _ _ (request.Litmus c.args.asked.now) p.0 p.2 (keeps_files _ _ _ c.in_ok-collected.ensures.read) tt)

pub returns-in_err-put_under : goal.returns-in_err-put_under
returns-in_err-put_under g c =
    let files = g.F.Folder.files in
    let refusal = Unwritten output.Statistics in
    let is : c.from_residual-in_err-put_under.result ≡ Err refusal = search rules in
    rw is (not_printed _ _ _ _ _ (request.Litmus c.args.asked.now) refusal tt
    (keeps_after (files c.args.folder.now) (files c.collected_of.new.folder) (files c.put_under.new.folder) _ c.in_ok-collected.ensures.read c.put_under.ensures.others) tt)

pub returns : goal.returns
returns g c =
    let files = g.F.Folder.files in
    let asked = c.args.asked.now in
    let collected = c.in_ok-collected.collected in
    let (sound, t, test, by) = c.in_ok-collected.ensures.ok in
    let total = counted asked.threads t (config_of asked.limits) asked.runs asked.seed asked.stress collected by in
    answered _ _ _ _ _ (request.Litmus asked) (Counted c.has_forbidden.result)
    (keeps_after (files c.args.folder.now) (files c.collected_of.new.folder) (files c.put_under.new.folder) _ c.in_ok-collected.ensures.read c.put_under.ensures.others)
    (record {
      sound = λ zero. tt;
      flat = λ zero. tt;
      no = λ one. tt;
      order = λ zero. tt;
      printed = tt;
      shown = tt;
      counted = (collected, c.in_ok-collected.ensures.ok, total, c.in_ok-write_table.ensures.written, ap (λ b. if b then 1 else 0) c.has_forbidden.ensures);
      vetted = λ zero. tt;
      another = tt;
      upgraded = λ zero. tt;
      yes = λ zero apart. tt;
    }) tt
