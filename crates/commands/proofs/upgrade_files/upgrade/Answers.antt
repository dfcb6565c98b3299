use Rattle.std.proofs.Common.{rules, ◌≡◌, sym, vec_len, length, Err}
use Rattle.command_line.specs.declared.request.Request.TheVariants as request
use Rattle.command_line.specs.RunFiles.{IsLogName}
use Rattle.commands.proofs.Files.{keeps_after}
use Rattle.commands.proofs.Performed.{not_printed, printed, read_refused}
use Rattle.commands.proofs.Upgrades.{anew}
use Rattle.commands.specs.Refusals.{from_judge}
use Rattle.commands.specs.declared.answer.CommandAnswer.TheVariants.{Done}
use Rattle.commands.proofs.upgrade_files.upgrade.Goals as goal

pub returns-in_err-read : goal.returns-in_err-read
returns-in_err-read g c =
    let refusal = from_judge c.in_err-read.field-0.0 in
    let is : c.from_residual.result ≡ Err refusal = search rules in
    rw is (read_refused _ _ _ _ _ (request.Upgrade c.args.asked.now) refusal (c.in_err-read.ensures.err (request.Upgrade c.args.asked.now) (sym c.as_slice.ensures.value)) c.in_err-read.ensures.read tt)

pub returns-in_err-count : goal.returns-in_err-count
returns-in_err-count g c =
    let files = g.F.Folder.files in
    let keeps = keeps_after (files c.args.folder.now) (files c.read_log_files.new.folder) (files c.write_logs.new.folder) (IsLogName c.args.asked.now.out.now) c.in_ok-read.ensures.read c.in_err-count.ensures.others in
    let is : c.from_residual-in_err-count.result ≡ Err c.in_err-count.field-0.0 = search rules in
    rw is (not_printed _ _ _ _ _ (request.Upgrade c.args.asked.now) c.in_err-count.field-0.0 c.in_err-count.ensures.err keeps tt)

pub returns : goal.returns
returns g c =
    let files = g.F.Folder.files in
    let asked = c.args.asked.now in
    let many : length c.as_slice-logs.result.now ≡ vec_len asked.files = search rules in
    let keeps = keeps_after (files c.args.folder.now) (files c.read_log_files.new.folder) (files c.write_logs.new.folder) (IsLogName asked.out.now) c.in_ok-read.ensures.read c.in_ok-count.ensures.others in
    printed _ _ _ _ _ (request.Upgrade asked) (Done c.in_ok-count.count) _ c.print_done.ensures keeps
    (λ took. record {
      sound = λ zero. tt;
      flat = λ zero. tt;
      no = λ one. tt;
      order = λ zero. tt;
      printed = tt;
      shown = tt;
      counted = tt;
      vetted = λ zero. tt;
      another = tt;
      upgraded = λ zero. anew (files c.args.folder.now) (files c.read_log_files.new.folder) (files c.write_logs.new.folder) asked _ _ _ _ c.as_slice.ensures.value c.as_slice-logs.ensures.value many c.in_ok-read.ensures.ok c.in_ok-count.ensures.logs;
      yes = λ zero apart. tt;
    }) tt (λ refusal short. tt)
