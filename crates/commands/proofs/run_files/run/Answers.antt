use Rattle.std.proofs.Common.{◌≡◌, ℕ, length, None, Err, inl, refl, subst, rules}
use Rattle.command_line.specs.Files.{IsApart}
use Rattle.command_line.specs.declared.request.Request.TheVariants as request
use Rattle.lease_rule.specs.Ranges.{first_bad}
use Rattle.audit.specs.Runs.{IsRun, kept_log}
use Rattle.machine.specs.Runs.{AreSlicesLeft}
use Rattle.host_files.specs.Files.{Files}
use Rattle.commands.specs.Logs.{TellsFirst}
use Rattle.commands.specs.Numbers.{AreLeftAsFar, IsLeftName, numbers_of}
use Rattle.commands.specs.Outputs.{IsNameOf}
use Rattle.commands.specs.Programs.{AreProgramsIn}
use Rattle.commands.specs.Programmed.{config_of, log_format}
use Rattle.commands.specs.declared.answer.CommandAnswer.TheVariants.{Done}
use Rattle.commands.specs.declared.place.Input.TheVariants as input
use Rattle.commands.specs.declared.refusal.Refusal.TheVariants.{Config, Run}
use Rattle.commands.proofs.Files.{keeps_after}
use Rattle.commands.proofs.Leaving.{at_most_64, run_leaves, spared}
use Rattle.commands.proofs.Performed.{input_fault, not_printed, printed, read_refused, refused}
use Rattle.commands.proofs.Runs.{run_answered, run_numbers_apart}
use Rattle.commands.proofs.ThreadRuns.{left_by}
use Rattle.commands.proofs.run_files.run.Goals as goal

pub returns-in_err-config : goal.returns-in_err-config
returns-in_err-config g c =
    let refusal = Config c.in_err-config.field-0.0 in
    let is : c.from_residual.result ≡ Err refusal = search rules in
    rw is (read_refused _ _ _ _ _ (request.Run c.args.asked.now) refusal (record { unread = tt; of_file = tt }) (inl refl) tt)

pub returns-in_err-programs : goal.returns-in_err-programs
returns-in_err-programs g c =
    let asked = c.args.asked.now in
    let refusal = c.in_err-programs.field-0.0 in
    let is : c.from_residual-in_err-programs.result ≡ Err refusal = search rules in
    rw is (read_refused _ _ _ _ _ (request.Run asked) refusal (input_fault _ (request.Run asked) input.Programs asked.programs refusal refl c.in_err-programs.ensures.err) c.in_err-programs.ensures.read tt)

pub returns-in_err-count-in-Ok : goal.returns-in_err-count-in-Ok
returns-in_err-count-in-Ok g c =
    let files = g.F.Folder.files in
    let refusal = c.in_err-count-in-Ok.field-0.0 in
    let is : c.from_residual-in_err-count-in-Ok.result ≡ Err refusal = search rules in
    rw is (not_printed _ _ _ _ _ (request.Run c.args.asked.now) refusal c.in_err-count-in-Ok.ensures.err (keeps_after (files c.args.folder.now) (files c.read_programs.new.folder) (files c.leave.new.folder) (IsLeftName c.args.asked.now.out.now c.args.asked.now.statistics) c.in_ok-programs.ensures.read c.leave.ensures.others) tt)

pub returns-in-Ok : goal.returns-in-Ok
returns-in-Ok g c =
    let files = g.F.Folder.files in
    let old = files c.args.folder.now in
    let new = files c.leave.new.folder in
    let asked = c.args.asked.now in
    let set = c.in_ok-programs.programs in
    let read : AreProgramsIn old.told asked.programs.now set = search rules in
    let us = c.as_slice-units.result.now in
    let ss = c.as_slice-slices.result.now in
    let whole : IsRun set.programs (config_of asked.limits) c.in-Ok.end.units.items c.in-Ok.end.slices.items = search rules in
    let run : IsRun set.programs (config_of asked.limits) us ss = rw (c.as_slice-units.ensures.value, c.as_slice-slices.ensures.value) whole in
    let many : c.len.result ≡ length set.programs = search rules in
    let same : c.log_format.result ≡ log_format set.format = search rules in
    let (mid, put, keeps) = c.in_ok-count-in-Ok.ensures.ok in
    let first : TellsFirst (log_format set.format) mid.told asked.out.now (length set.programs) (kept_log us) (length set.programs) = rw (← many, ← same) put.0.logs in
    let told : IsApart (request.Run asked) → TellsFirst (log_format set.format) new.told asked.out.now (length set.programs) (kept_log us) (length set.programs) =
    λ apart. spared (log_format set.format) mid.told new.told asked.out.now (length set.programs) (kept_log us) (IsNameOf asked.statistics)
    (at_most_64 old.told asked.programs.now set read) (run_numbers_apart asked apart) keeps first in
    printed _ _ _ _ _ (request.Run asked) (Done c.in_ok-count-in-Ok.count) _ c.print_done.ensures (keeps_after (files c.args.folder.now) (files c.read_programs.new.folder) (files c.leave.new.folder) (IsLeftName c.args.asked.now.out.now c.args.asked.now.statistics) c.in_ok-programs.ensures.read c.leave.ensures.others)
    (λ took. run_answered old new _ _ asked (λ apart. run_leaves old.told new.told asked set us ss read run (told apart))) tt (λ refusal short. tt)

pub returns : goal.returns
returns g c =
    let files = g.F.Folder.files in
    let old = files c.args.folder.now in
    let new = files c.leave-left.new.folder in
    let asked = c.args.asked.now in
    let set = c.in_ok-programs.programs in
    let sound : first_bad (config_of asked.limits) ≡ None = search rules in
    let read : AreProgramsIn old.told asked.programs.now set = search rules in
    let us = c.as_slice-units-in-Err.result.now in
    let ss = c.as_slice-slices-in-Err.result.now in
    let as_many : c.in_ok-config.config.slices ≡ asked.limits.slices = search rules in
    let slices = subst (λ (k : ℕ). AreSlicesLeft k c.in-Err.fault.cause c.in-Err.fault.units.items c.in-Err.fault.slices.items) as_many c.in-Err.ensures.slices in
    let are = left_by set.programs asked.limits.slices c.of.result c.in-Err.fault.core c.in-Err.fault.cause us c.in-Err.fault.units.items ss c.in-Err.fault.slices.items
    c.of.ensures.core c.of.ensures.cause c.as_slice-units-in-Err.ensures.value c.as_slice-slices-in-Err.ensures.value c.in-Err.ensures.logs slices c.in-Err.ensures.short in
    let many : c.len.result ≡ length set.programs = search rules in
    let same : c.log_format.result ≡ log_format set.format = search rules in
    let parts : c.slices.result ≡ asked.limits.slices = search rules in
    let far = subst (λ (f : Files). AreLeftAsFar c.log_format.result f new asked.out.now c.len.result (kept_log us) asked.statistics (numbers_of c.len.result c.slices.result us ss)) c.in_ok-programs.ensures.quiet c.leave-left.ensures.far in
    refused _ _ _ _ _ (request.Run asked) (Run c.of.result) (keeps_after (files c.args.folder.now) (files c.read_programs.new.folder) (files c.leave-left.new.folder) (IsLeftName c.args.asked.now.out.now c.args.asked.now.statistics) c.in_ok-programs.ensures.read c.leave-left.ensures.others)
    (record { kept = λ first. absurd first; left = (sound, set, read, (us, ss, are, rw (← many, ← same, ← parts) far)); unread = tt; cut = tt }) (λ one. cc)
