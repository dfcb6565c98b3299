use Rattle.std.proofs.Common.{◌≡◌, ◌∙◌, length, None, Err, inl, refl, subst, rules}
use Rattle.command_line.specs.declared.request.Request.TheVariants as request
use Rattle.lease_rule.specs.ConfigParts.{ConfigParts}
use Rattle.lease_rule.specs.Ranges.{first_bad}
use Rattle.simulation.specs.Simulating.{IsSimulated, IsSimulationFault}
use Rattle.core_machine.specs.Opening.{opening_parts}
use Rattle.host_files.specs.Files.{Files, IsUnread}
use Rattle.commands.specs.Programs.{AreProgramsIn}
use Rattle.commands.specs.Programmed.{config_of}
use Rattle.commands.specs.Simulating.{AreCommandsOf, IsSimName, LeavesMachine}
use Rattle.commands.specs.inner.Performing.{IsReadFault, IsUnprinted}
use Rattle.commands.specs.declared.answer.CommandAnswer.TheVariants.{Done}
use Rattle.commands.specs.declared.place.Input.TheVariants as input
use Rattle.commands.specs.declared.refusal.Refusal.TheVariants.{Config, OutOfMemory, Simulation}
use Rattle.commands.proofs.Files.{keeps_after, keeps_files, only_read_after}
use Rattle.commands.proofs.Leaving.{sim_leaves}
use Rattle.commands.proofs.Performed.{input_fault, not_printed, printed, read_refused, refused}
use Rattle.commands.proofs.Runs.{sim_answered}
use Rattle.commands.proofs.sim_files.sim.Goals as goal

pub returns-in_err-config : goal.returns-in_err-config
returns-in_err-config g c =
    let refusal = Config c.in_err-config.field-0.0 in
    let is : c.from_residual.result ≡ Err refusal = search rules in
    rw is (read_refused _ _ _ _ _ (request.Sim c.args.asked.now) refusal (record { unread = tt; of_file = tt }) (inl refl) tt)

pub returns-in_err-programs : goal.returns-in_err-programs
returns-in_err-programs g c =
    let asked = c.args.asked.now in
    let refusal = c.in_err-programs.field-0.0 in
    let is : c.from_residual-in_err-programs.result ≡ Err refusal = search rules in
    rw is (read_refused _ _ _ _ _ (request.Sim asked) refusal (input_fault _ (request.Sim asked) input.Programs asked.programs refusal refl c.in_err-programs.ensures.err) c.in_err-programs.ensures.read tt)

pub returns-in_err-commands : goal.returns-in_err-commands
returns-in_err-commands g c =
    let files = g.F.Folder.files in
    let new = files c.read_schedule.new.folder in
    let asked = c.args.asked.now in
    let refusal = c.in_err-commands.field-0.0 in
    let fault = subst (λ (f : Files). IsReadFault (IsUnread g.F.Source.ByteSource.remaining g.F.Source.ByteSource.failed f new) (request.Sim asked) refusal) c.in_ok-programs.ensures.quiet c.in_err-commands.ensures.err in
    let is : c.from_residual-in_err-commands.result ≡ Err refusal = search rules in
    rw is (read_refused _ _ _ _ _ (request.Sim asked) refusal fault (only_read_after _ _ _ c.in_ok-programs.ensures.quiet c.in_err-commands.ensures.read) tt)

pub returns-in_default : goal.returns-in_default
returns-in_default g c =
    not_printed _ _ _ _ _ (request.Sim c.args.asked.now) OutOfMemory tt (keeps_files _ _ _ (only_read_after _ _ _ c.in_ok-programs.ensures.quiet c.in_ok-commands.ensures.read)) tt

pub returns-in_err-ended : goal.returns-in_err-ended
returns-in_err-ended g c =
    let files = g.F.Folder.files in
    let old = files c.args.folder.now in
    let now = files c.read_schedule.new.folder in
    let new = files c.leave_machine-left.new.folder in
    let asked = c.args.asked.now in
    let set = c.in_ok-programs.programs in
    let commands = c.in_ok-commands.commands.items in
    let q = c.simulate-ended.new.machine in
    let fault = c.in_err-ended.field-0.0 in
    let as_it_was : now ≡ old = c.in_ok-commands.ensures.quiet ∙ c.in_ok-programs.ensures.quiet in
    let sound : first_bad (config_of asked.limits) ≡ None = search rules in
    let config : c.in_ok-config.config ≡ config_of asked.limits = search rules in
    let read : AreProgramsIn old.told asked.programs.now set = search rules in
    let parsed : AreCommandsOf old.told asked.schedule (length set.programs) commands =
    subst (λ (f : Files). AreCommandsOf f.told asked.schedule (length set.programs) commands) c.in_ok-programs.ensures.quiet (search rules) in
    let why : IsSimulationFault commands asked.seed asked.stress (opening_parts set.programs (config_of asked.limits)) q fault = search rules in
    let far = subst (λ (p : ConfigParts). LeavesMachine old new asked set p q) config (subst (λ (f : Files). LeavesMachine f new asked set c.in_ok-config.config q) as_it_was c.leave_machine-left.ensures.far) in
    let is : c.from_residual-in_err-ended.result ≡ Err (Simulation fault) = search rules in
    rw is (refused _ _ _ _ _ (request.Sim asked) (Simulation fault) (keeps_after (files c.args.folder.now) (files c.read_schedule.new.folder) (files c.leave_machine-left.new.folder) (IsSimName c.args.asked.now) (only_read_after _ _ _ c.in_ok-programs.ensures.quiet c.in_ok-commands.ensures.read) c.leave_machine-left.ensures.files)
    (record { kept = λ first. absurd first; left = (sound, set, read, (commands, parsed, q, why, far)); unread = tt; cut = tt }) (λ one. cc))

pub returns-in_err-count : goal.returns-in_err-count
returns-in_err-count g c =
    let files = g.F.Folder.files in
    let refusal = c.in_err-count.field-0.0 in
    let why : IsUnprinted refusal = search rules in
    let is : c.from_residual-in_err-count.result ≡ Err refusal = search rules in
    rw is (not_printed _ _ _ _ _ (request.Sim c.args.asked.now) refusal why
    (keeps_after (files c.args.folder.now) (files c.read_schedule.new.folder) (files c.leave_machine-left.new.folder) (IsSimName c.args.asked.now) (only_read_after _ _ _ c.in_ok-programs.ensures.quiet c.in_ok-commands.ensures.read) c.leave_machine-left.ensures.files) tt)

pub returns : goal.returns
returns g c =
    let files = g.F.Folder.files in
    let old = files c.args.folder.now in
    let new = files c.leave_machine-left.new.folder in
    let asked = c.args.asked.now in
    let set = c.in_ok-programs.programs in
    let commands = c.in_ok-commands.commands.items in
    let q = c.simulate-ended.new.machine in
    let read : AreProgramsIn old.told asked.programs.now set = search rules in
    let simulated : IsSimulated commands asked.seed asked.stress (opening_parts set.programs (config_of asked.limits)) q = search rules in
    printed _ _ _ _ _ (request.Sim asked) (Done c.in_ok-count.count) _ c.print_done.ensures (keeps_after (files c.args.folder.now) (files c.read_schedule.new.folder) (files c.leave_machine-left.new.folder) (IsSimName c.args.asked.now) (only_read_after _ _ _ c.in_ok-programs.ensures.quiet c.in_ok-commands.ensures.read) c.leave_machine-left.ensures.files)
    (λ took. sim_answered old new _ _ asked (λ apart. sim_leaves old.told new.told asked set commands q read simulated (c.in_ok-count.ensures.ok apart))) tt (λ refusal short. tt)
