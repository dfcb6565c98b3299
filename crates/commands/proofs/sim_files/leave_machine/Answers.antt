use Rattle.std.proofs.Common.{◌≡◌, ◌≤◌, ℕ, List, length, inr, refl, rules}
use Rattle.log_record.specs.declared.record.Record.{Record}
use Rattle.core_machine.specs.Parts.{world}
use Rattle.core_machine.specs.Works.{log_at}
use Rattle.core_unit.specs.Parts.{UnitParts}
use Rattle.commands.specs.Logs.{TellsFirst}
use Rattle.commands.specs.Outputs.{IsNameOf}
use Rattle.commands.specs.Programmed.{log_format}
use Rattle.commands.proofs.Leaving.{spared}
use Rattle.commands.proofs.Numbers.{keeps_first, keeps_then}
use Rattle.commands.proofs.Runs.{machine_left, of_machine, sim_events_apart, sim_numbers_apart}
use Rattle.commands.proofs.sim_files.leave_machine.Goals as goal

pub returns-in_err-count-clause-far : goal.returns-in_err-count-clause-far
returns-in_err-count-clause-far g c =
    let files = g.F.Folder.files in
    let many : c.len.result ≡ length c.args.programs.now.programs = search rules in
    let same : c.log_format.result ≡ log_format c.args.programs.now.format = search rules in
    let far = machine_left (files c.args.folder.now) (files c.leave.new.folder) c.args.asked.now c.args.programs.now c.args.config.now c.args.machine.now _ _ _ _ _
    c.units.ensures.units c.units.ensures.logs c.slices-2.ensures many same c.slices.ensures.value c.leave.ensures.far in
    (files c.leave.new.folder, far, inr (inr refl))

pub returns-in_err-count-clause-files : goal.returns-in_err-count-clause-files
returns-in_err-count-clause-files g c = keeps_first _ _ _ _ c.leave.ensures.others

pub returns-in_err-leave_events-clause-far : goal.returns-in_err-leave_events-clause-far
returns-in_err-leave_events-clause-far g c =
    let files = g.F.Folder.files in
    let many : c.len.result ≡ length c.args.programs.now.programs = search rules in
    let same : c.log_format.result ≡ log_format c.args.programs.now.format = search rules in
    let far = machine_left (files c.args.folder.now) (files c.leave.new.folder) c.args.asked.now c.args.programs.now c.args.config.now c.args.machine.now _ _ _ _ _
    c.units.ensures.units c.units.ensures.logs c.slices-2.ensures many same c.slices.ensures.value c.leave.ensures.far in
    (files c.leave.new.folder, far, c.leave_events.ensures.tried)

pub returns-in_err-leave_events-clause-files : goal.returns-in_err-leave_events-clause-files
returns-in_err-leave_events-clause-files g c = keeps_then _ _ _ _ _ c.leave.ensures.others c.leave_events.ensures.others

pub returns-clause-ok : goal.returns-clause-ok
returns-clause-ok g c apart =
    let files = g.F.Folder.files in
    let asked = c.args.asked.now in
    let set = c.args.programs.now in
    let q = c.args.machine.now in
    let few : length set.programs ≤ 64 = search rules in
    let many : c.len.result ≡ length set.programs = search rules in
    let same : c.log_format.result ≡ log_format set.format = search rules in
    let (mid, put, keeps) = c.in_ok-count.ensures.ok in
    let first = of_machine q c.units.result.now c.units.ensures.units c.units.ensures.logs
    (λ (logs : ℕ → List Record) (us : List UnitParts). TellsFirst c.log_format.result mid.told asked.out.now c.len.result logs c.len.result) put.0.logs in
    spared (log_format set.format) (files c.leave.new.folder).told (files c.leave_events.new.folder).told asked.out.now (length set.programs) (log_at (world q)) (IsNameOf asked.events)
    few (sim_events_apart asked apart) c.leave_events.ensures.others
    (spared (log_format set.format) mid.told (files c.leave.new.folder).told asked.out.now (length set.programs) (log_at (world q)) (IsNameOf asked.statistics)
    few (sim_numbers_apart asked apart) keeps (rw (← many, ← same) first))

pub returns-clause-far : goal.returns-clause-far
returns-clause-far g c =
    let files = g.F.Folder.files in
    let many : c.len.result ≡ length c.args.programs.now.programs = search rules in
    let same : c.log_format.result ≡ log_format c.args.programs.now.format = search rules in
    let far = machine_left (files c.args.folder.now) (files c.leave.new.folder) c.args.asked.now c.args.programs.now c.args.config.now c.args.machine.now _ _ _ _ _
    c.units.ensures.units c.units.ensures.logs c.slices-2.ensures many same c.slices.ensures.value c.leave.ensures.far in
    (files c.leave.new.folder, far, c.leave_events.ensures.tried)

pub returns-clause-files : goal.returns-clause-files
returns-clause-files g c = keeps_then _ _ _ _ _ c.leave.ensures.others c.leave_events.ensures.others
