use Rattle.std.proofs.Common.{rules, ◌≡◌, ◌≤◌, Err, List, length, map, subst}
use Rattle.core_program.specs.declared.instruction.Instruction.{Instruction}
use Rattle.core_machine.specs.Parts.{CoreParts, world}
use Rattle.litmus.specs.Runs.{IsSeededEnd, IsSeededRun, IsUnsimulated, seeded_numbers}
use Rattle.litmus.proofs.Judged.{alike_alone, judged_end}
use Rattle.litmus.proofs.NeverNo.{seeded_cause_is_no_no, seeded_never_no}
use Rattle.litmus.proofs.seeded.run_seeded.Goals as goal

pub returns-in_err-machine-clause-yes : goal.returns-in_err-machine-clause-yes
returns-in_err-machine-clause-yes g c =
    let is : c.from_residual.result ≡ Err c.in_err-machine.field-0.0 = search rules in
    let few = subst (λ (ps : List (List Instruction)). length ps ≤ 64) c.programs.ensures.programs c.len.ensures.in_range.1 in
    rw is (seeded_cause_is_no_no c.args.test.now c.args.config.now c.args.seed c.args.stress few c.in_err-machine.field-0.0 c.in_err-machine.ensures)

pub returns-clause-run : goal.returns-clause-run
returns-clause-run g c =
    let t = c.args.test.now in
    judged_end CoreParts (IsSeededRun t c.args.config.now c.args.seed c.args.stress) (IsUnsimulated t c.args.config.now c.args.seed c.args.stress) world (seeded_numbers t c.args.config.now) t c.in_ok-machine.machine
    (map (λ s. s.unit) c.in_ok-machine.machine.seats) c.keep.result (alike_alone c.in_ok-machine.machine) c.in_ok-machine.ensures (rw (c.units.ensures.units, c.slices.ensures) at c.keep.ensures)

pub returns-clause-yes : goal.returns-clause-yes
returns-clause-yes g c =
    let t = c.args.test.now in
    let few = subst (λ (ps : List (List Instruction)). length ps ≤ 64) c.programs.ensures.programs c.len.ensures.in_range.1 in
    seeded_never_no t c.args.config.now c.args.seed c.args.stress few c.keep.result (λ k. IsSeededEnd t c.args.config.now c.args.seed c.args.stress k.outcome.items k.counts)
    (judged_end CoreParts (IsSeededRun t c.args.config.now c.args.seed c.args.stress) (IsUnsimulated t c.args.config.now c.args.seed c.args.stress) world (seeded_numbers t c.args.config.now) t c.in_ok-machine.machine
    (map (λ s. s.unit) c.in_ok-machine.machine.seats) c.keep.result (alike_alone c.in_ok-machine.machine) c.in_ok-machine.ensures (rw (c.units.ensures.units, c.slices.ensures) at c.keep.ensures))
