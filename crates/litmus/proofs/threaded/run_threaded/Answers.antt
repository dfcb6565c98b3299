use Rattle.std.proofs.Common.{subst, List, refl}
use Rattle.core_program.specs.declared.instruction.Instruction.{Instruction}
use Rattle.audit.specs.Runs.{IsRun}
use Rattle.litmus.specs.Ends.{ThreadEnd, left}
use Rattle.litmus.specs.Runs.{IsThreadEnd, IsThreadRun, IsUnthreaded, thread_numbers}
use Rattle.litmus.specs.inner.JudgedOutcome.{at_end}
use Rattle.machine.specs.Runs.{IsMachineRun}
use Rattle.litmus.proofs.Judged.{Alike, judged_end}
use Rattle.litmus.proofs.NeverNo.{threaded_never_no}
use Rattle.litmus.proofs.threaded.run_threaded.Goals as goal

pub returns-in-Ok-clause-run : goal.returns-in-Ok-clause-run
returns-in-Ok-clause-run g c =
    let t = c.args.test.now in
    let g = c.args.config.now in
    let end : ThreadEnd = record { units = c.in-Ok.end.units.items; slices = c.in-Ok.end.slices.items } in
    let alike : Alike (at_end end.units) (left end) = record { logs = λ n. refl; words = λ shown. refl } in
    judged_end ThreadEnd (IsThreadRun t g) (IsUnthreaded t) left (thread_numbers t g) t end end.units c.keep.result alike (
      subst (λ (ps : List (List Instruction)). IsRun ps g end.units end.slices) c.programs.ensures.programs c.in-Ok.ensures.run,
      subst (λ (ps : List (List Instruction)). IsMachineRun ps g end.units end.slices) c.programs.ensures.programs c.in-Ok.ensures.events,
    )
    (rw (c.as_slice.ensures.value, c.as_slice-in-Ok.ensures.value) at c.keep.ensures)

pub returns-in-Ok-clause-yes : goal.returns-in-Ok-clause-yes
returns-in-Ok-clause-yes g c =
    let t = c.args.test.now in
    let g = c.args.config.now in
    let end : ThreadEnd = record { units = c.in-Ok.end.units.items; slices = c.in-Ok.end.slices.items } in
    let alike : Alike (at_end end.units) (left end) = record { logs = λ n. refl; words = λ shown. refl } in
    threaded_never_no t g c.keep.result (λ k. IsThreadEnd t g k.outcome.items k.counts)
    (judged_end ThreadEnd (IsThreadRun t g) (IsUnthreaded t) left (thread_numbers t g) t end end.units c.keep.result alike (
      subst (λ (ps : List (List Instruction)). IsRun ps g end.units end.slices) c.programs.ensures.programs c.in-Ok.ensures.run,
      subst (λ (ps : List (List Instruction)). IsMachineRun ps g end.units end.slices) c.programs.ensures.programs c.in-Ok.ensures.events,
    )
    (rw (c.as_slice.ensures.value, c.as_slice-in-Ok.ensures.value) at c.keep.ensures))
