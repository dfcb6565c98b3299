-- The cores of a run that has ended, what the judge answers to their logs, and a No as the cause why a run has no outcome that counts. Private contracts
-- cite these.
use Rattle.std.specs.Prelude.{◌≡◌, List, [], None, Result, Ok, Err, map}
use Rattle.log_record.specs.declared.record.Record.{Record}
use Rattle.core_program.specs.declared.instruction.Instruction.{Instruction}
use Rattle.core_unit.specs.Parts.{UnitParts, core_of}
use Rattle.core_machine.specs.Machine.{World}
use Rattle.audit.specs.Events.{world_of}
use Rattle.verdict.specs.VerdictOf.{run_verdict_of}
use Rattle.verdict.specs.declared.answer.Verdict.{Verdict}
use Rattle.verdict.specs.declared.answer.Verdict.TheVariants.{Yes, No}
use Rattle.verdict.specs.declared.judge_fault.JudgeFault.{JudgeFault}
use Rattle.verdict.specs.declared.judge_fault.JudgeFault.TheVariants as fault
use Rattle.litmus.specs.declared.run_cause.RunCause.{RunCause}
use Rattle.litmus.specs.declared.run_cause.RunCause.TheVariants as cause

-- these units alone
abbrev pub at_end : List UnitParts → World
at_end us = world_of (map (λ u. core_of u None) us) []

-- the verdict on the logs, against the programs; lack of memory may come instead, and no other fault
abbrev pub IsVerdictOn : List (List Instruction) → List (List Record) → Result Verdict JudgeFault → Type 0
IsVerdictOn programs logs (Ok verdict) = run_verdict_of programs logs ≡ verdict
IsVerdictOn programs logs (Err why) = why ≡ fault.OutOfMemory

-- the cause is the fault of this No
abbrev pub IsNo : Verdict → RunCause → Type 0
IsNo (Yes count) why = ⊥
IsNo (No fault) why = why ≡ cause.No fault
