-- What was done is one run.
use Rattle.std.proofs.Common.{rules, ℕ, List, inl}
use Rattle.std.specs.Prelude.{Option, Result, Ok, Err, OnOk, MatchResult}
use Rattle.core_machine.specs.Parts.{CoreParts, world}
use Rattle.tardis_core.specs.Rounds.{IsRunTo}
use Rattle.simulation.specs.declared.command.Command.{Command}
use Rattle.simulation.specs.Events.{IsSimulatedByRun}
use Rattle.simulation.specs.Simulating.{IsSimulated, IsSimulationFault, NoneIsLeft}
use Rattle.simulation.specs.declared.fault.SimulationFault.{SimulationFault}
use Rattle.simulation.proofs.Ended.{simulated_ended}
use Rattle.simulation.proofs.SimulatedRuns.{done_run, fault_run, simulated_run}
use Rattle.simulation.proofs.simulating.simulate.Goals as goal

abbrev Comes : {A : Type 0} → List Command → Option ℕ → Option ℕ → CoreParts → CoreParts → Result A SimulationFault → Type 0
Comes xs seed stress p q r = MatchResult r (λ _. IsSimulated xs seed stress p q) (λ fault. IsSimulationFault xs seed stress p q fault)

by_events : {A : Type 0} (xs : List Command) (seed stress : Option ℕ) (p q : CoreParts) (r : Result A SimulationFault) → Comes xs seed stress p q r → OnOk r (IsSimulatedByRun xs seed stress p q)
by_events xs seed stress p q (Ok x) did = (did, simulated_run xs seed stress p q did)
by_events xs seed stress p q (Err fault) did = tt

some_run : {A : Type 0} (xs : List Command) (seed stress : Option ℕ) (p q : CoreParts) (r : Result A SimulationFault) → Comes xs seed stress p q r → IsRunTo p q
some_run xs seed stress p q (Ok x) did = done_run xs seed stress p q did
some_run xs seed stress p q (Err fault) why = fault_run xs seed stress p q fault why

by_ended : {A : Type 0} (xs : List Command) (seed stress : Option ℕ) (p q : CoreParts) (r : Result A SimulationFault) → Comes xs seed stress p q r → OnOk r (NoneIsLeft (world q))
by_ended xs seed stress p q (Ok x) did = simulated_ended xs seed stress p q did
by_ended xs seed stress p q (Err fault) did = tt

pub returns-in_err-follow-clause-run : goal.returns-in_err-follow-clause-run
returns-in_err-follow-clause-run c =
    fault_run c.args.commands.now c.args.seed c.args.stress c.args.machine.now c.follow.new.machine c.in_err-follow.field-0.0 (inl c.in_err-follow.ensures)

pub returns-clause-ended : goal.returns-clause-ended
returns-clause-ended c =
    let did : Comes c.args.commands.now c.args.seed c.args.stress c.args.machine.now c.end_all.new.machine c.end_all.result = search rules in
    by_ended c.args.commands.now c.args.seed c.args.stress c.args.machine.now c.end_all.new.machine c.end_all.result did

pub returns-clause-events : goal.returns-clause-events
returns-clause-events c =
    let did : Comes c.args.commands.now c.args.seed c.args.stress c.args.machine.now c.end_all.new.machine c.end_all.result = search rules in
    by_events c.args.commands.now c.args.seed c.args.stress c.args.machine.now c.end_all.new.machine c.end_all.result did

pub returns-clause-run : goal.returns-clause-run
returns-clause-run c =
    let did : Comes c.args.commands.now c.args.seed c.args.stress c.args.machine.now c.end_all.new.machine c.end_all.result = search rules in
    some_run c.args.commands.now c.args.seed c.args.stress c.args.machine.now c.end_all.new.machine c.end_all.result did
