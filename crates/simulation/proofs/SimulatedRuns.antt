-- What a simulation does is one run of the core machine.
use Rattle.std.proofs.Common.{◌≡◌, ℕ, List, [], ◌∷◌, ◌++◌, sym, subst, inl, inr}
use Rattle.std.specs.Prelude.{Option, None, Some}
use Rattle.core_unit.specs.declared.outcome.Outcome.{Outcome}
use Rattle.simulation.specs.declared.command.Command.{Command}
use Rattle.simulation.specs.declared.command.Command.TheVariants as command
use Rattle.core_machine.specs.Parts.{CoreParts}
use Rattle.tardis_core.specs.Rounds.{IsOpIfLeft, IsRun, IsRunTo, EventLeads, Ops, Rounds}
use Rattle.tardis_core.specs.Rounds as rounds
use Rattle.core_machine.specs.declared.event.Event.{Event}
use Rattle.tardis_core.proofs.RoundRuns.{finish_fault_run, no_run, op_fault_run, part_runs, run_more, run_then, stays, stopped_run, then_run}
use Rattle.simulation.specs.Commands.{Follows, IsRefusedCommand, IsUnfollowed, CommandLeads}
use Rattle.simulation.specs.Commands as commands
use Rattle.rand_pcg.specs.Lcg.{Lcg}
use Rattle.simulation.specs.Drawing.{Disturbs, Draws, IsDrawFault, IsUndisturbed, Leads, draws_of}
use Rattle.simulation.specs.Drawing as drawing
use Rattle.simulation.specs.Events.{command_events, disturbed_events, drawn_events, ended_events, finished_events, followed_events, op_events, ops_events, rounds_events, simulated_events}
use Rattle.simulation.specs.Finishing.{FinishesFirst}
use Rattle.simulation.specs.Finishing as finishing
use Rattle.simulation.specs.Simulating.{IsEnded, IsSimulated, IsSimulationFault, IsUnended}
use Rattle.simulation.specs.declared.fault.SimulationFault.{SimulationFault}

-- ---- what was done

rounds_run : (c : ℕ) (p : CoreParts) (n : ℕ) (q : CoreParts) (x : Rounds c p n q) → IsRun p (rounds_events c p n q x) q
rounds_run c p n q rounds.no_round = no_run p
rounds_run c p n q (rounds.one_more m r t x waits round) = run_then p r t (rounds_events c p m r x) round.events (rounds_run c p m r x) (part_runs c _ r round.events t _ round.part)

op_run : (c : ℕ) (p q : CoreParts) (x : IsOpIfLeft c p q) → IsRun p (op_events c p q x) q
op_run c p q (rounds.performs op) = rounds_run c p op.count q op.rounds
op_run c p q (rounds.none_left ended same) = subst (λ (t : CoreParts). IsRun p [] t) (sym same) (no_run p)

pub ops_run : (c : ℕ) (p q : CoreParts) (x : Ops c p q) → IsRun p (ops_events c p q x) q
ops_run c p q rounds.no_op = no_run p
ops_run c p q (rounds.next_op r t x op) =
    run_then p r t (ops_events c p r x) (rounds_events c r op.count t op.rounds) (ops_run c p r x) (rounds_run c r op.count t op.rounds)

event_run : (p q : CoreParts) (e : Event) (o : Outcome) → EventLeads p e o q → IsRun p (e ∷ []) q
event_run p q e o made = run_more p p q [] e o (no_run p) made

command_run : (p : CoreParts) (x : Command) (q : CoreParts) (did : CommandLeads p x q) → IsRun p (command_events p x q did) q
command_run p (command.Turn c) q (o, made) = event_run p q _ o made
command_run p (command.Serve c) q (o, made) = event_run p q _ o made
command_run p (command.Take c) q (o, made) = event_run p q _ o made
command_run p (command.Recall x) q (o, made) = event_run p q _ o made
command_run p (command.Evict c a) q (o, made) = event_run p q _ o made
command_run p (command.Spill a) q (o, made) = event_run p q _ o made
command_run p (command.Bump c) q (o, made) = event_run p q _ o made
command_run p (command.Round c) q did = part_runs c _ p did.events q _ did.part
command_run p (command.Op c) q did = op_run c p q did
command_run p (command.Finish c) q did = ops_run c p q did.ops

followed_run : (p : CoreParts) (xs : List Command) (q : CoreParts) (x : Follows p xs q) → IsRun p (followed_events p xs q x) q
followed_run p xs q commands.no_command = no_run p
followed_run p xs q (commands.one_more before x r t followed obeyed) =
    run_then p r t (followed_events p before r followed) (command_events r x t obeyed) (followed_run p before r followed) (command_run r x t obeyed)

disturbed_run : (g : Option Lcg) (p q : CoreParts) (x : Disturbs g p q) → IsRun p (disturbed_events g p q x) q
disturbed_run None p q same = subst (λ (t : CoreParts). IsRun p [] t) (sym same) (no_run p)
disturbed_run (Some g) p q (x, drawn, obeyed) = command_run p x q obeyed

pub drawn_run : (d : Draws) (p : CoreParts) (e : Draws) (q : CoreParts) (x : Leads d p e q) → IsRun p (drawn_events d p e q x) q
drawn_run d p e q drawing.no_round = no_run p
drawn_run d p e q (drawing.one_more f r c s t x did drawn few) =
    run_then p r t (drawn_events d p f r x) (disturbed_events f.stress r s did ++ drawn.round.events) (drawn_run d p f r x)
    (run_then r s t (disturbed_events f.stress r s did) drawn.round.events (disturbed_run f.stress r s did) (part_runs c _ s drawn.round.events t _ drawn.round.part))

finished_run : (p : CoreParts) (n : ℕ) (q : CoreParts) (x : FinishesFirst p n q) → IsRun p (finished_events p n q x) q
finished_run p n q finishing.no_core = no_run p
finished_run p n q (finishing.one_more c r t x finished) =
    run_then p r t (finished_events p c r x) (ops_events c r t finished.ops) (finished_run p c r x) (ops_run c r t finished.ops)

ended_run : (seed stress : Option ℕ) (p q : CoreParts) (x : IsEnded seed stress p q) → IsRun p (ended_events seed stress p q x) q
ended_run None None p q x = finished_run p 64 q x
ended_run None (Some both) p q x = drawn_run (draws_of both (Some both)) p x.draws q x.leads
ended_run (Some seed) stress p q x = drawn_run (draws_of seed stress) p x.draws q x.leads

pub simulated_run : (xs : List Command) (seed stress : Option ℕ) (p q : CoreParts) (x : IsSimulated xs seed stress p q) → IsRun p (simulated_events xs seed stress p q x) q
simulated_run xs seed stress p q x =
    run_then p x.between q (followed_events p xs x.between x.followed) (ended_events seed stress x.between q x.ended)
    (followed_run p xs x.between x.followed) (ended_run seed stress x.between q x.ended)

-- ---- what was done before a refusal

some_run : (p q : CoreParts) (events : List Event) → IsRun p events q → IsRunTo p q
some_run p q events run = record { events = events; run = run }

same_run : (p q : CoreParts) → q ≡ p → IsRunTo p q
same_run p q same = subst (λ (t : CoreParts). IsRunTo p t) (sym same) (stays p)

refused_run : (p : CoreParts) (x : Command) (q : CoreParts) (fault : SimulationFault) → IsRefusedCommand p x q fault → IsRunTo p q
refused_run p (command.Turn c) q fault (same, cause) = same_run p q same
refused_run p (command.Serve c) q fault (same, cause) = same_run p q same
refused_run p (command.Take c) q fault (same, cause) = same_run p q same
refused_run p (command.Recall x) q fault (same, cause) = same_run p q same
refused_run p (command.Evict c a) q fault (same, cause) = same_run p q same
refused_run p (command.Spill a) q fault (same, cause) = same_run p q same
refused_run p (command.Bump c) q fault (same, cause) = same_run p q same
refused_run p (command.Round c) q fault (r, is, refused) = stopped_run c _ p q r refused
refused_run p (command.Op c) q fault (r, is, refused) = op_fault_run c p q r refused
refused_run p (command.Finish c) q fault (r, is, refused) = finish_fault_run c p q r refused

unfollowed_run : (p : CoreParts) (xs : List Command) (q : CoreParts) (fault : SimulationFault) → IsUnfollowed p xs q fault → IsRunTo p q
unfollowed_run p xs q fault x =
    then_run p x.between q (some_run p x.between _ (followed_run p _ x.between x.followed)) (refused_run x.between x.command q fault x.refused)

undisturbed_run : (g : Option Lcg) (p q : CoreParts) (fault : SimulationFault) → IsUndisturbed g p q fault → IsRunTo p q
undisturbed_run None p q fault none = absurd none
undisturbed_run (Some g) p q fault (x, drawn, refused) = refused_run p x q fault refused

draw_fault_run : (seed : ℕ) (stress : Option ℕ) (p q : CoreParts) (fault : SimulationFault) → IsDrawFault seed stress p q fault → IsRunTo p q
draw_fault_run seed stress p q fault (drawing.stopped draws r c s x did drawn (why, is, refused)) =
    then_run p r q (some_run p r _ (drawn_run (draws_of seed stress) p draws r x))
    (then_run r s q (some_run r s _ (disturbed_run draws.stress r s did)) (stopped_run c _ s q why refused))
draw_fault_run seed stress p q fault (drawing.gave_up draws r c s x did drawn long is) =
    then_run p r q (some_run p r _ (drawn_run (draws_of seed stress) p draws r x))
    (then_run r s q (some_run r s _ (disturbed_run draws.stress r s did)) (some_run s q _ (part_runs c _ s drawn.round.events q _ drawn.round.part)))
draw_fault_run seed stress p q fault (drawing.undisturbed draws r x refused) =
    then_run p r q (some_run p r _ (drawn_run (draws_of seed stress) p draws r x)) (undisturbed_run draws.stress r q fault refused)
draw_fault_run seed stress p q fault (drawing.no_memory same is) = same_run p q same

unended_run : (seed stress : Option ℕ) (p q : CoreParts) (fault : SimulationFault) → IsUnended seed stress p q fault → IsRunTo p q
unended_run None None p q fault x =
    then_run p x.between q (some_run p x.between _ (finished_run p x.core x.between x.before)) (finish_fault_run x.core x.between q x.stopped.0 x.stopped.2)
unended_run None (Some both) p q fault x = draw_fault_run both (Some both) p q fault x
unended_run (Some seed) stress p q fault x = draw_fault_run seed stress p q fault x

pub fault_run : (xs : List Command) (seed stress : Option ℕ) (p q : CoreParts) (fault : SimulationFault) → IsSimulationFault xs seed stress p q fault → IsRunTo p q
fault_run xs seed stress p q fault (inl x) = unfollowed_run p xs q fault x
fault_run xs seed stress p q fault (inr x) =
    then_run p x.between q (some_run p x.between _ (followed_run p xs x.between x.followed)) (unended_run seed stress x.between q fault x.unended)

pub done_run : (xs : List Command) (seed stress : Option ℕ) (p q : CoreParts) → IsSimulated xs seed stress p q → IsRunTo p q
done_run xs seed stress p q x = some_run p q _ (simulated_run xs seed stress p q x)
