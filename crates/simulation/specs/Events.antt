-- The events that rounds, commands and draws make, one after the other.
use Rattle.std.specs.Prelude.{ℕ, List, [], ◌∷◌, ◌++◌, Option, None, Some}
use Rattle.simulation.specs.declared.command.Command.{Command}
use Rattle.simulation.specs.declared.command.Command.TheVariants as command
use Rattle.core_machine.specs.Parts.{CoreParts}
use Rattle.tardis_core.specs.Rounds.{IsOpIfLeft, IsRun, Ops, Rounds}
use Rattle.tardis_core.specs.Rounds as rounds
use Rattle.core_machine.specs.declared.event.Event.{Event}
use Rattle.core_machine.specs.declared.event.Event.TheVariants as event
use Rattle.simulation.specs.Commands.{Follows, CommandLeads}
use Rattle.simulation.specs.Commands as commands
use Rattle.rand_pcg.specs.Lcg.{Lcg}
use Rattle.simulation.specs.Drawing.{Disturbs, Draws, Leads}
use Rattle.simulation.specs.Drawing as drawing
use Rattle.simulation.specs.Finishing.{FinishesFirst}
use Rattle.simulation.specs.Finishing as finishing
use Rattle.simulation.specs.Simulating.{IsEnded, IsSimulated}

-- ---- of rounds and operations

abbrev pub rounds_events : (c : ℕ) (p : CoreParts) (n : ℕ) (q : CoreParts) → Rounds c p n q → List Event
rounds_events c p n q rounds.no_round = []
rounds_events c p n q (rounds.one_more m r t before waits round) = rounds_events c p m r before ++ round.events

abbrev pub op_events : (c : ℕ) (p q : CoreParts) → IsOpIfLeft c p q → List Event
op_events c p q (rounds.performs op) = rounds_events c p op.count q op.rounds
op_events c p q (rounds.none_left ended same) = []

abbrev pub ops_events : (c : ℕ) (p q : CoreParts) → Ops c p q → List Event
ops_events c p q rounds.no_op = []
ops_events c p q (rounds.next_op r t before op) = ops_events c p r before ++ rounds_events c r op.count t op.rounds

-- ---- of commands

abbrev pub command_events : (p : CoreParts) (x : Command) (q : CoreParts) → CommandLeads p x q → List Event
command_events p (command.Turn c) q obeyed = event.Turn c ∷ []
command_events p (command.Serve c) q obeyed = event.Serve c ∷ []
command_events p (command.Take c) q obeyed = event.Take c ∷ []
command_events p (command.Recall x) q obeyed = event.Recall x.owner x ∷ []
command_events p (command.Evict c a) q obeyed = event.Evict c a ∷ []
command_events p (command.Spill a) q obeyed = event.Spill a ∷ []
command_events p (command.Bump c) q obeyed = event.Increment c ∷ []
command_events p (command.Round c) q obeyed = obeyed.events
command_events p (command.Op c) q obeyed = op_events c p q obeyed
command_events p (command.Finish c) q obeyed = ops_events c p q obeyed.ops

abbrev pub followed_events : (p : CoreParts) (xs : List Command) (q : CoreParts) → Follows p xs q → List Event
followed_events p xs q commands.no_command = []
followed_events p xs q (commands.one_more before x r t followed obeyed) = followed_events p before r followed ++ command_events r x t obeyed

-- ---- of the ends of all cores

-- of a drawn command
abbrev pub disturbed_events : (g : Option Lcg) (p q : CoreParts) → Disturbs g p q → List Event
disturbed_events None p q same = []
disturbed_events (Some g) p q (x, drawn, obeyed) = command_events p x q obeyed

-- of drawn rounds, each after its command
abbrev pub drawn_events : (d : Draws) (p : CoreParts) (e : Draws) (q : CoreParts) → Leads d p e q → List Event
drawn_events d p e q drawing.no_round = []
drawn_events d p e q (drawing.one_more f r c s t before did drawn few) = drawn_events d p f r before ++ (disturbed_events f.stress r s did ++ drawn.round.events)

-- of cores finished in their order
abbrev pub finished_events : (p : CoreParts) (n : ℕ) (q : CoreParts) → FinishesFirst p n q → List Event
finished_events p n q finishing.no_core = []
finished_events p n q (finishing.one_more c r t before finished) = finished_events p c r before ++ ops_events c r t finished.ops

abbrev pub ended_events : (seed stress : Option ℕ) (p q : CoreParts) → IsEnded seed stress p q → List Event
ended_events None None p q ended = finished_events p 64 q ended
ended_events None (Some both) p q ended = drawn_events (drawing.draws_of both (Some both)) p ended.draws q ended.leads
ended_events (Some seed) stress p q ended = drawn_events (drawing.draws_of seed stress) p ended.draws q ended.leads

-- ---- of a whole simulation

abbrev pub simulated_events : (xs : List Command) (seed stress : Option ℕ) (p q : CoreParts) → IsSimulated xs seed stress p q → List Event
simulated_events xs seed stress p q did = followed_events p xs did.between did.followed ++ ended_events seed stress did.between q did.ended

-- the commands and then the ends of all cores are one run of the core machine, by just the events that they make
abbrev pub IsSimulatedByRun : List Command → Option ℕ → Option ℕ → CoreParts → CoreParts → Type 0
IsSimulatedByRun xs seed stress p q = (did : IsSimulated xs seed stress p q) × IsRun p (simulated_events xs seed stress p q did) q
