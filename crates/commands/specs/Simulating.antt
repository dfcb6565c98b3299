-- What the simulation of programs leaves.
use Rattle.std.specs.Prelude.{◌≡◌, ◌⊎◌, ⊤, ℕ, List, [], length, map, Option, None, Some}
use Rattle.std.specs.Borrow.{Bor}
use Rattle.command_line.specs.declared.request.Sim.{Sim}
use Rattle.lease_rule.specs.ConfigParts.{ConfigParts}
use Rattle.core_program.specs.SetParts.{SetParts}
use Rattle.log_file.specs.Devices.{Tells}
use Rattle.simulation.specs.Schedules.{Spells as SpellsSchedule}
use Rattle.simulation.specs.declared.command.Command.{Command}
use Rattle.core_machine.specs.Opening.{opening_parts}
use Rattle.core_machine.specs.Parts.{CoreParts, world}
use Rattle.core_machine.specs.Works.{log_at}
use Rattle.simulation.specs.Simulating.{IsSimulationFault}
use Rattle.simulation.specs.declared.fault.SimulationFault.{SimulationFault}
use Rattle.host_files.specs.Files.{Files}
use Rattle.commands.specs.Numbers.{AreLeftAsFar, IsLeftName, numbers_of}
use Rattle.commands.specs.Outputs.{FailsPutAt, IsNameOf, PutsSuchAt}
use Rattle.commands.specs.Programmed.{Programmed, config_of, log_format}

-- the commands that the text of the schedule spells for this number of cores; none if no schedule was given
abbrev pub AreCommandsOf : (List ℕ → Option (List ℕ)) → Option (Bor (List ℕ)) → ℕ → List Command → Type 0
AreCommandsOf told None cores commands = commands ≡ []
AreCommandsOf told (Some name) cores commands = (text : List ℕ) × Tells (told name.now) text × SpellsSchedule cores text commands

-- a name under which a simulation may put a file: that of a log, of its numbers or of its events
abbrev pub IsSimName : Sim → List ℕ → Type 0
IsSimName asked name = IsLeftName asked.out.now asked.statistics name ⊎ IsNameOf asked.events name

-- a file of events was put if a name was given for it, or the put failed, or nothing was put
abbrev pub TriesEvents : Files → Files → Option (Bor (List ℕ)) → Type 0
TriesEvents mid new events = PutsSuchAt mid new events (λ text. ⊤) ⊎ FailsPutAt mid new events ⊎ (new ≡ mid)

-- the folder has the logs, and then the numbers, of this machine of this configuration, as far as they could be written, and then its events
abbrev pub LeavesMachine : Files → Files → Sim → SetParts → ConfigParts → CoreParts → Type 0
LeavesMachine old new asked set g q =
    (mid : Files)
    × AreLeftAsFar (log_format set.format) old mid asked.out.now (length set.programs) (log_at (world q)) asked.statistics
    (numbers_of (length set.programs) g.slices (map (λ seat. seat.unit) q.seats) q.slices)
    × TriesEvents mid new asked.events

-- the same of the machine in which this fault ended the simulation of the programs, by the commands of their schedule
abbrev pub LeavesTraced : Files → Files → Sim → SimulationFault → Type 0
LeavesTraced old new asked fault =
    Programmed old.told asked.limits asked.programs.now (λ set. (commands : List Command) × AreCommandsOf old.told asked.schedule (length set.programs) commands
    × (q : CoreParts) × IsSimulationFault commands asked.seed asked.stress (opening_parts set.programs (config_of asked.limits)) q fault
    × LeavesMachine old new asked set (config_of asked.limits) q)
