-- What a run came to that was asked for.
use Rattle.std.proofs.Common.{◌≡◌, ◌∷◌, ℕ, List, [], length, map, subst}
use Rattle.std.proofs.lemmas.List.Elements.{Contains-append_right}
use Rattle.audit.specs.Runs.{kept_log}
use Rattle.core_program.specs.SetParts.{SetParts}
use Rattle.core_unit.specs.Parts.{UnitParts}
use Rattle.lease_rule.specs.ConfigParts.{ConfigParts}
use Rattle.log_record.specs.declared.format.Format.{Format}
use Rattle.manager_slice.specs.Parts.{SliceParts}
use Rattle.commands.specs.Numbers.{AreLeftAsFar, numbers_of}
use Rattle.commands.specs.Programmed.{log_format}
use Rattle.core_machine.specs.Parts.{CoreParts, world}
use Rattle.core_machine.specs.Works.{log_at}
use Rattle.log_record.specs.declared.record.Record.{Record}
use Rattle.command_line.specs.Files.{IsApart, files_put, files_read}
use Rattle.command_line.specs.RunFiles.{IsLogName}
use Rattle.command_line.specs.declared.request.Request.TheVariants as request
use Rattle.command_line.specs.declared.request.Run.{Run}
use Rattle.command_line.specs.declared.request.Sim.{Sim}
use Rattle.host_files.specs.Files.{Files}
use Rattle.commands.specs.Outputs.{IsNameOf}
use Rattle.commands.specs.Promises.{IsAnswered, LeaveYes}
use Rattle.commands.proofs.Unread.{first, later}
use Rattle.log_file.specs.Sinks.{Sink}

-- what holds of the logs that the units keep holds of the machine's
pub of_machine : (q : CoreParts) (us : List UnitParts) → us ≡ map (λ seat. seat.unit) q.seats → ((core : ℕ) → kept_log us core ≡ log_at (world q) core)
    → (Holds : (ℕ → List Record) → List UnitParts → Type 0) → Holds (kept_log us) us → Holds (log_at (world q)) (map (λ seat. seat.unit) q.seats)
of_machine q us is same Holds holds = subst (Holds (log_at (world q))) is (subst (λ (logs : ℕ → List Record). Holds logs us) (λ i core. same core i) holds)

-- and so do the numbers of the units and slices
pub machine_left : (old mid : Files) (asked : Sim) (set : SetParts) (g : ConfigParts) (q : CoreParts) (us : List UnitParts) (ss : List SliceParts) (format : Format) (cores slices : ℕ)
    → us ≡ map (λ seat. seat.unit) q.seats → ((core : ℕ) → kept_log us core ≡ log_at (world q) core) → ss ≡ q.slices
    → cores ≡ length set.programs → format ≡ log_format set.format → slices ≡ g.slices
    → AreLeftAsFar format old mid asked.out.now cores (kept_log us) asked.statistics (numbers_of cores slices us ss)
    → AreLeftAsFar (log_format set.format) old mid asked.out.now (length set.programs) (log_at (world q)) asked.statistics
    (numbers_of (length set.programs) g.slices (map (λ seat. seat.unit) q.seats) q.slices)
machine_left old mid asked set g q us ss format cores slices is logs same many spelled parts far =
    rw (← many, ← spelled, ← parts, ← same) (of_machine q us is logs (λ ls vs. AreLeftAsFar format old mid asked.out.now cores ls asked.statistics (numbers_of cores slices vs ss)) far)

-- ---- what is put goes to no log

pub sim_numbers_apart : (asked : Sim) → IsApart (request.Sim asked) → (name : List ℕ) → IsLogName asked.out.now name → ¬ (IsNameOf asked.statistics name)
sim_numbers_apart asked apart name log is =
    apart.logs name log (Contains-append_right (files_read (request.Sim asked)) (files_put (request.Sim asked)) name (first asked.statistics (asked.events ∷ []) name is))

pub sim_events_apart : (asked : Sim) → IsApart (request.Sim asked) → (name : List ℕ) → IsLogName asked.out.now name → ¬ (IsNameOf asked.events name)
sim_events_apart asked apart name log is =
    apart.logs name log (Contains-append_right (files_read (request.Sim asked)) (files_put (request.Sim asked)) name (later asked.statistics (asked.events ∷ []) name (first asked.events [] name is)))

pub run_numbers_apart : (asked : Run) → IsApart (request.Run asked) → (name : List ℕ) → IsLogName asked.out.now name → ¬ (IsNameOf asked.statistics name)
run_numbers_apart asked apart name log is =
    apart.logs name log (Contains-append_right (files_read (request.Run asked)) (files_put (request.Run asked)) name (first asked.statistics [] name is))

-- ---- a run that has ended

pub sim_answered : (old new : Files) (out out' : Sink) (asked : Sim) → (IsApart (request.Sim asked) → LeaveYes old.told new.told (request.Sim asked))
    → IsAnswered old new out out' (request.Sim asked) 0
sim_answered old new out out' asked leaves = record {
  sound = λ zero. tt;
  flat = λ zero. tt;
  no = λ one. tt;
  order = λ zero. tt;
  printed = tt;
  shown = tt;
  counted = tt;
  vetted = λ zero. tt;
  another = tt;
  upgraded = λ zero. tt;
  yes = λ zero. leaves;
}

pub run_answered : (old new : Files) (out out' : Sink) (asked : Run) → (IsApart (request.Run asked) → LeaveYes old.told new.told (request.Run asked))
    → IsAnswered old new out out' (request.Run asked) 0
run_answered old new out out' asked leaves = record {
  sound = λ zero. tt;
  flat = λ zero. tt;
  no = λ one. tt;
  order = λ zero. tt;
  printed = tt;
  shown = tt;
  counted = tt;
  vetted = λ zero. tt;
  another = tt;
  upgraded = λ zero. tt;
  yes = λ zero. leaves;
}
