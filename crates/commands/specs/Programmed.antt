-- The configuration and the programs of the run that was asked for.
use Rattle.std.specs.Prelude.{◌≡◌, ℕ, List, Option, None}
use Rattle.command_line.specs.declared.request.Limits.{Limits}
use Rattle.lease_rule.specs.ConfigParts.{ConfigParts}
use Rattle.lease_rule.specs.Ranges.{first_bad}
use Rattle.core_program.specs.SetParts.{SetParts}
use Rattle.core_program.specs.declared.format.ProgramFormat.{ProgramFormat}
use Rattle.core_program.specs.declared.format.ProgramFormat.TheVariants as of_programs
use Rattle.log_record.specs.declared.format.Format.{Format as LogFormat}
use Rattle.log_record.specs.declared.format.Format.TheVariants as of_logs
use Rattle.commands.specs.Programs.{AreProgramsIn}

-- the numbers of the machine, with 10,000,000 turns
abbrev pub config_of : Limits → ConfigParts
config_of limits = record {
  slices = limits.slices;
  lease = limits.lease;
  period = limits.period;
  cache_lines = limits.cache_lines;
  slice_lines = limits.slice_lines;
  inbox = limits.inbox;
  turns = 10000000;
}

-- the format of the logs of a run of programs in this format
abbrev pub log_format : ProgramFormat → LogFormat
log_format of_programs.One = of_logs.One
log_format of_programs.Two = of_logs.Two

-- the configuration is in range, and something holds of the set of programs
abbrev pub Programmed : (List ℕ → Option (List ℕ)) → Limits → List ℕ → (SetParts → Type 0) → Type 0
Programmed told limits name Holds =
    (first_bad (config_of limits) ≡ None) × (set : SetParts) × AreProgramsIn told name set × Holds set
