-- What writing a set of logs anew, in format 2, leaves.
use Rattle.std.specs.Prelude.{ℕ, List, [], slice_get, vec_len}
use Rattle.std.specs.Option.{option_map_or}
use Rattle.command_line.specs.declared.request.Upgrade.{Upgrade}
use Rattle.log_record.specs.declared.format.Format.TheVariants.{Two}
use Rattle.log_record.specs.declared.record.Record.{Record}
use Rattle.host_files.specs.Files.{Files}
use Rattle.commands.specs.LogFiles.{Spelled}
use Rattle.commands.specs.Logs.{TellsFirst}

-- log c of a set; it has no records if the set has no such log
abbrev pub log_in : List (List Record) → ℕ → List Record
log_in logs c = option_map_or (λ log. log) (slice_get logs c) []

-- the new files spell in format 2 the logs that the old ones spelled
abbrev pub LeavesAnew : Files → Files → Upgrade → Type 0
LeavesAnew old new asked =
    Spelled old.told asked.files.items (λ logs. TellsFirst Two new.told asked.out.now (vec_len asked.files) (log_in logs) (vec_len asked.files))
