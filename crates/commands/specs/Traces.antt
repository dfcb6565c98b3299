-- The traces that files tell.
use Rattle.std.specs.Prelude.{◌≡◌, ℕ, List, Option, vec_len}
use Rattle.std.specs.Borrow.{Bor}
use Rattle.commands.specs.LogFiles.{Spelled}
use Rattle.command_line.specs.declared.request.TraceFiles.{TraceFiles}
use Rattle.command_line.specs.declared.request.TraceFiles.TheVariants.{One, Logs as LogFiles, Sourced}
use Rattle.log_file.specs.Devices.{Tells}
use Rattle.log_record.specs.Entries.{operations_of}
use Rattle.mem_op.specs.Consistency.{Operation}
use Rattle.trace.specs.Texts.{SpellsTrace}
use Rattle.verdict.specs.Counts.{IsInRange}
use Rattle.commands.specs.Sources.{sourced_operations}

-- the text of the file of this name spells this trace
abbrev pub SpellsTraceAt : (List ℕ → Option (List ℕ)) → List ℕ → List (List Operation) → Type 0
SpellsTraceAt told name cores = (text : List ℕ) × Tells (told name) text × SpellsTrace text cores

-- the texts of the files spell the logs of a set, and this is its trace
abbrev pub SpellLogsAt : (List ℕ → Option (List ℕ)) → List (Bor (List ℕ)) → List (List Operation) → Type 0
SpellLogsAt told names cores = Spelled told names (λ logs. cores ≡ operations_of logs)

-- the same, with the sources that the logs name in place of their words
abbrev pub SpellSourcesAt : (List ℕ → Option (List ℕ)) → List (Bor (List ℕ)) → List (List Operation) → Type 0
SpellSourcesAt told names cores = Spelled told names (λ logs. cores ≡ sourced_operations logs)

-- the files tell this trace
abbrev pub IsTraceIn : (List ℕ → Option (List ℕ)) → TraceFiles → List (List Operation) → Type 0
IsTraceIn told (One name) cores = SpellsTraceAt told name.now cores
IsTraceIn told (LogFiles names) cores = IsInRange (vec_len names) × SpellLogsAt told names.items cores
IsTraceIn told (Sourced names) cores = IsInRange (vec_len names) × SpellSourcesAt told names.items cores

-- the files tell a trace of which something holds
abbrev pub TellsTrace : (List ℕ → Option (List ℕ)) → TraceFiles → (List (List Operation) → Type 0) → Type 0
TellsTrace told files Holds = (cores : List (List Operation)) × IsTraceIn told files cores × Holds cores

-- the same files, but their sources aren't taken as given
abbrev pub own_files : TraceFiles → TraceFiles
own_files (Sourced names) = LogFiles names
own_files files = files
