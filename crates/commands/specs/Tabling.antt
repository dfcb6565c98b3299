-- What counting the outcomes of a litmus test promises.
use Rattle.std.specs.Prelude.{◌≡◌, ℕ, Bool, true, false, List, Option, None, if◌then◌else◌}
use Rattle.std.specs.Io.KnownBytes.{Appends}
use Rattle.std.specs.List.{AllByRecursion, list_any}
use Rattle.command_line.specs.declared.request.LitmusRuns.{LitmusRuns}
use Rattle.core_program.specs.Shape.{IsProgram}
use Rattle.lease_rule.specs.Ranges.{first_bad}
use Rattle.litmus.specs.Tests.{Spells}
use Rattle.lease_rule.specs.ConfigParts.{ConfigParts}
use Rattle.litmus.specs.Collecting.{IsSeededTable, IsThreadTable, total}
use Rattle.litmus.specs.Parts.{LitmusParts}
use Rattle.litmus.specs.TableParts.{TableParts}
use Rattle.litmus.specs.TableText.{table_text}
use Rattle.litmus.specs.declared.collecting.Collected.{Collected}
use Rattle.commands.specs.Programmed.{config_of}
use Rattle.log_file.specs.Devices.{Tells}
use Rattle.log_file.specs.Sinks.{Sink}

-- this is the test in the file of this name
abbrev pub IsTestIn : (List ℕ → Option (List ℕ)) → List ℕ → LitmusParts → Type 0
IsTestIn told name t = (text : List ℕ) × Tells (told name) text × Spells text t × AllByRecursion IsProgram t.programs

-- the table and the totals of runs by threads, or of runs by seeds
abbrev pub IsTableBy : Bool → LitmusParts → ConfigParts → ℕ → ℕ → Option ℕ → Collected → Type 0
IsTableBy true t g runs seed stress collected = IsThreadTable t g runs collected
IsTableBy false t g runs seed stress collected = IsSeededTable t g runs seed stress collected

-- the configuration is in range, and this is the table of the runs that were asked for, with their totals
abbrev pub IsTabled : (List ℕ → Option (List ℕ)) → LitmusRuns → Collected → Type 0
IsTabled told asked collected =
    (first_bad (config_of asked.limits) ≡ None) × (t : LitmusParts) × IsTestIn told asked.test.now t
    × IsTableBy asked.threads t (config_of asked.limits) asked.runs asked.seed asked.stress collected

-- an outcome of the table is forbidden
abbrev pub has_forbidden : TableParts → Bool
has_forbidden table = list_any (λ row. row.forbidden) table.rows

-- the sink took the text of a table of as many runs as were asked for, and the status is 1 exactly if an outcome of it is forbidden
abbrev pub AreRunsCounted : (List ℕ → Option (List ℕ)) → LitmusRuns → Sink → Sink → ℕ → Type 0
AreRunsCounted told asked out out' status =
    (collected : Collected) × IsTabled told asked collected × (total collected.table.rows ≡ asked.runs)
    × Appends out.contents out'.contents (table_text collected.table) × (status ≡ (if has_forbidden collected.table then 1 else 0))
