-- The traces of the logs in files.
use Rattle.std.proofs.Common.{◌≡◌, ◌∙◌, ap, sym, ℕ, List, Option}
use Rattle.std.specs.Borrow.{Bor}
use Rattle.std.specs.Global.{Vec}
use Rattle.commands.specs.LogFiles.{Spelled}
use Rattle.log_record.specs.Entries.{operations_of, record_lists}
use Rattle.log_record.specs.declared.record.Record.{Record}
use Rattle.mem_op.specs.Consistency.{Operation}
use Rattle.commands.specs.Sources.{sourced_operations}
use Rattle.commands.specs.Traces.{SpellLogsAt, SpellSourcesAt}

-- the trace of the logs that were read
pub logs_spelled : (told : List ℕ → Option (List ℕ)) (names : List (Bor (List ℕ))) (read given : List (Vec Record)) (cores : List (List Operation)) → given ≡ read
    → Spelled told names (λ logs. logs ≡ record_lists read) → cores ≡ operations_of (record_lists given) → SpellLogsAt told names cores
logs_spelled told names read given cores same (texts, tell, (logs, spell, is)) trace =
    (texts, tell, (logs, spell, trace ∙ ap (λ (vs : List (Vec Record)). operations_of (record_lists vs)) same ∙ ap operations_of (sym is)))

-- and with their sources in place of words
pub sources_spelled : (told : List ℕ → Option (List ℕ)) (names : List (Bor (List ℕ))) (read given : List (Vec Record)) (cores : List (List Operation)) → given ≡ read
    → Spelled told names (λ logs. logs ≡ record_lists read) → cores ≡ sourced_operations (record_lists given) → SpellSourcesAt told names cores
sources_spelled told names read given cores same (texts, tell, (logs, spell, is)) trace =
    (texts, tell, (logs, spell, trace ∙ ap (λ (vs : List (Vec Record)). sourced_operations (record_lists vs)) same ∙ ap sourced_operations (sym is)))
