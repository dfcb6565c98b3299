-- The entries of a core's log, as a set lends them.
use Rattle.std.specs.Prelude.{◌≡◌, ℕ, List, Option, None, Some, option_map, slice_get}
use Rattle.std.proofs.Common.{sym, ◌∙◌, ap}
use Rattle.log_record.specs.declared.record.Record.{Record}
use Rattle.log_record.specs.declared.record.Entry.{Entry}
use Rattle.log_record.specs.Entries.{core_entries}
use Rattle.verdict.proofs.EntryLogs.{entries_of, records_of_core}
use Rattle.explain.specs.LogFaults.{of_core}
use Rattle.explain.specs.inner.CoreLog.{IsLogOf, records_of}

-- they are all of its log
pub whole_log : (logs : List (List Record)) (core : ℕ) (es : List Entry) → Some es ≡ entries_of logs core → IsLogOf core es
whole_log logs core es h = go (slice_get logs core) h
  where
    go : (o : Option (List Record)) → Some es ≡ option_map (λ (log : List Record). core_entries core 0 log) o → IsLogOf core es
    go None e = cc
    go (Some log) e =
        let same : es ≡ core_entries core 0 log = cc in
        let read : records_of es ≡ log = ap records_of same ∙ records_of_core core 0 log in
        same ∙ ap (of_core core) (sym read)
