-- Logs that are given as records.
use Rattle.std.specs.Prelude.{ℕ, ◌+◌, ◌≤◌, Bool, false, List, [], ◌∷◌, length, map}
use Rattle.std.specs.List.{AllByRecursion}
use Rattle.mem_op.specs.Limits.{operation_limit}
use Rattle.log_record.specs.declared.format.Format.TheVariants.{Two}
use Rattle.log_record.specs.declared.record.Record.{Record}
use Rattle.log_record.specs.Line.{FitsIn}

-- a log may have these records: there are at most 2^20, and their numbers are in range
pub record AreOfLog (records : List Record) : Type 0 where
  pub few : length records ≤ operation_limit
  pub fit : AllByRecursion (FitsIn Two) records

-- the log of this core of `cores`, and whether its records were handed over
pub record GivenLog : Type 0 where
  pub core : ℕ
  pub cores : ℕ
  pub records : List Record
  pub given : Bool

-- the logs of cores core, core + 1, .. of `cores`, none of which was handed over
abbrev pub logs_from : ℕ → ℕ → List (List Record) → List GivenLog
logs_from core cores [] = []
logs_from core cores (log ∷ logs) = record { core = core; cores = cores; records = log; given = false } ∷ logs_from (core + 1) cores logs

abbrev pub records_of : List GivenLog → List (List Record)
records_of logs = map (λ log. log.records) logs
