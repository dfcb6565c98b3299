-- How far the log of one core was merged, without its source.
use Rattle.std.specs.Prelude.{ℕ, Bool, Option}
use Rattle.log_record.specs.declared.record.Record.{Record}
use Rattle.log_file.specs.declared.fault.LogFault.{LogFault}
use Rattle.merge_judge.specs.OpenedLog.{OpenedLog}

-- a log that is being read, and whether it holds all bytes that are left of it
pub record KeptLog : Type 0 where
  pub log : OpenedLog
  pub whole : Bool

-- the log, its first record that isn't merged yet, how many are, where (ts, rank) first falls in it, and its fault
pub record LaneParts : Type 0 where
  pub log : KeptLog
  pub front : Option Record
  pub merged : ℕ
  pub falls : Option ℕ
  pub fault : Option LogFault
