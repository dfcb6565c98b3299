-- How a log that is being read keeps the bytes that its reader hasn't had yet.
use Rattle.std.specs.Prelude.{◌-◌, ◌<◌, ◌≤◌, length, take, drop}
use Rattle.merge_judge.specs.declared.open_log.OpenLog.TheInside.{Inside}
use Rattle.merge_judge.specs.OpenedLog.{OpenedLog}

abbrev pub opened : Inside → OpenedLog
opened a = record { reader = a.reader; unused = take (a.filled - a.used) (drop a.used a.piece.items) }

pub record IsWithin (a : Inside) : Type 0 where
  pub used : a.used ≤ a.filled
  pub filled : a.filled ≤ length a.piece.items
  pub room : 0 < length a.piece.items
