-- A list of records, and what it keeps beside them.
use Rattle.std.specs.Prelude.{ℕ, List}
use Rattle.log_record.specs.declared.record.Record.{Record}
use Rattle.log_record.specs.declared.record.Entry.{Entry}

-- the core whose records they are, and the entries that stand before them
pub record Base : Type 0 where
  pub core : ℕ
  pub before : List Entry

pub record Listing : Type 0 where
  pub base : Base
  pub records : List Record
