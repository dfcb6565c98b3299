-- A log that is read record by record, without its source.
use Rattle.std.specs.Prelude.{ℕ, List}
use Rattle.log_file.specs.Answering.{Answering}

-- the reader of its records, and the bytes that were read from its file but that this reader hasn't had yet
pub record OpenedLog : Type 0 where
  pub reader : Answering
  pub unused : List ℕ
