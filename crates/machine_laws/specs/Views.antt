-- What is seen at each address of a machine without messages.
use Rattle.std.specs.Prelude.{◌≡◌, ℕ, Bool, List, Option, Some, None, slice_get}
use Rattle.mem_op.specs.declared.id.Source.{Source}
use Rattle.line_stamps.specs.declared.line.Line.{Line}
use Rattle.log_record.specs.declared.act.Act.{Act}
use Rattle.log_record.specs.declared.act.Act.TheVariants.{Load, Store, Swap}
use Rattle.log_record.specs.declared.record.Record.{Record}

pub record View : Type 0 where
  -- the line from which copies are made: the owner's if there is one, else the slice's or the memory's
  pub home : ℕ → Line
  -- a core's copy of it, which may be old
  pub copy : ℕ → ℕ → Option Line
  -- this core owns the line and has modified it
  pub dirty : ℕ → ℕ → Bool
  pub pts : ℕ → ℕ
  pub r : ℕ → ℕ
  pub log : ℕ → List Record

-- core c has performed q as its operation i
pub record Did (v : View) (c i : ℕ) (q : Record) : Type 0 where
  pub is : slice_get (v.log c) i ≡ Some q

-- what an operation has read, and from which source: a swap reads the word that it replaces, and a store reads nothing
abbrev pub read_by : Act → ℕ → Option (Source × ℕ)
read_by (Load source) value = Some (source, value)
read_by Store value = None
read_by (Swap source read) value = Some (source, read)

abbrev pub read_of : Record → Option (Source × ℕ)
read_of q = read_by q.act q.value
