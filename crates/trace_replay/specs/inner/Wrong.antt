-- What isn't performed on a memory.
use Rattle.std.specs.Prelude.{◌≡◌, Some}
use Rattle.mem_op.specs.Consistency.{Operation}
use Rattle.mem_op.specs.Parts.{IdParts}
use Rattle.flat_replay.specs.Accesses.{address_of, word_read}
use Rattle.flat_replay.specs.Memory.{IsAnsweredBy, last_at, word_at}
use Rattle.flat_replay.specs.declared.memory.Memory.{Memory}
use Rattle.trace_replay.specs.Parts.{WrongParts}

-- what is told about an operation that doesn't find the word that it read
pub record IsWrongIn (memory : Memory IdParts) (id : IdParts) (operation : Operation) (wrong : WrongParts) : Type 0 where
  pub isnt : ¬ IsAnsweredBy (word_at memory) operation
  pub id_is : wrong.id ≡ id
  pub addr : wrong.addr ≡ address_of operation
  pub read : word_read operation ≡ Some wrong.read
  pub last : wrong.last ≡ last_at memory wrong.addr
