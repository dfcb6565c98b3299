-- What the bytes of an order say.
use Rattle.std.specs.Prelude.{◌≡◌, ℕ, List}
use Rattle.mem_op.specs.Consistency.{Operation, IsSequentialOrder}
use Rattle.mem_op.specs.declared.id.OpId.{OpId}
use Rattle.merge_judge.specs.OrderText.{order_text}

-- the bytes are the text of an order by which the operations are sequentially consistent
abbrev pub SpellsOrder : List (List Operation) → List ℕ → Type 0
SpellsOrder cores bytes = (order : List OpId) × IsSequentialOrder cores order × (bytes ≡ order_text order)
