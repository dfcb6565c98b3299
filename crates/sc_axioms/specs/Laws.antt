-- The law: both definitions say the same.
use Rattle.std.specs.Prelude.{◌↔◌, List}
use Rattle.mem_op.specs.Consistency.{Operation, IsConsistent}
use Rattle.sc_axioms.specs.Axioms.{IsAllowed}

-- a trace has a sequential order exactly if it has a candidate execution without a cycle
abbrev pub DefinitionsAgree : Type 0
DefinitionsAgree = (cores : List (List Operation)) → IsConsistent cores ↔ IsAllowed cores
