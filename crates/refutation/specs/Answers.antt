-- What an answer says, and what shows it.
use Rattle.std.specs.Prelude.{List}
use Rattle.mem_op.specs.Consistency.{Operation, IsSequentialOrder, IsConsistent}
use Rattle.refutation.specs.declared.answer.Answer.{Answer}
use Rattle.refutation.specs.declared.answer.Answer.TheVariants.{Order, Refutation, Undecided}
use Rattle.refutation.specs.Refuting.{IsRefutation}

-- an order is one by which the trace is consistent; if there is a refutation, it isn't
abbrev pub IsRight : List (List Operation) → Answer → Type 0
IsRight cores (Order order) = IsSequentialOrder cores order.items
IsRight cores (Refutation steps) = ¬ IsConsistent cores
IsRight cores Undecided = Unit {0}

-- what comes with the answer shows it
abbrev pub IsShown : List (List Operation) → Answer → Type 0
IsShown cores (Order order) = IsSequentialOrder cores order.items
IsShown cores (Refutation steps) = IsRefutation cores steps
IsShown cores Undecided = Unit {0}
