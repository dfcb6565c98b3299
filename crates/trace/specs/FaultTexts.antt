-- The texts of the faults: a number and a name.
use Rattle.std.specs.Prelude.{ℕ, List, ◌++◌, codes}
use Rattle.std.specs.Fmt.{decimal}
use Rattle.mem_op.specs.Names.{name_text}
use Rattle.mem_op.specs.declared.fault_name.FaultName.TheVariants as named
use Rattle.trace.specs.declared.fault.TraceFault.{TraceFault}
use Rattle.trace.specs.declared.fault.TraceFault.TheVariants as fault
use Rattle.trace.specs.declared.refusal.TraceFull.{TraceFull}
use Rattle.trace.specs.declared.refusal.TraceFull.TheVariants.{TooMany, OutOfMemory}

abbrev pub refusal_text : TraceFull → List ℕ
refusal_text TooMany = name_text named.TooMany
refusal_text OutOfMemory = name_text named.OutOfMemory

abbrev pub fault_text : TraceFault → List ℕ
fault_text (fault.BadTraceLine line) = codes "line " ++ (decimal line ++ (codes ": " ++ name_text named.BadTraceLine))
fault_text (fault.TooMany line) = codes "line " ++ (decimal line ++ (codes ": " ++ name_text named.TooMany))
fault_text fault.OutOfMemory = name_text named.OutOfMemory
