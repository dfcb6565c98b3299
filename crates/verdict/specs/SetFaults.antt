-- Faults of reading as faults of the judge.
use Rattle.std.specs.Prelude.{ℕ}
use Rattle.log_file.specs.declared.fault.LogFault.{LogFault}
use Rattle.log_file.specs.declared.fault.LogFault.TheVariants.{At, OutOfMemory as NoMemory, Read as ReadFailed}
use Rattle.verdict.specs.declared.judge_fault.JudgeFault.{JudgeFault}
use Rattle.verdict.specs.declared.judge_fault.JudgeFault.TheVariants.{Log, OutOfMemory, Read}

-- the fault of a file
abbrev pub from_set : ℕ → LogFault → JudgeFault
from_set file (At line fault) = Log file line fault
from_set file NoMemory = OutOfMemory
from_set file ReadFailed = Read file
