-- Faults of writing as faults of a merge.
use Rattle.log_file.specs.declared.device_fault.WriteFault.{WriteFault}
use Rattle.log_file.specs.declared.device_fault.WriteFault.TheVariants.{OutOfMemory as NoMemory, Write as WriteFailed}
use Rattle.verdict.specs.declared.judge_fault.JudgeFault.TheVariants.{OutOfMemory}
use Rattle.merge_judge.specs.declared.merge_fault.MergeFault.{MergeFault}
use Rattle.merge_judge.specs.declared.merge_fault.MergeFault.TheVariants.{Judge, Write}

abbrev pub from_write : WriteFault → MergeFault
from_write NoMemory = Judge OutOfMemory
from_write WriteFailed = Write
