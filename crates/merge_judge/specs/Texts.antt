-- The texts of faults of a merge.
use Rattle.std.specs.Prelude.{ℕ, List, ◌++◌, codes}
use Rattle.mem_op.specs.Names.{name_text}
use Rattle.mem_op.specs.declared.fault_name.FaultName.TheVariants as named
use Rattle.verdict.specs.Texts.{judge_fault_text}
use Rattle.merge_judge.specs.declared.merge_fault.MergeFault.{MergeFault}
use Rattle.merge_judge.specs.declared.merge_fault.MergeFault.TheVariants.{Judge, Write}

abbrev pub merge_fault_text : MergeFault → List ℕ
merge_fault_text (Judge fault) = judge_fault_text fault
merge_fault_text Write = codes "output: " ++ name_text named.Write
