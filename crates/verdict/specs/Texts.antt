-- The texts of verdicts and of faults.
use Rattle.std.specs.Prelude.{ℕ, List, ◌++◌, codes}
use Rattle.std.specs.Fmt.{decimal}
use Rattle.mem_op.specs.Names.{name_text}
use Rattle.mem_op.specs.declared.fault_name.FaultName.TheVariants as named
use Rattle.mem_op.specs.Texts.{id_text}
use Rattle.log_file.specs.Faults.{fault_text as line_fault_text}
use Rattle.verdict.specs.declared.rule.Rule.{Rule}
use Rattle.verdict.specs.declared.rule.Rule.TheVariants.{CoreOrder, Program, Source, Value}
use Rattle.verdict.specs.FaultParts.{FaultParts}
use Rattle.verdict.specs.declared.answer.Verdict.{Verdict}
use Rattle.verdict.specs.declared.answer.Verdict.TheVariants.{Yes, No}
use Rattle.verdict.specs.declared.judge_fault.Count.{Count}
use Rattle.verdict.specs.declared.judge_fault.Count.TheVariants.{Files, Workers, Programs}
use Rattle.verdict.specs.declared.judge_fault.JudgeFault.{JudgeFault}
use Rattle.verdict.specs.declared.judge_fault.JudgeFault.TheVariants.{BadConfig, Log, OutOfMemory, Read}

abbrev pub rule_text : Rule → List ℕ
rule_text CoreOrder = codes "CORE-ORDER"
rule_text Program = codes "PROGRAM"
rule_text Source = codes "SOURCE"
rule_text Value = codes "VALUE"

-- an id and a rule, as `1.0 SOURCE`
abbrev pub fault_text : FaultParts → List ℕ
fault_text fault = id_text fault.id ++ codes " " ++ rule_text fault.rule

abbrev pub verdict_text : Verdict → List ℕ
verdict_text (Yes count) = codes "yes: " ++ decimal count ++ codes " operations"
verdict_text (No fault) = codes "no: " ++ fault_text fault

abbrev pub count_text : Count → List ℕ
count_text Files = codes "files"
count_text Workers = codes "workers"
count_text Programs = codes "programs"

-- a number and a name, after the file and the line if there are any; a bad count is named too
abbrev pub judge_fault_text : JudgeFault → List ℕ
judge_fault_text (BadConfig count) = name_text named.BadConfig ++ codes " " ++ count_text count
judge_fault_text (Log file line fault) =
    codes "file " ++ decimal file ++ codes " line " ++ decimal line ++ codes ": "
    ++ line_fault_text fault
judge_fault_text OutOfMemory = name_text named.OutOfMemory
judge_fault_text (Read file) = codes "file " ++ decimal file ++ codes ": " ++ name_text named.Read
