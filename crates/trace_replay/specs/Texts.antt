-- The texts of answers, and the exit statuses.
use Rattle.std.specs.Prelude.{ℕ, List, ◌++◌, Option, None, Some, codes}
use Rattle.std.specs.Fmt.{decimal}
use Rattle.mem_op.specs.Names.{name_text}
use Rattle.mem_op.specs.Parts.{IdParts}
use Rattle.mem_op.specs.Texts.{id_text}
use Rattle.mem_op.specs.declared.fault_name.FaultName.TheVariants as named
use Rattle.trace_replay.specs.Parts.{WrongParts}
use Rattle.trace_replay.specs.declared.fault.ReplayFault.{ReplayFault}
use Rattle.trace_replay.specs.declared.fault.ReplayFault.TheVariants.{BadTraceLine, OutOfMemory, Read}
use Rattle.trace_replay.specs.declared.verdict.ReplayVerdict.{ReplayVerdict}
use Rattle.trace_replay.specs.declared.verdict.ReplayVerdict.TheVariants.{Yes, No}

abbrev pub verdict_text : ReplayVerdict → List ℕ
verdict_text (Yes count) = codes "yes: " ++ decimal count ++ codes " operations"
verdict_text (No wrong) = codes "no: " ++ id_text wrong.id ++ codes " VALUE"

abbrev pub verdict_status : ReplayVerdict → ℕ
verdict_status (Yes count) = 0
verdict_status (No wrong) = 1

-- what stood at an address, and who stored it
abbrev pub last_text : Option (ℕ × IdParts) → List ℕ
last_text None = codes "nothing was stored yet, so that it should have read 0"
last_text (Some (word, id)) = id_text id ++ (codes " had stored " ++ (decimal word ++ codes " last"))

-- what a load or a swap read, and what it should have read
abbrev pub wrong_text : WrongParts → List ℕ
wrong_text wrong =
    id_text wrong.id ++ (codes " read " ++ (decimal wrong.read ++ (codes " at address " ++ (decimal wrong.addr ++ (codes ", where " ++ last_text wrong.last)))))

abbrev pub fault_text : ReplayFault → List ℕ
fault_text (BadTraceLine line) = codes "line " ++ decimal line ++ codes ": " ++ name_text named.BadTraceLine
fault_text OutOfMemory = name_text named.OutOfMemory
fault_text Read = name_text named.Read

abbrev pub fault_status : ReplayFault → ℕ
fault_status (BadTraceLine line) = 2
fault_status OutOfMemory = 4
fault_status Read = 4
