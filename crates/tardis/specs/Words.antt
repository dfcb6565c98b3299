-- What the program says if it can't read its words, and its exit status.
use Rattle.std.specs.Prelude.{ℕ, List, ◌++◌, codes}
use Rattle.mem_op.specs.Names.{name_text}
use Rattle.mem_op.specs.declared.fault_name.FaultName.TheVariants as named
use Rattle.tardis.specs.declared.words.WordsFault.{WordsFault}
use Rattle.tardis.specs.declared.words.WordsFault.TheVariants.{NotText, OutOfMemory}

abbrev pub words_fault_text : WordsFault → List ℕ
words_fault_text NotText = codes "error: invalid UTF-8 was detected in one or more arguments"
words_fault_text OutOfMemory = codes "refused: " ++ name_text named.OutOfMemory

abbrev pub words_fault_status : WordsFault → ℕ
words_fault_status NotText = 3
words_fault_status OutOfMemory = 4
