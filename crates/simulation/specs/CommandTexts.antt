-- The texts of commands and of schedules, and which commands have a text.
use Rattle.std.specs.Prelude.{ℕ, ◌<◌, ◌≤◌, min, List, [], ◌∷◌, codes}
use Rattle.std.specs.List.{join_with_byte}
use Rattle.decimal_text.specs.Numbers.{numeral}
use Rattle.line_stamps.specs.declared.message.RecallKind.{RecallKind}
use Rattle.line_stamps.specs.declared.message.RecallKind.TheVariants.{WriteBack, Flush}
use Rattle.simulation.specs.declared.command.Command.{Command}
use Rattle.simulation.specs.declared.command.Command.TheVariants.{Turn, Serve, Take, Recall, Evict, Spill, Bump, Round, Op, Finish}

-- how a line is to be given back
abbrev pub kind_text : RecallKind → List ℕ
kind_text WriteBack = codes "wb"
kind_text Flush = codes "flush"

-- the fields of a command's line
abbrev pub fields_of : Command → List (List ℕ)
fields_of (Turn core) = codes "turn" ∷ numeral core ∷ []
fields_of (Serve core) = codes "serve" ∷ numeral core ∷ []
fields_of (Take core) = codes "take" ∷ numeral core ∷ []
fields_of (Recall recall) = codes "recall" ∷ numeral recall.owner ∷ numeral recall.addr ∷ kind_text recall.kind ∷ numeral recall.rts ∷ []
fields_of (Evict core addr) = codes "evict" ∷ numeral core ∷ numeral addr ∷ []
fields_of (Spill addr) = codes "spill" ∷ numeral addr ∷ []
fields_of (Bump core) = codes "bump" ∷ numeral core ∷ []
fields_of (Round core) = codes "round" ∷ numeral core ∷ []
fields_of (Op core) = codes "op" ∷ numeral core ∷ []
fields_of (Finish core) = codes "finish" ∷ numeral core ∷ []

-- a command's line: its fields, with a space between each two
unfoldable pub command_text : Command → List ℕ
command_text command = join_with_byte 32 (fields_of command)

-- the core of a command is below the number of cores and below 64, and the command's other numbers are in range
abbrev pub Fits : ℕ → Command → Type 0
Fits cores (Turn core) = core < min cores 64
Fits cores (Serve core) = core < min cores 64
Fits cores (Take core) = core < min cores 64
Fits cores (Recall recall) = (recall.owner < min cores 64) × (recall.addr < 65536) × (recall.rts ≤ 281474976710656)
Fits cores (Evict core addr) = (core < min cores 64) × (addr < 65536)
Fits cores (Spill addr) = addr < 65536
Fits cores (Bump core) = core < min cores 64
Fits cores (Round core) = core < min cores 64
Fits cores (Op core) = core < min cores 64
Fits cores (Finish core) = core < min cores 64
