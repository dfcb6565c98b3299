-- What the bytes of a litmus test say, and their first fault.
use Rattle.std.specs.Prelude.{◌≡◌, ◌≢◌, ℕ, ◌+◌, ◌<◌, ◌≤◌, List, [], ◌∷◌, ◌++◌, length, codes}
use Rattle.std.specs.List.{AllByRecursion}
use Rattle.core_program.specs.declared.format.ProgramFormat.{ProgramFormat}
use Rattle.core_program.specs.declared.instruction.Instruction.{Instruction}
use Rattle.core_program.specs.Answers.{IsBadLine, IsLeast, IsTooLong, SkipsInSetAt}
use Rattle.core_program.specs.Grammar.{format_number, sections, EachFits, IsSection}
use Rattle.core_program.specs.Lines.{text_of}
use Rattle.litmus.specs.TestGrammar.{header_text, litmus_lines, IsName, IsTestOf}
use Rattle.litmus.specs.Parts.{LitmusParts}
use Rattle.litmus.specs.declared.litmus_fault.LitmusFault.{LitmusFault}
use Rattle.litmus.specs.declared.litmus_fault.LitmusFault.TheVariants.{BadLitmusLine, BadLine, TooLong, SkipPastEnd, OutOfMemory}

-- the bytes are the text of this test
abbrev pub Spells : List ℕ → LitmusParts → Type 0
Spells bytes t = IsTestOf IsSection t × (bytes ≡ text_of (litmus_lines t))

-- the lines of a test; `Section` holds of its format and each of its sections
abbrev pub LitmusLines : (ProgramFormat → List Instruction → Type 0) → List (List ℕ) → Type 0
LitmusLines Section lines = (t : LitmusParts) × (IsTestOf Section t × (lines ≡ litmus_lines t))

-- Line k is an instruction line: before it come the first line and sections, the last of them perhaps not at its end; and bytes are
-- there that begin neither with `core ` nor with `show `.
pub record IsInstructionLine (bytes : List ℕ) (k : ℕ) : Type 0 where
  pub format : ProgramFormat
  pub name : List ℕ
  pub is_name : IsName name
  pub cores : ℕ
  pub programs : List (List Instruction)
  pub some : 0 < length programs
  pub each : AllByRecursion (EachFits format) programs
  pub rest : List ℕ
  pub text : bytes ≡ text_of (header_text (format_number format) name cores ∷ sections 0 programs) ++ rest
  pub line : k ≡ length (sections 0 programs) + 2
  pub there : rest ≢ []
  pub no_core : (more : List ℕ) → rest ≢ codes "core " ++ more
  pub no_show : (more : List ℕ) → rest ≢ codes "show " ++ more

-- Why bytes aren't the text of a test. Lack of memory may come instead of a test and of every other fault.
abbrev pub IsFault : List ℕ → LitmusFault → Type 0
IsFault bytes (BadLitmusLine k) = IsBadLine LitmusLines bytes k × (¬ (IsInstructionLine bytes k))
IsFault bytes (BadLine k) = IsBadLine LitmusLines bytes k × IsInstructionLine bytes k
IsFault bytes (TooLong k) = IsTooLong LitmusLines bytes k
IsFault bytes (SkipPastEnd k) = (t : LitmusParts) × (Spells bytes t × IsLeast (SkipsInSetAt t.programs) k)
IsFault bytes OutOfMemory = Unit {0}
