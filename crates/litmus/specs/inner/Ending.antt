-- What the readers of the lines after the sections have found. Private contracts cite these.
use Rattle.std.specs.Prelude.{◌≡◌, ◌≢◌, ℕ, ◌+◌, ◌<◌, ◌≤◌, List, [], ◌∷◌, ◌++◌, length, map, drop, codes}
use Rattle.std.specs.Global.{Vec}
use Rattle.core_program.specs.Grammar.{end_text}
use Rattle.litmus.specs.TestGrammar.{forbid_text, last_lines, show_text, AreForbidden, AreShown, IsOutcome}
use Rattle.litmus.specs.Parts.{ShownParts}
use Rattle.litmus.specs.declared.litmus_fault.LitmusFault.{LitmusFault}
use Rattle.litmus.specs.declared.litmus_fault.LitmusFault.TheVariants.{BadLitmusLine, BadLine, TooLong, SkipPastEnd, OutOfMemory}
use Rattle.litmus.specs.declared.ending.Forbids.{Forbids}
use Rattle.text_lines.specs.Items.{lines_of, ItemInFront, NoItemInFront}
use Rattle.text_lines.specs.Lines.{text_of}

-- the bytes begin with the line of these registers, and these come after it
abbrev pub ShowInFront : ℕ → List ShownParts → List ℕ → List ℕ → Type 0
ShowInFront cores shown bytes rest = ItemInFront show_text (AreShown cores) shown bytes rest

-- the bytes don't begin with such a line; nor, in the next two, with that of a forbidden outcome or with the end line
abbrev pub NoShowInFront : ℕ → List ℕ → Type 0
NoShowInFront cores bytes = NoItemInFront show_text (AreShown cores) bytes

abbrev pub NoForbidInFront : ℕ → List ℕ → Type 0
NoForbidInFront count bytes = NoItemInFront forbid_text (IsOutcome count) bytes

abbrev pub NoEndInFront : List ℕ → Type 0
NoEndInFront bytes = (rest : List ℕ) → bytes ≡ end_text ++ 10 ∷ rest → ⊥

-- the words that vectors hold
abbrev pub word_lists : List (Vec ℕ) → List (List ℕ)
word_lists lists = map (λ values. values.items) lists

-- the forbidden outcomes whose lines the bytes begin with, and these come after them
pub record ForbidsInFront (count : ℕ) (bytes : List ℕ) (forbidden : List (List ℕ)) (rest : List ℕ) : Type 0 where
  pub are : AreForbidden count forbidden
  pub text : bytes ≡ lines_of forbid_text forbidden ++ rest
  -- all of them, up to as many as there may be
  pub all : length forbidden < 16 → NoForbidInFront count rest

pub record AreForbidsOf (count : ℕ) (bytes : List ℕ) (found : Forbids) : Type 0 where
  pub taken : found.taken ≤ length bytes
  pub in_front : ForbidsInFront count bytes (word_lists found.outcomes.items) (drop found.taken bytes)

-- ---- a line that is wrong where sections may go on

-- bytes are there that begin neither with `core ` nor with `show `
pub record BeginsInstruction (bytes : List ℕ) : Type 0 where
  pub there : bytes ≢ []
  pub no_core : (more : List ℕ) → bytes ≢ codes "core " ++ more
  pub no_show : (more : List ℕ) → bytes ≢ codes "show " ++ more

-- the fault is that of this line: of an instruction line if a section has begun and the line begins as an instruction does, and else of a line of the
-- test
abbrev pub IsWrongLine : ℕ → ℕ → List ℕ → LitmusFault → Type 0
IsWrongLine line begun bytes (BadLine k) = (k ≡ line) × (0 < begun) × BeginsInstruction bytes
IsWrongLine line begun bytes (BadLitmusLine k) = (k ≡ line) × (0 < begun → BeginsInstruction bytes → ⊥)
IsWrongLine line begun bytes (TooLong k) = ⊥
IsWrongLine line begun bytes (SkipPastEnd k) = ⊥
IsWrongLine line begun bytes OutOfMemory = ⊥

-- why the lines after the sections, of which line `line` is the first, aren't those of a test
pub data IsEndingFault (cores line : ℕ) (bytes : List ℕ) (fault : LitmusFault) : Type 0 where
  show_missing : NoShowInFront cores bytes → IsWrongLine line cores bytes fault → IsEndingFault cores line bytes fault
  end_missing : (shown : List ShownParts) (forbidden : List (List ℕ)) (behind rest : List ℕ) → ShowInFront cores shown bytes behind
      → ForbidsInFront (length shown) behind forbidden rest → NoEndInFront rest
      → fault ≡ BadLitmusLine (line + 1 + length forbidden) → IsEndingFault cores line bytes fault
  bytes_after : (shown : List ShownParts) (forbidden : List (List ℕ)) (behind rest after_end : List ℕ) → ShowInFront cores shown bytes behind
      → ForbidsInFront (length shown) behind forbidden rest → rest ≡ end_text ++ 10 ∷ after_end → after_end ≢ []
      → fault ≡ BadLitmusLine (line + 2 + length forbidden) → IsEndingFault cores line bytes fault
  memory_short : fault ≡ OutOfMemory → IsEndingFault cores line bytes fault

-- the bytes are the lines after the sections
pub record IsEnding (cores : ℕ) (bytes : List ℕ) (shown : List ShownParts) (forbidden : List (List ℕ)) : Type 0 where
  pub are_shown : AreShown cores shown
  pub are_forbidden : AreForbidden (length shown) forbidden
  pub text : bytes ≡ text_of (last_lines shown forbidden)
