-- The text of a litmus test, and which tests have one.
use Rattle.std.specs.Prelude.{◌≡◌, ℕ, ◌<◌, ◌≤◌, ◌^◌, Bool, true, ◌||◌, ◌&&◌, ◌==◌, nat_le, List, [], ◌∷◌, ◌++◌, length, map, codes}
use Rattle.std.specs.List.{AllByRecursion}
use Rattle.decimal_text.specs.Numbers.{numeral}
use Rattle.core_program.specs.declared.format.ProgramFormat.{ProgramFormat}
use Rattle.core_program.specs.declared.instruction.Instruction.{Instruction}
use Rattle.core_program.specs.Grammar.{end_text, format_number, sections, IsSetOf}
use Rattle.litmus.specs.Parts.{LitmusParts, ShownParts}
use Rattle.text_lines.specs.Words.{spaced}

-- ---- the texts

-- the first line of a test of this format, for this number of cores
unfoldable pub header_text : ℕ → List ℕ → ℕ → List ℕ
header_text format name cores =
    codes "tardis-litmus " ++ (numeral format ++ (codes " " ++ (name ++ (codes " cores " ++ numeral cores))))

-- a shown register: its core, and its number after `.r`
unfoldable pub shown_text : ShownParts → List ℕ
shown_text shown = numeral shown.core ++ (codes ".r" ++ numeral shown.register)

-- the line of the shown registers
unfoldable pub show_text : List ShownParts → List ℕ
show_text shown = codes "show" ++ spaced shown_text shown

-- the line of a forbidden outcome
unfoldable pub forbid_text : List ℕ → List ℕ
forbid_text values = codes "forbid" ++ spaced numeral values

-- the lines after the sections
abbrev pub last_lines : List ShownParts → List (List ℕ) → List (List ℕ)
last_lines shown forbidden = show_text shown ∷ (map forbid_text forbidden ++ end_text ∷ [])

abbrev pub litmus_lines : LitmusParts → List (List ℕ)
litmus_lines t = header_text (format_number t.format) t.name (length t.programs) ∷ (sections 0 t.programs ++ last_lines t.shown t.forbidden)

-- ---- what has a text

-- a digit, a letter, `+` or `-`
abbrev pub is_name_byte : ℕ → Bool
is_name_byte b = (nat_le 48 b && nat_le b 57) || (nat_le 65 b && nat_le b 90) || (nat_le 97 b && nat_le b 122) || (b == 43) || (b == 45)

-- 1..32 such bytes
pub record IsName (name : List ℕ) : Type 0 where
  pub some : 1 ≤ length name
  pub few : length name ≤ 32
  pub each : AllByRecursion (λ b. is_name_byte b ≡ true) name

-- a register of one of this many cores
abbrev pub IsRegister : ℕ → ShownParts → Type 0
IsRegister cores shown = (shown.core < cores) × (shown.register < 16)

-- 1..8 of them; one may be there twice
pub record AreShown (cores : ℕ) (shown : List ShownParts) : Type 0 where
  pub some : 1 ≤ length shown
  pub few : length shown ≤ 8
  pub each : AllByRecursion (IsRegister cores) shown

-- an outcome: a word for each shown register
pub record IsOutcome (count : ℕ) (values : List ℕ) : Type 0 where
  pub one_each : length values ≡ count
  pub words : AllByRecursion (λ value. value < 2 ^ 64) values

-- 0..16 of them
pub record AreForbidden (count : ℕ) (forbidden : List (List ℕ)) : Type 0 where
  pub few : length forbidden ≤ 16
  pub each : AllByRecursion (IsOutcome count) forbidden

-- a test; `Section` holds of its format and each of its sections
pub record IsTestOf (Section : ProgramFormat → List Instruction → Type 0) (t : LitmusParts) : Type 0 where
  pub name : IsName t.name
  pub programs : IsSetOf (Section t.format) t.programs
  pub shown : AreShown (length t.programs) t.shown
  pub forbidden : AreForbidden (length t.shown) t.forbidden
