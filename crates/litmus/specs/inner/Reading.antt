-- Reading the lines of a litmus test from left to right, as functions on their bytes. Private contracts cite these; the public ones
-- speak of the texts alone.
use Rattle.std.specs.Prelude.{ℕ, suc, ◌≤◌, ◌==◌, ◌&&◌, nat_le, min, if◌then◌else◌, List, [], ◌∷◌, Option, Some, None, codes, take, drop}
use denote.Ref.{Bor}
use Rattle.decimal_text.specs.Reading.{◌>>=◌, after, field_at, last_number, number_at}
use Rattle.core_program.specs.declared.format.ProgramFormat.{ProgramFormat}
use Rattle.core_program.specs.declared.format.ProgramFormat.TheVariants.{One, Two}
use Rattle.core_program.specs.Grammar.{format_number}
use Rattle.litmus.specs.TestGrammar.{header_text, is_name_byte, IsName}
use Rattle.litmus.specs.Parts.{ShownParts}
use Rattle.litmus.specs.declared.header.Header.{Header}
use Rattle.text_lines.specs.Fields.{below}
use Rattle.text_lines.specs.Words.{at_end}

-- a space and then a register of one of this many cores, and the bytes after it
unfoldable pub shown_at : ℕ → List ℕ → Option (ShownParts × List ℕ)
shown_at cores bytes =
    after (codes " ") bytes >>= number_at >>= λ c. after (codes ".r") c.1 >>= number_at >>= λ r.
    below (min cores 64) c.0 >>= λ core. below 16 r.0 >>= λ register. at_end (record { core = core; register = register }) r.1

-- what the code keeps of them
abbrev pub shown_now : Option (ℕ × ℕ × Bor (List ℕ)) → Option (ShownParts × List ℕ)
shown_now None = None
shown_now (Some x) = Some (record { core = x.0; register = x.1 }, x.2.now)

-- ---- the first line

-- what it tells
pub record HeadParts : Type 0 where
  pub format : ProgramFormat
  pub name : List ℕ
  pub cores : ℕ

-- what the code keeps of it
abbrev pub head : Header → HeadParts
head header = record { format = header.format; name = header.name.now; cores = header.cores }

abbrev pub head_text : HeadParts → List ℕ
head_text h = header_text (format_number h.format) h.name h.cores

pub record IsHead (h : HeadParts) : Type 0 where
  pub is_name : IsName h.name
  pub some : 1 ≤ h.cores
  pub few : h.cores ≤ 64

-- how many bytes of a name come first
abbrev pub name_len : List ℕ → ℕ
name_len [] = 0
name_len (b ∷ bs) = if is_name_byte b then suc (name_len bs) else 0

-- a name of 1..32 bytes, and the bytes after it
abbrev pub name_at : List ℕ → Option (List ℕ × List ℕ)
name_at bytes =
    if nat_le 1 (name_len bytes) && nat_le (name_len bytes) 32 then Some (take (name_len bytes) bytes, drop (name_len bytes) bytes) else None

-- the number of cores after a name, 1..64
unfoldable pub cores_at : List ℕ → Option ℕ
cores_at bytes = after (codes " cores ") bytes >>= last_number >>= λ n. if n == 0 then None else below 65 n

-- the format of a number
abbrev pub format_of : ℕ → Option ProgramFormat
format_of n = if n == 1 then Some One else (if n == 2 then Some Two else None)

-- the format before the name, and the bytes after it
unfoldable pub format_at : List ℕ → Option (ProgramFormat × List ℕ)
format_at line = after (codes "tardis-litmus ") line >>= field_at 32 >>= λ number. format_of number.0 >>= λ format. Some (format, number.1)

-- what a first line tells
unfoldable pub head_of : List ℕ → Option HeadParts
head_of line =
    format_at line >>= λ front. name_at front.1 >>= λ name. cores_at name.1 >>= λ cores.
    Some (record { format = front.0; name = name.0; cores = cores })
