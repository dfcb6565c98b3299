-- Reading from left to right, as functions on the bytes. Private contracts cite these; the public ones
-- speak of the texts alone.
use Rattle.std.specs.Prelude.{ℕ, ◌^◌, ◌==◌, if◌then◌else◌, List, Option, Some, None, is_some, codes}
use Rattle.decimal_text.specs.Reading.{◌>>=◌, after, field_at, last_number}
use Rattle.core_program.specs.declared.instruction.Instruction.{Instruction}
use Rattle.core_program.specs.declared.instruction.Instruction.TheVariants.{Load, Store, StoreRegister, Add, SkipIfZero, Swap}
use Rattle.core_program.specs.declared.format.ProgramFormat.{ProgramFormat}
use Rattle.core_program.specs.declared.format.ProgramFormat.TheVariants.{One, Two}
use Rattle.text_lines.specs.Fields.{below, front_below, field_below, last_below, named}

-- a register with a space after it
unfoldable pub register_at : List ℕ → Option (ℕ × List ℕ)
register_at bytes = after (codes "r") bytes >>= field_below 16

-- a register, or the length of a jump, with nothing after it
unfoldable pub last_register : List ℕ → Option ℕ
last_register bytes = after (codes "r") bytes >>= last_below 16

unfoldable pub last_skip : List ℕ → Option ℕ
last_skip bytes = last_number bytes >>= λ n. if n == 0 then None else below 4096 n

-- the instruction whose fields these are; its name comes before them
unfoldable pub load_of : List ℕ → Option Instruction
load_of bytes = register_at bytes >>= λ to. last_below 65536 to.1 >>= λ addr. Some (Load to.0 addr)

unfoldable pub store_of : List ℕ → Option Instruction
store_of bytes = field_below 65536 bytes >>= λ addr. last_below (2 ^ 64) addr.1 >>= λ value. Some (Store addr.0 value)

unfoldable pub store_register_of : List ℕ → Option Instruction
store_register_of bytes = field_below 65536 bytes >>= λ addr. last_register addr.1 >>= λ from. Some (StoreRegister addr.0 from)

unfoldable pub add_of : List ℕ → Option Instruction
add_of bytes = register_at bytes >>= λ to. register_at to.1 >>= λ from. last_below (2 ^ 64) from.1 >>= λ value. Some (Add to.0 from.0 value)

unfoldable pub skip_of : List ℕ → Option Instruction
skip_of bytes = register_at bytes >>= λ tested. last_skip tested.1 >>= λ skip. Some (SkipIfZero tested.0 skip)

unfoldable pub swap_of : List ℕ → Option Instruction
swap_of bytes = register_at bytes >>= λ to. field_below 65536 to.1 >>= λ addr. last_below (2 ^ 64) addr.1 >>= λ value. Some (Swap to.0 addr.0 value)

-- the swap whose line this is, if the format has swaps
abbrev pub swap_in : ProgramFormat → List ℕ → Option Instruction
swap_in One line = None
swap_in Two line = named (codes "sw ") swap_of line None

-- the instruction of this format whose line this is
unfoldable pub instruction_of : ProgramFormat → List ℕ → Option Instruction
instruction_of format line =
    named (codes "ld ") load_of line
    (named (codes "st ") store_of line
    (named (codes "sr ") store_register_of line
    (named (codes "ai ") add_of line
    (named (codes "jz ") skip_of line (swap_in format line)))))

-- the format that a header's first words name, and the bytes after them
unfoldable pub first_words : List ℕ → Option (ProgramFormat × List ℕ)
first_words text =
    if is_some (after (codes "tardis-programs 1 cores ") text) then (after (codes "tardis-programs 1 cores ") text >>= λ rest. Some (One, rest))
    else (after (codes "tardis-programs 2 cores ") text >>= λ rest. Some (Two, rest))

-- the number of cores that comes after them and ends the line, 1..64, and the bytes after that line
unfoldable pub cores_at : List ℕ → Option (ℕ × List ℕ)
cores_at bytes = field_at 10 bytes >>= λ n. if n.0 == 0 then None else front_below 65 n

-- the format and the number of cores of a header, and the bytes after its line
unfoldable pub header_at : List ℕ → Option (ProgramFormat × ℕ × List ℕ)
header_at text = first_words text >>= λ front. cores_at front.1 >>= λ n. Some (front.0, n.0, n.1)

-- the bytes after the line with which a core's section begins
unfoldable pub behind_core : ℕ → List ℕ → Option (List ℕ)
behind_core core text = after (codes "core ") text >>= field_at 10 >>= λ n. below (2 ^ 64) n.0 >>= λ number. if number == core then Some n.1 else None
