-- One memory of words, all 0 at first: what operations find in it, and what they leave.
use Rattle.std.specs.Prelude.{◌≡◌, ℕ, ◌==◌, if◌then◌else◌, Option}
use Rattle.std.specs.Option.{option_map_or}
use Rattle.std.specs.Ordering.{nat_cmp}
use Rattle.std.specs.BTreeMap.{get}
use Rattle.mem_op.specs.Consistency.{Operation, Loaded, Stored, Swapped}
use Rattle.flat_replay.specs.declared.memory.Memory.{Memory}

-- a load reads the word at its address, and so does a swap
abbrev pub IsAnsweredBy : (ℕ → ℕ) → Operation → Type 0
IsAnsweredBy memory (Loaded addr value) = value ≡ memory addr
IsAnsweredBy memory (Stored addr value) = Unit {0}
IsAnsweredBy memory (Swapped addr read stored) = read ≡ memory addr

-- the memory after an operation: a store writes the word at its address, and so does a swap
abbrev pub after : Operation → (ℕ → ℕ) → ℕ → ℕ
after (Loaded a value) memory addr = memory addr
after (Stored a value) memory addr = if a == addr then value else memory addr
after (Swapped a read stored) memory addr = if a == addr then stored else memory addr

-- the word of the last store to an address, and which store it is
abbrev pub last_at : {I : Type 0} → Memory I → ℕ → Option (ℕ × I)
last_at memory addr = get nat_cmp memory.stores addr

-- the word at an address after its last store, or 0 if there is none
abbrev pub word_after : {I : Type 0} → Option (ℕ × I) → ℕ
word_after {I} last = option_map_or (λ (stored : ℕ × I). stored.0) last 0

abbrev pub word_at : {I : Type 0} → Memory I → ℕ → ℕ
word_at memory addr = word_after (last_at memory addr)
