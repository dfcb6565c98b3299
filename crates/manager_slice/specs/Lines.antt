-- The order of service among a slice's lines, the most recently served first.
use Rattle.std.specs.Prelude.{ℕ, Bool, true, false, List, Option, Some, None, find, reverse}
use Rattle.std.specs.Option.{option_or}
use Rattle.lru.specs.LruCache.{last_entry}
use Rattle.manager_slice.specs.declared.managed.ManagedLine.{ManagedLine}
use Rattle.manager_slice.specs.declared.managed.ManagedLine.TheVariants.{Shared, Exclusive}

abbrev pub is_shared : ManagedLine → Bool
is_shared (Shared l) = true
is_shared (Exclusive owner) = false

-- a Shared line is there
abbrev pub is_some_shared : Option ManagedLine → Bool
is_some_shared None = false
is_some_shared (Some x) = is_shared x

-- the least recently served line that is Shared
abbrev pub last_shared : List (ℕ × ManagedLine) → Option (ℕ × ManagedLine)
last_shared lines = find (λ e. is_shared e.1) (reverse lines)

-- the line that gives way to another one: the last that is Shared, or else the last
abbrev pub giving_way : List (ℕ × ManagedLine) → Option (ℕ × ManagedLine)
giving_way lines = option_or (last_shared lines) (last_entry lines)
