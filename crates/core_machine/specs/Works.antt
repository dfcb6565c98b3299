-- How far each core of the machine has come.
use Rattle.std.specs.Prelude.{ℕ, zero, suc, ◌-◌, Bool, false, List, [], ◌∷◌, ◌++◌, length, is_some, slice_get}
use Rattle.std.specs.Option.{option_map_or}
use Rattle.log_record.specs.declared.record.Record.{Record}
use Rattle.core_unit.specs.Core.{next_of}
use Rattle.core_machine.specs.Machine.{World}

-- whether core c has an operation left; it has none if its program has ended or the core isn't there
abbrev pub has_next : World → ℕ → Bool
has_next w c = option_map_or (λ u. is_some (next_of u)) (slice_get w.cores c) false

-- the records of the operations that core c has performed; none if it isn't there
abbrev pub log_at : World → ℕ → List Record
log_at w c = option_map_or (λ u. u.log) (slice_get w.cores c) []

-- the logs of this many cores, core 0's first
abbrev pub logs_below : World → ℕ → List (List Record)
logs_below w zero = []
logs_below w (suc core) = logs_below w core ++ log_at w core ∷ []

-- how many instructions of core c are left
abbrev pub left_at : World → ℕ → ℕ
left_at w c = option_map_or (λ u. length u.program - u.state.position) (slice_get w.cores c) 0
