-- How a set of logs is kept: the entries of all in one list, and where those of each log end.
use Rattle.std.specs.Prelude.{◌≡◌, ℕ, zero, suc, ◌+◌, ◌-◌, ◌≤◌, All, List, [], ◌∷◌, drop, length, map, take}
use Rattle.mem_op.specs.Limits.{operation_limit}
use Rattle.log_record.specs.declared.record.Record.{Record}
use Rattle.log_record.specs.declared.record.Entry.{Entry}
use Rattle.log_record.specs.Entries.{entries}
use Rattle.log_file.specs.declared.log_set.LogSet.TheInside.{Inside}

-- the logs whose entries these are: those of the first begin at `at`, and those of each end at its place
abbrev pub logs_to : ℕ → List ℕ → List Entry → List (List Record)
logs_to at [] es = []
logs_to at (end ∷ ends) es = map (λ (e : Entry). e.logged) (take (end - at) es) ∷ logs_to end ends (drop (end - at) es)

abbrev pub logs_in : Inside → List (List Record)
logs_in set = logs_to 0 set.ends.items set.entries.items

-- where the entries of each log end, if those of the first begin at `at`
abbrev pub ends_from : ℕ → List (List Record) → List ℕ
ends_from at [] = []
ends_from at (log ∷ logs) = (at + length log) ∷ ends_from (at + length log) logs

-- where the entries of log k begin: this is how many records the logs before it have
abbrev pub start_in : List (List Record) → ℕ → ℕ
start_in logs zero = 0
start_in [] (suc k) = 0
start_in (log ∷ logs) (suc k) = length log + start_in logs k

-- the entries and the ends are those of these logs
pub record KeepsLogs (list : List Entry) (ends : List ℕ) (logs : List (List Record)) : Type 0 where
  pub all : list ≡ entries logs
  pub places : ends ≡ ends_from 0 logs

-- as many logs as a set may have, and none too long
pub record IsLogSet (logs : List (List Record)) : Type 0 where
  pub few : length logs ≤ 64
  pub short : All (λ log. length log ≤ operation_limit) logs

abbrev pub keeps_set : Inside → Type 0
keeps_set set = KeepsLogs set.entries.items set.ends.items (logs_in set) × IsLogSet (logs_in set)
