-- The operations of a set with sources in place of their words. Each store gets a number of its own, and stores that. A load or a swap reads the number of
-- the store that it names, or 0 if it names `init`; if its word can't come from there, it reads a number that no store has.
use Rattle.std.specs.Prelude.{◌==◌, ◌&&◌, ◌≤◌, All, ℕ, suc, Bool, false, List, [], ◌∷◌, if◌then◌else◌, length, map}
use Rattle.std.specs.Option.{option_map_or}
use Rattle.log_record.specs.Entries.{core_entries, operations_of}
use Rattle.log_record.specs.SourceNumbers.{source_number, store_number}
use Rattle.log_record.specs.declared.act.Act.{Act}
use Rattle.log_record.specs.declared.act.Act.TheVariants.{Load, Store, Swap}
use Rattle.log_record.specs.declared.record.Entry.{Entry}
use Rattle.log_record.specs.declared.record.Record.{Record}
use Rattle.mem_op.specs.Consistency.{Operation, Loaded, Stored, Swapped, IsSequentialOrder, is_store_to, operation_at, word_left}
use Rattle.mem_op.specs.Limits.{operation_limit}
use Rattle.mem_op.specs.declared.id.OpId.{OpId}
use Rattle.mem_op.specs.declared.id.Source.{Source}
use Rattle.mem_op.specs.declared.id.Source.TheVariants.{Init, Store as From}

-- a number that no store has
abbrev pub no_number : ℕ
no_number = 18446744073709551615

-- whether an operation stores this word to this address
abbrev pub stores : ℕ → ℕ → Operation → Bool
stores addr word operation = is_store_to addr operation && (word_left operation == word)

-- whether a read of this word at this address may have it from this source: the initial 0, or an operation of the set that stored it there
abbrev pub may_give : List (List Operation) → Source → ℕ → ℕ → Bool
may_give cores Init addr word = word == 0
may_give cores (From id) addr word = option_map_or (stores addr word) (operation_at cores id) false

-- the number that a read of this word gets: that of its source if the word may come from there, and else one that no store has
abbrev pub number_read : List (List Operation) → Source → ℕ → ℕ → ℕ
number_read cores source addr word = if may_give cores source addr word then source_number source else no_number

-- the operation of a record with numbers in place of its words
abbrev pub numbered_by : List (List Operation) → OpId → ℕ → ℕ → Act → Operation
numbered_by cores id addr value (Load source) = Loaded addr (number_read cores source addr value)
numbered_by cores id addr value Store = Stored addr (store_number id)
numbered_by cores id addr value (Swap source read) = Swapped addr (number_read cores source addr read) (store_number id)

abbrev pub numbered : List (List Operation) → Entry → Operation
numbered cores e = numbered_by cores e.id e.logged.addr e.logged.value e.logged.act

-- the operations of the logs from this core's on, with numbers in place of their words
abbrev pub numbered_from : List (List Operation) → ℕ → List (List Record) → List (List Operation)
numbered_from cores core [] = []
numbered_from cores core (log ∷ more) = map (numbered cores) (core_entries core 0 log) ∷ numbered_from cores (suc core) more

-- the operations of a set with the sources in place of the words
abbrev pub sourced_operations : List (List Record) → List (List Operation)
sourced_operations logs = numbered_from (operations_of logs) 0 logs

-- an order that explains the sources of a set explains its words
abbrev pub OrdersExplainWords : Type 0
OrdersExplainWords =
    (logs : List (List Record)) (order : List OpId) → length logs ≤ 64 → All (λ log. length log ≤ operation_limit) logs
    → IsSequentialOrder (sourced_operations logs) order → IsSequentialOrder (operations_of logs) order
