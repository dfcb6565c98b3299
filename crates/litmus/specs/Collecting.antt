-- Tables of a test's runs.
use Rattle.std.specs.Prelude.{◌≡◌, ◌⊎◌, ℕ, ◌+◌, ◌<◌, ◌≤◌, List, [], ◌∷◌, Option, Some, length, map, slice_get}
use Rattle.std.specs.Cmp.Lexicographic.{slice_cmp}
use Rattle.std.specs.List.{AllByRecursion, filter}
use Rattle.std.specs.Ordering.{nat_cmp}
use Rattle.std.specs.declared.cmp.Ordering.TheVariants.{Less}
use Rattle.lease_rule.specs.ConfigParts.{ConfigParts}
use Rattle.core_machine.specs.Machine.{World}
use Rattle.core_machine.specs.Parts.{CoreParts, world}
use Rattle.litmus.specs.Outcomes.{is_forbidden, is_outcome}
use Rattle.litmus.specs.Parts.{LitmusParts}
use Rattle.litmus.specs.Ends.{ThreadEnd, GetsYes, SaysNo, left, outcome_of}
use Rattle.litmus.specs.Runs.{IsRunCause, IsSeededRun, IsThreadCause, IsThreadRun, seed_of, seeded_numbers, stress_of, thread_numbers}
use Rattle.litmus.specs.declared.collecting.Collected.{Collected}
use Rattle.litmus.specs.TableParts.{RowParts}
use Rattle.statistics.specs.Numbers.{totals_of}
use Rattle.statistics.specs.declared.numbers.Numbers.{Numbers}
use Rattle.litmus.specs.declared.run_cause.RunCause.{RunCause}
use Rattle.litmus.specs.declared.run_fault.CollectFault.{CollectFault}
use Rattle.litmus.specs.declared.run_fault.CollectFault.TheVariants.{BadRuns, Run, OutOfMemory}

-- ---- outcomes and rows

-- how many of these are this outcome
abbrev pub count_of : List ℕ → List (List ℕ) → ℕ
count_of values outcomes = length (filter (is_outcome values) outcomes)

-- the row tells how many of these outcomes are its own, at least one, and whether the test forbids it
pub record IsRowOf (t : LitmusParts) (outcomes : List (List ℕ)) (row : RowParts) : Type 0 where
  pub some : 1 ≤ row.count
  pub count : row.count ≡ count_of row.values outcomes
  pub forbidden : row.forbidden ≡ is_forbidden t row.values

-- each row's values are greater than those of the row before it: they are distinct and ascend
abbrev pub AreAscending : List RowParts → Type 0
AreAscending [] = Unit {0}
AreAscending (row ∷ []) = Unit {0}
AreAscending (row ∷ next ∷ rows) = (slice_cmp nat_cmp row.values next.values ≡ Less) × AreAscending (next ∷ rows)

abbrev pub total : List RowParts → ℕ
total [] = 0
total (row ∷ rows) = row.count + total rows

-- the rows of these outcomes
pub record AreRowsOf (t : LitmusParts) (outcomes : List (List ℕ)) (rows : List RowParts) : Type 0 where
  pub each : AllByRecursion (IsRowOf t outcomes) rows
  pub ascending : AreAscending rows
  pub all : total rows ≡ length outcomes

-- ---- tables of runs: `Ran` says of a run, by its number, where it ended

-- a table may be made of this number of runs
abbrev pub IsRunCount : ℕ → Type 0
IsRunCount runs = (1 ≤ runs) × (runs ≤ 100000)

abbrev pub IsBadRunCount : ℕ → Type 0
IsBadRunCount runs = (runs < 1) ⊎ (100000 < runs)

-- the ends of runs 0, 1, .., each with logs that get Yes
abbrev pub AreEndsOf : (E : Type 0) → (ℕ → E → Type 0) → (E → World) → LitmusParts → List E → Type 0
AreEndsOf E Ran at t ends = (k : ℕ) (end : E) → slice_get ends k ≡ Some end → Ran k end × GetsYes t (at end)

-- there are runs, one for each number below `runs`, whose outcomes the rows tell, and whose numbers the totals add up
pub record IsTableOf (E : Type 0) (Ran : ℕ → E → Type 0) (at : E → World) (numbers : E → Numbers) (t : LitmusParts) (runs : ℕ) (collected : Collected) : Type 0 where
  pub in_range : IsRunCount runs
  pub ends : List E
  pub count : length ends ≡ runs
  pub each : AreEndsOf E Ran at t ends
  pub shown : collected.table.shown ≡ t.shown
  pub rows : AreRowsOf t (map (λ end. outcome_of t (at end)) ends) collected.table.rows
  pub totals : collected.totals ≡ totals_of (map numbers ends)

-- run k is the first that has no outcome that counts
pub record IsFirstWithout (E : Type 0) (Ran : ℕ → E → Type 0) (at : E → World) (t : LitmusParts) (runs k : ℕ) (Why : Type 0) : Type 0 where
  pub below : k < runs
  pub ends : List E
  pub count : length ends ≡ k
  pub before : AreEndsOf E Ran at t ends
  pub cause : Why

-- why there is no table; `Why` says of a run, by its number, why it has no outcome that counts
abbrev pub IsFaultOf : (E : Type 0) → (ℕ → E → Type 0) → (ℕ → RunCause → Type 0) → (E → World) → LitmusParts → ℕ → CollectFault → Type 0
IsFaultOf E Ran Why at t runs BadRuns = IsBadRunCount runs
IsFaultOf E Ran Why at t runs (Run k cause) = IsFirstWithout E Ran at t runs k (Why k cause)
IsFaultOf E Ran Why at t runs OutOfMemory = Unit {0}

-- the fault tells of a run whose logs get No
abbrev pub TellsNo : CollectFault → Type 0
TellsNo BadRuns = ⊥
TellsNo (Run k cause) = SaysNo cause
TellsNo OutOfMemory = ⊥

-- ---- tables of seeded runs, each by its own seed

abbrev pub IsSeededTable : LitmusParts → ConfigParts → ℕ → ℕ → Option ℕ → Collected → Type 0
IsSeededTable t g runs seed stress collected =
    IsTableOf CoreParts (λ k. IsSeededRun t g (seed_of seed k) (stress_of stress k)) world (seeded_numbers t g) t runs collected

abbrev pub IsCollectFault : LitmusParts → ConfigParts → ℕ → ℕ → Option ℕ → CollectFault → Type 0
IsCollectFault t g runs seed stress fault =
    IsFaultOf CoreParts (λ k. IsSeededRun t g (seed_of seed k) (stress_of stress k)) (λ k. IsRunCause t g (seed_of seed k) (stress_of stress k)) world t runs fault

-- ---- tables of runs by threads

abbrev pub IsThreadTable : LitmusParts → ConfigParts → ℕ → Collected → Type 0
IsThreadTable t g runs collected = IsTableOf ThreadEnd (λ k. IsThreadRun t g) left (thread_numbers t g) t runs collected

abbrev pub IsThreadFault : LitmusParts → ConfigParts → ℕ → CollectFault → Type 0
IsThreadFault t g runs fault = IsFaultOf ThreadEnd (λ k. IsThreadRun t g) (λ k. IsThreadCause t g) left t runs fault
