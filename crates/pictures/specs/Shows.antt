-- What a picture shows of an explanation.
use Rattle.std.specs.Prelude.{◌≡◌, ℕ, List, [], ◌∷◌, ◌++◌, Option, None, Some, if◌then◌else◌, is_some, IfSome, IsPermutation, IsSorted}
use Rattle.std.specs.Option.{option_map}
use Rattle.mem_op.specs.declared.id.OpId.{OpId}
use Rattle.log_record.specs.declared.record.Entry.{Entry}
use Rattle.log_record.specs.Entries.{entry_cmp}
use Rattle.verdict.specs.declared.rule.Rule.{Rule}
use Rattle.verdict.specs.declared.rule.Rule.TheVariants.{Value as OfValue}
use Rattle.explain.specs.WrongReads.{of_id}
use Rattle.explain.specs.declared.explanation.Explanation.{Explanation}
use Rattle.explain.specs.declared.explanation.Explanation.TheVariants.{Load, CoreOrder, Program, Summed}
use Rattle.explain.specs.declared.explanation.WrongRead.{WrongRead}
use Rattle.pictures.specs.declared.shown.Shown.{Shown}
use Rattle.pictures.specs.declared.shown.Wanted.{Wanted}
use Rattle.pictures.specs.declared.shown.Wanted.TheVariants.{Right, Before}

-- the operation that breaks a rule
abbrev pub faulty_of : Explanation → Option OpId
faulty_of (Load found) = Some found.load.id
faulty_of (CoreOrder fall) = Some fall.fault.id
faulty_of (Program departure) = option_map (λ e. e.id) departure.found
faulty_of (Summed summary) = None

-- the operation that is shown beside it
abbrev pub wanted_of : Explanation → Option Wanted
wanted_of (Load found) = option_map (λ e. Right e.id) found.right
wanted_of (CoreOrder fall) = Some (Before fall.before.id)
wanted_of (Program departure) = None
wanted_of (Summed summary) = None

-- the core whose program has something due, which may be its end
abbrev pub due_of : Explanation → Option ℕ
due_of (Load found) = None
due_of (CoreOrder fall) = None
due_of (Program departure) = Some departure.id.core
due_of (Summed summary) = None

-- the store that an arrow ties to the load: with VALUE the last one before it of the word that it read, and else the first one over what
-- it read
abbrev pub pointed_by : Rule → WrongRead → Option Entry
pointed_by OfValue found = found.same_word
pointed_by rule found = found.culprit

-- the operations with one more, if there is one and none of them has its id
abbrev pub with_one : Option Entry → List Entry → List Entry
with_one None es = es
with_one (Some e) es = if is_some (of_id es e.id) then es else es ++ (e ∷ [])

-- these are those operations in the order of their keys
abbrev pub AreByKey : List Entry → List Entry → Type 0
AreByKey es rows = IsPermutation es rows × IsSorted entry_cmp rows

-- The operations that are shown: those that the explanation tells around the fault, with the store that a load should read, the record that it names
-- and the store that it is tied to; or all, if a Yes tells all.
abbrev pub HasRows : Explanation → List Entry → Type 0
HasRows (Load found) rows =
    AreByKey (with_one (pointed_by found.rule found) (with_one found.named (with_one found.right found.rows.items))) rows
HasRows (CoreOrder fall) rows = AreByKey fall.rows.items rows
HasRows (Program departure) rows = AreByKey departure.rows.items rows
HasRows (Summed summary) rows = IfSome summary.rows (λ all. rows ≡ all.items)

-- what is shown of an explanation
pub record IsShownOf (explanation : Explanation) (shown : Shown) : Type 0 where
  pub rows : HasRows explanation shown.rows.items
  pub faulty : shown.faulty ≡ faulty_of explanation
  pub wanted : shown.wanted ≡ wanted_of explanation
  pub due : shown.due ≡ due_of explanation
