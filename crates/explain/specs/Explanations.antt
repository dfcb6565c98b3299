-- Why a set got its verdict.
use Rattle.std.specs.Prelude.{◌≡◌, ◌≤◌, ◌↔◌, ℕ, List, Option, Some, length, slice_get, IfSome, IsSome, IsPermutation, IsSorted}
use Rattle.log_record.specs.declared.record.Entry.{Entry}
use Rattle.log_record.specs.declared.record.Record.{Record}
use Rattle.log_record.specs.Entries.{entry_cmp}
use Rattle.core_program.specs.declared.instruction.Instruction.{Instruction}
use Rattle.verdict.specs.declared.rule.Rule.TheVariants.{CoreOrder as OfCoreOrder, Program as OfProgram}
use Rattle.verdict.specs.declared.answer.Verdict.{Verdict}
use Rattle.verdict.specs.declared.answer.Verdict.TheVariants.{Yes, No}
use Rattle.verdict.specs.declared.basis.Basis.{Basis}
use Rattle.verdict.specs.declared.basis.Basis.TheVariants.{Logs, Index}
use Rattle.explain.specs.LogFaults.{IsDepartureBy, IsFall}
use Rattle.explain.specs.Pictures.{most_drawn}
use Rattle.explain.specs.WrongReads.{IsWrongRead}
use Rattle.explain.specs.declared.explanation.Explanation.{Explanation}
use Rattle.explain.specs.declared.explanation.Explanation.TheVariants.{Load, CoreOrder, Program, Summed}
use Rattle.explain.specs.declared.explanation.Summary.{Summary}

-- the records of a set that gets Yes, if they are few enough to be drawn: each of them once, in the order of keys
pub record IsSummary (es : List Entry) (summary : Summary) : Type 0 where
  pub rows : IfSome summary.rows (λ rows. IsPermutation es rows.items)
  pub ordered : IfSome summary.rows (λ rows. IsSorted entry_cmp rows.items)
  pub told : IsSome summary.rows ↔ (length es ≤ most_drawn)

-- something holds of the log of a core
abbrev pub LogHas : List (List Record) → ℕ → (List Record → Type 0) → Type 0
LogHas logs core Holds = (log : List Record) × (slice_get logs core ≡ Some log) × Holds log

-- The explanation fits this verdict. A No that stands on the index is explained by what was read at an address, a No that stands on the logs by the
-- log of a core, and a Yes by all records.
abbrev pub Explains : Option (List (List Instruction)) → Verdict → Basis → Explanation → Type 0
Explains programs (No fault) (Index es) (Load found) = IsWrongRead es fault.id fault.rule found
Explains programs (No fault) (Logs logs) (CoreOrder fall) = (fault.rule ≡ OfCoreOrder) × LogHas logs fault.id.core (λ log. IsFall log fault.id fall)
Explains programs (No fault) (Logs logs) (Program departure) = (fault.rule ≡ OfProgram) × LogHas logs fault.id.core (λ log. IsDepartureBy programs log fault.id departure)
Explains programs (Yes count) (Index es) (Summed summary) = IsSummary es summary
Explains programs verdict basis explanation = ⊥
