-- How what a search found is told in numbers, and in a buffer of bytes.
use Rattle.std.specs.Prelude.{◌≡◌, ℕ, nat_le, if◌then◌else◌, List, [], ◌++◌, length, drop, Result, Ok, Err, All, string_bytes}
use Rattle.mem_op.specs.Consistency.{Operation, IsSequentialOrder}
use Rattle.mem_op.specs.declared.id.OpId.{OpId}
use Rattle.merge_judge.specs.OrderText.{order_text}
use Rattle.refutation.specs.Grammar.{refutation_text}
use Rattle.refutation.specs.Refuting.{IsRefutation}
use Rattle.refutation.specs.declared.step.Step.{Step}
use Rattle.tardis_c.specs.Accesses.{IsAccess, trace_of}
use Rattle.tardis_c.specs.Faults.{AreOperations, IsFirstFault}
use Rattle.tardis_c.specs.declared.finding.Finding.{Finding}
use Rattle.tardis_c.specs.declared.finding.Finding.TheVariants.{Order, Refutation, Undecided}
use Rattle.tardis_c.specs.declared.operations_fault.OperationsFault.{OperationsFault}
use Rattle.tardis_c.specs.declared.operations_fault.OperationsFault.TheVariants.{OutOfMemory, OutOfRange, TooMany}
use Rattle.tardis_c.specs.declared.tardis_access.TardisAccess.{TardisAccess}
use Rattle.tardis_c.specs.declared.tardis_finding.TardisFinding.{TardisFinding}

-- the text that was found is that of an order by which the operations are consistent, or of a refutation of them
abbrev pub Shows : List (List Operation) → Finding → Type 0
Shows cores (Order text) = (order : List OpId) × IsSequentialOrder cores order × (string_bytes text ≡ order_text order)
Shows cores (Refutation text) = (steps : List Step) × IsRefutation cores steps × (string_bytes text ≡ refutation_text steps)
Shows cores Undecided = Unit {0}

-- what was found of the operations, or why cores can't have performed them
abbrev pub IsFindingOf : List (List TardisAccess) → Result Finding OperationsFault → Type 0
IsFindingOf parts (Ok finding) = All (AreOperations IsAccess) parts × Shows (trace_of parts) finding
IsFindingOf parts (Err fault) = IsFirstFault IsAccess parts fault

abbrev pub finding_status : Result Finding OperationsFault → ℕ
finding_status (Ok (Order text)) = 0
finding_status (Ok (Refutation text)) = 1
finding_status (Ok Undecided) = 4
finding_status (Err OutOfMemory) = 4
finding_status (Err (TooMany core)) = 2
finding_status (Err (OutOfRange core index)) = 2

abbrev pub nothing_found : TardisFinding
nothing_found = record { length = 0; core = 0; index = 0; number = 0 }

-- if the ends are refused, which is status 5, nothing is told; if the number of cores is, which is status 3, only number 6 is
abbrev pub IsFoundOfEnds : ℕ → TardisFinding → Type 0
IsFoundOfEnds status told = (status ≡ 5 → told ≡ nothing_found) × (status ≡ 3 → told ≡ record nothing_found { number = 6 })

abbrev pub finding_told : Result Finding OperationsFault → TardisFinding
finding_told (Ok (Order text)) = record nothing_found { length = length (string_bytes text) }
finding_told (Ok (Refutation text)) = record nothing_found { length = length (string_bytes text) }
finding_told (Ok Undecided) = record nothing_found { number = 44 }
finding_told (Err OutOfMemory) = record nothing_found { number = 10 }
finding_told (Err (TooMany core)) = record nothing_found { core = core; index = 1048576; number = 23 }
finding_told (Err (OutOfRange core index)) = record nothing_found { core = core; index = index; number = 22 }

-- the text that the buffer should have
abbrev pub text_of : Result Finding OperationsFault → List ℕ
text_of (Ok (Order text)) = string_bytes text
text_of (Ok (Refutation text)) = string_bytes text
text_of (Ok Undecided) = []
text_of (Err fault) = []

-- the buffer with a text at its front if it has room for it, and else as it is
abbrev pub with_text : List ℕ → List ℕ → List ℕ
with_text text buffer = if nat_le (length text) (length buffer) then text ++ drop (length text) buffer else buffer

-- the status and the numbers tell what was found of these operations, and the buffer has its text if it has room for it
pub record AreFoundOf (parts : List (List TardisAccess)) (old new : List ℕ) (status : ℕ) (told : TardisFinding) : Type 0 where
  pub finding : Result Finding OperationsFault
  pub of_operations : IsFindingOf parts finding
  pub status_is : status ≡ finding_status finding
  pub told_is : told ≡ finding_told finding
  pub buffer_is : new ≡ with_text (text_of finding) old
