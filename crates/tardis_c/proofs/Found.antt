-- What was found of operations without times, and how it is told.
use Rattle.std.proofs.Common.{◌≡◌, ℕ, zero, suc, ◌≤◌, List, [], ◌∷◌, length, map, Ok, Err, refl, arith}
use Rattle.std.specs.Prelude.{◌↔◌, All, Bool, Result, false, if◌then◌else◌, nat_le, true}
use Rattle.std.proofs.lemmas.List.{length-map}
use Rattle.std.proofs.lemmas.List.Elements.{All-head, All-tail}
use Rattle.flat_replay.specs.Accesses.{own_operations}
use Rattle.mem_op.specs.Consistency.{IsConsistent}
use Rattle.mem_op.specs.Limits.{operation_limit}
use Rattle.refutation.proofs.Sound.{refutations_hold}
use Rattle.trace.specs.Growing.{IsOfSize}
use Rattle.tardis_c.specs.Accesses.{IsAccess, operation_of, trace_of}
use Rattle.tardis_c.specs.Faults.{AreOperations, IsFirstFault}
use Rattle.tardis_c.specs.Found.{IsFindingOf, IsFoundOfEnds, finding_status, finding_told, text_of, with_text}
use Rattle.tardis_c.specs.declared.finding.Finding.{Finding}
use Rattle.tardis_c.specs.declared.finding.Finding.TheVariants.{Order, Refutation, Undecided}
use Rattle.tardis_c.specs.declared.operations_fault.OperationsFault.{OperationsFault}
use Rattle.tardis_c.specs.declared.operations_fault.OperationsFault.TheVariants.{OutOfMemory, OutOfRange, TooMany}
use Rattle.tardis_c.specs.declared.tardis_access.TardisAccess.{TardisAccess}
use Rattle.tardis_c.proofs.Parts.{first_fault_bad}

-- where the status is 0, they are consistent
pub yes_is_consistent_of : (parts : List (List TardisAccess)) (found : Result Finding OperationsFault) → IsFindingOf parts found → finding_status found ≡ 0 → IsConsistent (trace_of parts)
yes_is_consistent_of parts (Ok (Order text)) (all, (order, is, text_is)) none = (order, is)
yes_is_consistent_of parts (Ok (Refutation text)) is none = absurd cc
yes_is_consistent_of parts (Ok Undecided) is none = absurd cc
yes_is_consistent_of parts (Err OutOfMemory) is none = absurd cc
yes_is_consistent_of parts (Err (TooMany core)) is none = absurd cc
yes_is_consistent_of parts (Err (OutOfRange core index)) is none = absurd cc

-- where it is 1, they aren't
pub no_is_none : (parts : List (List TardisAccess)) (found : Result Finding OperationsFault) → IsFindingOf parts found → finding_status found ≡ 1 → IsConsistent (trace_of parts) → ⊥
no_is_none parts (Ok (Order text)) is one = absurd cc
no_is_none parts (Ok (Refutation text)) (all, (steps, is, text_is)) one = refutations_hold (trace_of parts) steps is
no_is_none parts (Ok Undecided) is one = absurd cc
no_is_none parts (Err OutOfMemory) is one = absurd cc
no_is_none parts (Err (TooMany core)) is one = absurd cc
no_is_none parts (Err (OutOfRange core index)) is one = absurd cc

-- what was found is a refusal of neither the ends nor their number
pub found_of_ends : (found : Result Finding OperationsFault) → IsFoundOfEnds (finding_status found) (finding_told found)
found_of_ends (Ok (Order text)) = (λ five. absurd cc, λ three. absurd cc)
found_of_ends (Ok (Refutation text)) = (λ five. absurd cc, λ three. absurd cc)
found_of_ends (Ok Undecided) = (λ five. absurd cc, λ three. absurd cc)
found_of_ends (Err OutOfMemory) = (λ five. absurd cc, λ three. absurd cc)
found_of_ends (Err (TooMany core)) = (λ five. absurd cc, λ three. absurd cc)
found_of_ends (Err (OutOfRange core index)) = (λ five. absurd cc, λ three. absurd cc)

either : (b : Bool) (buffer : List ℕ) → (if b then buffer else buffer) ≡ buffer
either true buffer = refl
either false buffer = refl

-- after any other status there is no text, so the buffer is as it was
pub kept_without_text : (found : Result Finding OperationsFault) (buffer : List ℕ) → 2 ≤ finding_status found → with_text (text_of found) buffer ≡ buffer
kept_without_text (Ok (Order text)) buffer more = absurd (omega (arith, more))
kept_without_text (Ok (Refutation text)) buffer more = absurd (omega (arith, more))
kept_without_text (Ok Undecided) buffer more = either (nat_le 0 (length buffer)) buffer
kept_without_text (Err fault) buffer more = either (nat_le 0 (length buffer)) buffer

-- ---- whether they are operations

-- with a fault that isn't want of memory the status is 2, and some of them are none
pub refused : (parts : List (List TardisAccess)) (fault : OperationsFault) → IsFirstFault IsAccess parts fault → (fault ≡ OutOfMemory → ⊥)
    → (finding_status (Err fault) ≡ 2 ↔ (¬ All (AreOperations IsAccess) parts))
refused parts fault first other = (λ two all. first_fault_bad IsAccess parts fault first other all, λ bad. status_two fault other)
  where
    status_two : (fault : OperationsFault) → (fault ≡ OutOfMemory → ⊥) → finding_status (Err fault) ≡ 2
    status_two OutOfMemory other = absurd (other refl)
    status_two (TooMany core) other = refl
    status_two (OutOfRange core index) other = refl

-- where all are some, it isn't
pub taken : (parts : List (List TardisAccess)) (finding : Finding) → All (AreOperations IsAccess) parts → (finding_status (Ok finding) ≡ 2 ↔ (¬ All (AreOperations IsAccess) parts))
taken parts finding all = (λ two. absurd (not_two finding two), λ bad. absurd (bad all))
  where
    not_two : (finding : Finding) → finding_status (Ok finding) ≡ 2 → ⊥
    not_two (Order text) two = absurd cc
    not_two (Refutation text) two = absurd cc
    not_two Undecided two = absurd cc

pub memory_refused : (parts : List (List TardisAccess)) → All (AreOperations IsAccess) parts → (finding_status (Err OutOfMemory) ≡ 2 ↔ (¬ All (AreOperations IsAccess) parts))
memory_refused parts all = (λ two. absurd cc, λ bad. absurd (bad all))

-- ---- the trace

short : (parts : List (List TardisAccess)) (core : ℕ) → All (AreOperations IsAccess) parts → length (own_operations (trace_of parts) core) ≤ operation_limit
short [] zero all = omega arith
short [] (suc core) all = omega arith
short (part ∷ parts) zero all = (let few = All-head (AreOperations IsAccess) part parts all in omega (arith, length-map part operation_of, few.0))
short (part ∷ parts) (suc core) all = short parts core (All-tail (AreOperations IsAccess) part parts all)

-- operations of so many cores, of at most 2^20 each, are those of a trace
pub size_of : (parts : List (List TardisAccess)) → length parts ≤ 64 → All (AreOperations IsAccess) parts → IsOfSize (trace_of parts)
size_of parts few all = record { few = omega (arith, length-map parts (map operation_of), few); short = λ core. short parts core all }
