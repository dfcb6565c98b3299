-- What the sources tell, and what a Yes says.
use Rattle.std.proofs.Common.{◌≡◌, ℕ, List, [], ◌∷◌, Some, map, refl, sym}
use Rattle.std.specs.List.{AllZip}
use Rattle.std.specs.Prelude.{◌↔◌, Result, Ok, Err, IsErrOf}
use Rattle.log_file.specs.Devices.{Tells}
use Rattle.verdict.specs.Judgement.{IsAnswerTo, SpellConsistentSet}
use Rattle.verdict.specs.declared.answer.Verdict.{Verdict}
use Rattle.verdict.specs.declared.answer.Verdict.TheVariants.{Yes, No}
use Rattle.verdict.specs.declared.judge_fault.JudgeFault.{JudgeFault}
use Rattle.verdict.specs.declared.judge_fault.JudgeFault.TheVariants.{BadConfig, Log, OutOfMemory, Read}
use Rattle.verdict.specs.Counts.{IsBadCount, IsOutOfRange}
use Rattle.verdict.specs.declared.judge_fault.Count.TheVariants.{Files, Workers, Programs}
use Rattle.verdict.proofs.Bridge.{yes_is_consistent}
use Rattle.mem_op.specs.Consistency.{IsConsistent}
use Rattle.log_file.specs.InMemory.{rest_of}
use Rattle.log_file.specs.declared.slice_source.SliceSource.{SliceSource}
use Rattle.log_record.specs.Entries.{operations_of}
use Rattle.tardis_c.specs.declared.operations_fault.OperationsFault.{OperationsFault}
use Rattle.tardis_c.specs.declared.operations_fault.OperationsFault.TheVariants as bad
use Rattle.tardis_c.specs.declared.tardis_operation.TardisOperation.{TardisOperation}
use Rattle.tardis_c.specs.Operations.{logs_of}
use Rattle.tardis_c.specs.Told.{IsAnswerOf, IsToldOfEnds, operations_status, operations_told, status_of, told_of}

-- the texts that sources over slices tell are these slices
pub told : (sources : List SliceSource) (texts parts : List (List ℕ)) → AllZip (λ source text. Tells (Some source.bytes.now) text) sources texts → map rest_of sources ≡ parts → texts ≡ parts
told [] [] parts zip is = is
told [] (t ∷ texts) parts zip is = absurd zip
told (s ∷ sources) [] parts zip is = absurd zip
told (s ∷ sources) (t ∷ texts) [] zip is = absurd cc
told (s ∷ sources) (t ∷ texts) (p ∷ parts) zip is =
    let first : s.bytes.now ≡ t = zip.0 in
    let head : s.bytes.now ≡ p = cc in
    let rest : texts ≡ parts = told sources texts parts zip.1 cc in
    cc

-- where the status is 0, the texts spell a consistent set
pub yes_spells : (texts : List (List ℕ)) (answer : Result Verdict JudgeFault) → IsAnswerTo texts answer → status_of answer ≡ 0 → SpellConsistentSet texts
yes_spells texts (Ok (Yes count)) (logs, spell, is) zero = (logs, spell, yes_is_consistent logs count (sym is))
yes_spells texts (Ok (No fault)) answer zero = absurd cc
yes_spells texts (Err (Log file line fault)) answer zero = absurd cc
yes_spells texts (Err (BadConfig count)) answer zero = absurd cc
yes_spells texts (Err OutOfMemory) answer zero = absurd cc
yes_spells texts (Err (Read file)) answer zero = absurd cc

-- ---- the number of logs

-- 3 is told where the number of files is out of range, and no other count is refused
pub refused_files : (answer : Result Verdict JudgeFault) (n : ℕ) → (IsErrOf answer (BadConfig Files) ↔ IsOutOfRange n) → ¬ IsErrOf answer (BadConfig Workers)
    → ¬ IsErrOf answer (BadConfig Programs) → (status_of answer ≡ 3 ↔ IsOutOfRange n)
refused_files (Ok (Yes count)) n files workers programs = (λ is. absurd cc, λ out. (let p = files.1 out in absurd cc))
refused_files (Ok (No fault)) n files workers programs = (λ is. absurd cc, λ out. (let p = files.1 out in absurd cc))
refused_files (Err (Log file line fault)) n files workers programs = (λ is. absurd cc, λ out. (let p = files.1 out in absurd cc))
refused_files (Err (BadConfig Files)) n files workers programs = (λ is. files.0 refl, λ out. refl)
refused_files (Err (BadConfig Workers)) n files workers programs = absurd (workers refl)
refused_files (Err (BadConfig Programs)) n files workers programs = absurd (programs refl)
refused_files (Err OutOfMemory) n files workers programs = (λ is. absurd cc, λ out. (let p = files.1 out in absurd cc))
refused_files (Err (Read file)) n files workers programs = (λ is. absurd cc, λ out. (let p = files.1 out in absurd cc))

-- no answer to texts in the buffer is a refusal of its ends, and one of the number of logs tells 6
pub answer_of_ends : (answer : Result Verdict JudgeFault) → IsToldOfEnds (status_of answer) (told_of answer)
answer_of_ends (Ok (Yes count)) = (λ five. absurd cc, λ three. absurd cc)
answer_of_ends (Ok (No fault)) = (λ five. absurd cc, λ three. absurd cc)
answer_of_ends (Err (Log file line fault)) = (λ five. absurd cc, λ three. absurd cc)
answer_of_ends (Err (BadConfig count)) = (λ five. absurd cc, λ three. refl)
answer_of_ends (Err OutOfMemory) = (λ five. absurd cc, λ three. absurd cc)
answer_of_ends (Err (Read file)) = (λ five. absurd cc, λ three. absurd cc)

-- ---- operations

-- of a wrong number of cores
pub count_told : (fault : JudgeFault) → IsBadCount fault → IsToldOfEnds 3 (told_of (Err fault))
count_told (BadConfig count) bad = (λ five. absurd cc, λ three. refl)
count_told (Log file line fault) bad = absurd bad
count_told OutOfMemory bad = absurd bad
count_told (Read file) bad = absurd bad

-- an answer to operations is a refusal of neither
pub operations_of_ends : (answer : Result Verdict OperationsFault) → IsToldOfEnds (operations_status answer) (operations_told answer)
operations_of_ends (Ok (Yes count)) = (λ five. absurd cc, λ three. absurd cc)
operations_of_ends (Ok (No fault)) = (λ five. absurd cc, λ three. absurd cc)
operations_of_ends (Err bad.OutOfMemory) = (λ five. absurd cc, λ three. absurd cc)
operations_of_ends (Err (bad.TooMany core)) = (λ five. absurd cc, λ three. absurd cc)
operations_of_ends (Err (bad.OutOfRange core index)) = (λ five. absurd cc, λ three. absurd cc)

-- where the status is 0, they are consistent
pub yes_is_consistent_of : (parts : List (List TardisOperation)) (answer : Result Verdict OperationsFault) → IsAnswerOf parts answer → operations_status answer ≡ 0 → IsConsistent (operations_of (logs_of parts))
yes_is_consistent_of parts (Ok (Yes count)) is zero = yes_is_consistent (logs_of parts) count (sym is.1)
yes_is_consistent_of parts (Ok (No fault)) is zero = absurd cc
yes_is_consistent_of parts (Err bad.OutOfMemory) is zero = absurd cc
yes_is_consistent_of parts (Err (bad.TooMany core)) is zero = absurd cc
yes_is_consistent_of parts (Err (bad.OutOfRange core index)) is zero = absurd cc
