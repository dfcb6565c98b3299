-- While no fault came, none but Truncated holds of the bytes that were fed.
use Rattle.std.proofs.Common.{◌≡◌, ◌≤◌, ℕ, List, ◌++◌, length, Ok, subst}
use Rattle.log_record.specs.declared.record.Record.{Record}
use Rattle.log_file.specs.declared.fault.FormatFault.{FormatFault}
use Rattle.log_file.specs.declared.fault.FormatFault.TheVariants.{Truncated}
use Rattle.log_file.specs.declared.stage.Stage.{Stage}
use Rattle.log_file.specs.declared.stage.Stage.TheVariants as stage
use Rattle.log_file.specs.Log.{spelling, lines_of, FaultAt}
use Rattle.log_file.specs.OneLine.{IsOneLine}
use Rattle.log_file.specs.Answering.{Answering, HasAnswered}
use Rattle.log_file.specs.Feeding.{IsOpen}
use Rattle.log_file.specs.Standing.{IsSound, limit_at, whole_text}
use Rattle.log_file.proofs.Front.{body_only, header_only}
use Rattle.log_file.proofs.Spelled.{spelled_quiet}
use Rattle.log_file.proofs.Standing.{ended_spells}

bytes_only : (q : Stage) (core cores : ℕ) (records : List Record) (line : List ℕ) → IsSound q core cores records line
    → IsOneLine line → length line ≤ limit_at q → (k : ℕ) (g : FormatFault)
    → FaultAt core cores (lines_of (whole_text q core cores records ++ line)) k g → g ≡ Truncated
bytes_only stage.Header core cores records line sound one short k g f = header_only core cores line one short k g f
bytes_only (stage.Records format) core cores records line sound one short k g f = body_only sound line one short k g f
bytes_only (stage.Ended format) core cores records line sound one short k g f =
    absurd (spelled_quiet core cores (spelling format core cores records ++ line) records (ended_spells format core cores records line sound) k g f)

pub only_cut : (s : Answering) (bytes : List ℕ) (records : List Record) → HasAnswered s bytes records → IsOpen s.core s.cores (Ok bytes)
only_cut s bytes records h k g f =
    bytes_only s.stage s.core s.cores records s.begun h.sound h.one h.short k g
    (subst (λ (xs : List ℕ). FaultAt s.core s.cores (lines_of xs) k g) h.text f)
