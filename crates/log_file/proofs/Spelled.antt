-- Bytes that spell a log have no fault.
use Rattle.std.proofs.Common.{ℕ, ◌++◌, ◌∷◌, [], List, length, subst, refl, ◌∙◌}
use Rattle.log_record.specs.declared.record.Record.{Record}
use Rattle.log_record.specs.Line.{end_text}
use Rattle.log_file.specs.declared.fault.FormatFault.{FormatFault}
use Rattle.log_file.specs.Log.{Spells, lines_of, FaultAt}
use Rattle.log_file.proofs.Front.{spelled}
use Rattle.log_file.proofs.Lines.{lines_of_end, spelling_is}

pub spelled_quiet : (core cores : ℕ) (bytes : List ℕ) (records : List Record) → Spells core cores bytes records
    → (k : ℕ) (f : FormatFault) → FaultAt core cores (lines_of bytes) k f → ⊥
spelled_quiet core cores bytes records (format, spells) k f p =
    let line = end_text (length records) in
    spelled spells.0 (line ++ 10 ∷ []) [] [] (lines_of_end (length records) []) refl refl k f
    (subst (λ (xs : List ℕ). FaultAt core cores (lines_of xs) k f) (spells.1 ∙ spelling_is format core cores records) p)
