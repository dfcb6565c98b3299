-- Faults that stay, however the bytes go on.
use Rattle.std.proofs.Common.{◌≡◌, ℕ, ◌+◌, ◌<◌, List, [], ◌∷◌, ◌++◌, length, eqb, false, drop, get_or, ap, ◌∙◌, arith, append_assoc}
use Rattle.std.specs.List.{onto_first}
use Rattle.std.proofs.lemmas.List.{drop_more}
use Rattle.std.proofs.lemmas.List.Splits.{slice_split-cons_no, length-slice_split}
use Rattle.std.proofs.lemmas.List.Elements.{All-head, All-nil, All-tail}
use Rattle.log_record.specs.declared.format.Format.{Format}
use Rattle.log_record.specs.declared.record.Record.{Record}
use Rattle.log_record.specs.Line.{end_text}
use Rattle.log_file.specs.declared.fault.FormatFault.TheVariants.{TrailingBytes}
use Rattle.log_file.specs.Log.{spelling, IsLog, lines_of, IsFirstFault}
use Rattle.log_file.specs.declared.fault.LogFault.{LogFault}
use Rattle.log_file.specs.declared.fault.LogFault.TheVariants.{At, OutOfMemory, Read}
use Rattle.log_file.specs.Feeding.{IsSettled}
use Rattle.log_file.specs.OneLine.{IsOneLine}
use Rattle.log_file.proofs.Front.{trailing}
use Rattle.log_file.proofs.Lines.{lines_of_end, some_more, spelling_text}

-- the first line of bytes that begin with a part of it
pub lines_begin : (xs ys : List ℕ) → IsOneLine xs → (h : List ℕ) × ((t : List (List ℕ)) × (lines_of (xs ++ ys) ≡ (xs ++ h) ∷ t))
lines_begin [] ys one =
    let lines = lines_of ys in (get_or lines 0 [], (drop 1 lines, drop_more lines 0 [] (omega (arith, length-slice_split (λ b. eqb b 10) ys))))
lines_begin (x ∷ xs) ys one =
    let rest = lines_begin xs ys (All-tail (λ b. eqb b 10 ≡ false) x xs one) in
    (rest.0, (rest.1.0, slice_split-cons_no (λ (b : ℕ). eqb b 10) x (xs ++ ys) (All-head (λ b. eqb b 10 ≡ false) x xs one) ∙ ap (onto_first x) rest.1.1))

-- bytes after the end line
pub trailing_settled : {format : Format} {core cores : ℕ} {records : List Record} → IsLog format core cores records → (xs : List ℕ) → 0 < length xs
    → IsFirstFault core cores (spelling format core cores records ++ xs) (length records + 3) TrailingBytes
trailing_settled {format = format} {core = core} {cores = cores} {records = records} log xs some =
    let line = end_text (length records) in
    let b = lines_begin [] xs (All-nil (λ b. eqb b 10 ≡ false)) in
    let split = lines_of_end (length records) xs ∙ ap (λ (ls : List (List ℕ)). line ∷ ls) b.1.1 in
    rw spelling_text (trailing log (line ++ 10 ∷ xs) b.0 b.1.0 split (some_more xs b.0 b.1.0 some b.1.1))

-- the fault of a front is that of the whole
pub settled_front : (core cores : ℕ) (front rest : List ℕ) (f : LogFault) → IsSettled core cores front f
    → IsSettled core cores (front ++ rest) f
settled_front core cores front rest (At k f) h = λ more. rw append_assoc (h (rest ++ more))
settled_front core cores front rest OutOfMemory h = tt
settled_front core cores front rest Read h = h
