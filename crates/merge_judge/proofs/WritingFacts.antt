-- What a sink took of a text.
use Rattle.std.specs.Prelude.{◌≡◌, Bool, false, Ok, ℕ, ◌<◌, List, [], ◌∷◌, ◌++◌, refl, Option, Some, None, Err, length, take, drop}
use Rattle.std.proofs.Common.{◌∙◌, sym, ap, arith, append-nil, length-append, length-drop}
use Rattle.std.proofs.lemmas.List.{take-append-drop}
use Rattle.std.proofs.Math.Seq.{take-append_seam}
use Rattle.std.specs.Io.KnownBytes.{Appends}
use Rattle.log_file.specs.declared.device_fault.WriteFault.{WriteFault}
use Rattle.mem_op.specs.Texts.{id_text}
use Rattle.mem_op.specs.declared.id.OpId.{OpId}
use Rattle.merge_judge.specs.OrderText.{id_line, end_line}
use Rattle.merge_judge.specs.inner.Judging.{line_where}
use Rattle.merge_judge.specs.inner.Writing.{IsWritten}

pub front_of : (written rest text : List ℕ) → written ++ rest ≡ text → take (length written) text ≡ written
front_of written rest text is = ap (take (length written)) (sym is) ∙ take-append_seam written rest

pub appends_none : (o : Option (List ℕ)) → Appends o o []
appends_none None = tt
appends_none (Some xs) = sym (append-nil xs)

-- it failed before the end
pub cut_off : {E : Type 0} (old new : Option (List ℕ)) (text kept : List ℕ) (f : E) → (n : ℕ) × (n < length text) × Appends old new (take n text) → IsWritten old new text (Err f) kept
cut_off old new text kept f t = (
  take t.0 text,
  (drop t.0 text, t.2, take-append-drop t.0 text, tt, λ none. omega (arith, t.1, ap length none, length-drop t.0 text)),
)

-- nothing was written of a text that has a last line
pub none_written : {E : Type 0} (o : Option (List ℕ)) (front line kept : List ℕ) (f : E) → 0 < length line → IsWritten o o (front ++ line) (Err f) kept
none_written o front line kept f some = ([], (front ++ line, appends_none o, refl, tt, λ none. omega (arith, some, ap length none, length-append front line)))

pub id_line_some : (id : OpId) → 0 < length (id_line id)
id_line_some id = omega (arith, length-append (id_text id) (10 ∷ []))

pub end_line_some : (count : ℕ) → 0 < length (end_line count)
end_line_some count = omega arith

-- ---- an id that isn't written

pub nothing_more : (o : Option (List ℕ)) (kept : List ℕ) (on : Bool) (id : OpId) → on ≡ false → IsWritten {E = WriteFault} o o (kept ++ line_where on id) (Ok tt) kept
nothing_more o kept on id off = ([], (kept, appends_none o, sym (append-nil kept) ∙ ap (λ b. kept ++ line_where b id) (sym off), refl, tt))
