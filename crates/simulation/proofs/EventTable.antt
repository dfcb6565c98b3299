-- One line more of the table of a run.
use Rattle.std.proofs.Common.{◌≡◌, ℕ, ◌+◌, ◌<◌, ◌≤◌, List, [], ◌∷◌, ◌++◌, length, get_or, take, sym, ap, subst, ◌∙◌, append_assoc, arith}
use Rattle.std.specs.Prelude.{Option, None, Some}
use Rattle.std.specs.Io.KnownBytes.{Appends}
use Rattle.std.proofs.lemmas.List.{length-take-le, take_more}
use Rattle.csv.specs.Writing.{default_writer, row_text}
use Rattle.core_machine.specs.declared.event.Event.{Event}
use Rattle.simulation.specs.EventTable.{AreCellsOf, AreLines, one_more}

pub lines_more : (events : List Event) (n : ℕ) (e : Event) (lines : List ℕ) (cells : List (List ℕ)) → n < length events → e ≡ get_or events n e
    → AreLines (take n events) lines → AreCellsOf (n + 1) e cells → AreLines (take (n + 1) events) (lines ++ row_text default_writer cells)
lines_more events n e lines cells below here are is =
    let more : take (n + 1) events ≡ take n events ++ e ∷ [] = take_more events n e below ∙ ap (λ x. take n events ++ x ∷ []) (sym here) in
    let within : n ≤ length events = omega arith in
    let number : n + 1 ≡ length (take n events) + 1 = omega (arith, length-take-le n events within) in
    subst (λ (es : List Event). AreLines es (lines ++ row_text default_writer cells)) (sym more)
    (one_more (take n events) lines e cells are (subst (λ (k : ℕ). AreCellsOf k e cells) number is))

pub text_more : (old new : Option (List ℕ)) (first lines row : List ℕ) → old ≡ Some (first ++ lines) → Appends old new row → new ≡ Some (first ++ (lines ++ row))
text_more old None first lines row was grown = absurd (subst (λ (o : Option (List ℕ)). Appends o None row) was grown)
text_more old (Some text) first lines row was grown =
    let is : text ≡ (first ++ lines) ++ row = subst (λ (o : Option (List ℕ)). Appends o (Some text) row) was grown in
    ap (λ t. Some t) (is ∙ append_assoc first lines row)
