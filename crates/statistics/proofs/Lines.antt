-- One line more.
use Rattle.std.proofs.Common.{◌≡◌, ◌<◌, ◌+◌, ℕ, List, [], ◌∷◌, ◌++◌, get_or, length, map, take, sym, ap, ◌∙◌, append_assoc, append-nil, arith}
use Rattle.std.specs.List.{enumerate_from, flat_map}
use Rattle.std.proofs.lemmas.List.{length-map, length-take, map_push, take_more}
use Rattle.std.proofs.lemmas.List.Concat.{flat_map-append}
use Rattle.csv_lines.specs.Lines.{cells_line}
use Rattle.statistics.specs.TableText.{lines_of, row_cells}
use Rattle.statistics.specs.declared.numbers.Numbers.{Numbers}
use Rattle.statistics.specs.declared.table_text.Whose.{Whose}

enumerate_push : (k j : ℕ) (xs : List Numbers) (y : Numbers) → k + length xs ≡ j → enumerate_from k (xs ++ y ∷ []) ≡ enumerate_from k xs ++ (j, y) ∷ []
enumerate_push k j [] y at = let here : k ≡ j = omega arith in rw here
enumerate_push k j (x ∷ xs) y at = ap (λ t. (k, x) ∷ t) (enumerate_push (k + 1) j xs y (omega arith))

lines_push : (whose : ℕ → Whose) (xs : List Numbers) (y : Numbers) → lines_of whose (xs ++ y ∷ []) ≡ lines_of whose xs ++ cells_line (row_cells (whose (length xs)) y)
lines_push whose xs y =
    let line = λ (p : ℕ × Numbers). cells_line (row_cells (whose p.0) p.1) in
    ap (flat_map line) (enumerate_push 0 (length xs) xs y (omega arith)) ∙ flat_map-append line (enumerate_from 0 xs) ((length xs, y) ∷ [])
    ∙ ap (λ t. lines_of whose xs ++ t) (append-nil (line (length xs, y)))

-- the text after the line of one part more
pub line_more : {X : Type 0} (whose : ℕ → Whose) (f : X → Numbers) (xs : List X) (i : ℕ) (d : X) (first before after : List ℕ) (made : List (List ℕ)) → i < length xs
    → before ≡ first ++ lines_of whose (map f (take i xs)) → after ≡ before ++ cells_line made → made ≡ row_cells (whose i) (f (get_or xs i d))
    → after ≡ first ++ lines_of whose (map f (take (i + 1) xs))
line_more whose f xs i d first before after made lt was written is =
    let long : length (map f (take i xs)) ≡ i = omega (arith, length-map (take i xs) f, length-take i xs) in
    let one = ap (λ l. lines_of whose l) (ap (map f) (take_more xs i d lt) ∙ map_push f (take i xs) (get_or xs i d)) ∙ lines_push whose (map f (take i xs)) (f (get_or xs i d)) in
    written ∙ ap (λ t. t ++ cells_line made) was ∙ append_assoc first (lines_of whose (map f (take i xs))) (cells_line made)
    ∙ ap (λ t. first ++ t) (ap (λ m. lines_of whose (map f (take i xs)) ++ cells_line m) (is ∙ ap (λ (n : ℕ). row_cells (whose n) (f (get_or xs i d))) (sym long)) ∙ sym one)
