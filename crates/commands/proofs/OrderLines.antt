-- The lines of ids, and the text of an order.
use Rattle.std.proofs.Common.{◌≡◌, ◌∙◌, ℕ, ◌<◌, ◌^◌, List, [], ◌∷◌, ◌++◌, Option, Some, Result, Ok, Err, sym, ap, append_assoc, append-nil, length}
use Rattle.std.specs.Prelude.{IfOk, IsNone}
use Rattle.std.specs.Fmt.{decimal}
use Rattle.std.proofs.lemmas.Grind.{flat_map-append}
use Rattle.decimal_text.specs.Numbers.{as_u64, numeral}
use Rattle.decimal_text.proofs.Printing.{numeral_decimal}
use Rattle.mem_op.specs.Consistency.{Operation, IsSequentialOrder}
use Rattle.mem_op.specs.declared.id.OpId.{OpId}
use Rattle.merge_judge.specs.OrderText.{end_line, id_line, id_lines}
use Rattle.text_lines.proofs.Fields.{below_is}
use Rattle.commands.specs.OrderTexts.{SpellsOrder}

-- the number that was read
pub read_as : (n m : ℕ) (value : Option ℕ) → value ≡ Some m → value ≡ as_u64 n → n ≡ m
read_as n m value is same = (below_is (2 ^ 64) n m (sym same ∙ is)).0

-- a core, a point and an index are the line of an id
pub line_is : (line rest : List ℕ) (id : OpId) → id.core < 2 ^ 64 → id.index < 2 ^ 64 → line ≡ numeral id.core ++ 46 ∷ rest → rest ≡ numeral id.index → line ++ 10 ∷ [] ≡ id_line id
line_is line rest id low short is more =
    ap (λ (xs : List ℕ). xs ++ 10 ∷ []) (is ∙ ap (λ (xs : List ℕ). numeral id.core ++ 46 ∷ xs) more)
    ∙ ap (λ (xs : List ℕ). (xs ++ 46 ∷ numeral id.index) ++ 10 ∷ []) (numeral_decimal id.core low)
    ∙ ap (λ (xs : List ℕ). (decimal id.core ++ 46 ∷ xs) ++ 10 ∷ []) (numeral_decimal id.index short)
    ∙ ap (λ (xs : List ℕ). xs ++ 10 ∷ []) (sym (append_assoc (decimal id.core) (46 ∷ []) (decimal id.index)))

-- the line of an id is the first
pub first_line : (text line rest : List ℕ) (id : OpId) → text ≡ line ++ 10 ∷ rest → line ++ 10 ∷ [] ≡ id_line id → text ≡ id_line id ++ rest
first_line text line rest id is same = is ∙ sym (append_assoc line (10 ∷ []) rest) ∙ ap (λ (xs : List ℕ). xs ++ rest) same

-- and the next
pub one_more : (text rest behind : List ℕ) (ids : List OpId) (id : OpId) → text ≡ id_lines ids ++ rest → rest ≡ id_line id ++ behind → text ≡ id_lines (ids ++ id ∷ []) ++ behind
one_more text rest behind ids id is more =
    is ∙ ap (λ (xs : List ℕ). id_lines ids ++ xs) more
    ∙ sym (append_assoc (id_lines ids) (id_line id) behind)
    ∙ ap (λ (xs : List ℕ). xs ++ behind) (sym (flat_map-append id_line ids (id ∷ []) ∙ ap (λ (xs : List ℕ). id_lines ids ++ xs) (append-nil (id_line id))))

-- the whole text, if its end is right
pub ended : {E : Type 0} (cores : List (List Operation)) (text rest : List ℕ) (ids : List OpId) (result : Result (Option ℕ) E) → text ≡ id_lines ids ++ rest
    → IsSequentialOrder cores ids → IfOk result (λ bad. IsNone bad → rest ≡ end_line (length ids)) → IfOk result (λ bad. IsNone bad → SpellsOrder cores text)
ended cores text rest ids (Ok bad) is order ends = λ none. (ids, order, is ∙ ap (λ (xs : List ℕ). id_lines ids ++ xs) (ends none))
ended cores text rest ids (Err fault) is order ends = tt
