-- The text of an order: a line for each id, and a last line that counts them.
use Rattle.std.specs.Prelude.{◌≡◌, ℕ, ◌<◌, List, [], ◌∷◌, ◌++◌, codes, length, take}
use Rattle.std.specs.Fmt.{decimal}
use Rattle.std.specs.List.{flat_map}
use Rattle.mem_op.specs.Texts.{id_text}
use Rattle.mem_op.specs.declared.id.OpId.{OpId}

-- the line of an id, as `1.0`
abbrev pub id_line : OpId → List ℕ
id_line id = id_text id ++ 10 ∷ []

abbrev pub id_lines : List OpId → List ℕ
id_lines order = flat_map id_line order

abbrev pub end_line : ℕ → List ℕ
end_line count = codes "end " ++ decimal count ++ 10 ∷ []

abbrev pub order_text : List OpId → List ℕ
order_text order = id_lines order ++ end_line (length order)

-- a beginning of the order text of some ids, without the whole `end` line
abbrev pub LacksEnd : List ℕ → Type 0
LacksEnd written =
    (order : List OpId) × ((n : ℕ) × (n < length (order_text order)) × (written ≡ take n (order_text order)))
