-- The least of a list by an order, if there is one.
use Rattle.std.specs.Prelude.{List, [], ◌∷◌, Option, Some, None, if◌then◌else◌}
use Rattle.std.specs.declared.cmp.Ordering.{Ordering}
use Rattle.std.specs.Ordering.{is_lt}

-- the lesser of two, or the first if they tie
abbrev pub lesser : {F : Type 0} → (F → F → Ordering) → Option F → Option F → Option F
lesser cmp None b = b
lesser cmp (Some a) None = Some a
lesser cmp (Some a) (Some b) = Some (if is_lt (cmp b a) then b else a)

abbrev pub least_of : {F : Type 0} → (F → F → Ordering) → List F → Option F
least_of cmp [] = None
least_of cmp (x ∷ xs) = lesser cmp (Some x) (least_of cmp xs)
