-- Laws of the order of keys.
use Rattle.std.specs.Prelude.{◌≡◌, List, ◌++◌}
use Rattle.std.specs.declared.cmp.Ordering.TheVariants.{Equal}
use Rattle.std.specs.Cmp.{IsTotalOrder}
use Rattle.line_stamps.specs.KeyParts.{KeyParts}
use Rattle.line_stamps.specs.KeyOrder.{key_cmp}
use Rattle.line_stamps.specs.Least.{lesser, least_of}

abbrev pub KeysAreTotallyOrdered : Type 0
KeysAreTotallyOrdered = IsTotalOrder key_cmp

abbrev pub TiedKeysAreOne : Type 0
TiedKeysAreOne = (a b : KeyParts) → key_cmp a b ≡ Equal → a ≡ b

abbrev pub LeastOfJoinedLists : Type 0
LeastOfJoinedLists =
    (xs ys : List KeyParts) → least_of key_cmp (xs ++ ys) ≡ lesser key_cmp (least_of key_cmp xs) (least_of key_cmp ys)
