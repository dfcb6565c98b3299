-- The first line feed of a piece.
use Rattle.std.proofs.Common.{◌≡◌, ℕ, ◌+◌, ◌-◌, List, ◌++◌, length, take, drop, ap, sym, ◌∙◌, arith}
use Rattle.std.proofs.lemmas.Bool.Decides.{nat_tests}
use Rattle.std.proofs.lemmas.List.{get_or_default, get_or-take, length-take, take_more, take_rest, take-append-drop}
use Rattle.memchr.specs.Find.{Nowhere, NoneBefore, Passes, is_byte}
use Rattle.log_file.specs.Log.{with_lf}
use Rattle.log_file.specs.OneLine.{IsOneLine}

-- no byte of these is a line feed
pub none_is_one_line : (xs : List ℕ) → Nowhere (Passes (is_byte 10) xs) 0 (length xs) → IsOneLine xs
none_is_one_line xs none k d lt = let same = get_or_default xs k 0 d lt in let no = none k (omega arith) lt in grind (arith, nat_tests)

-- no byte before place `at` is a line feed
pub front_is_one_line : (xs : List ℕ) (at : ℕ) → NoneBefore (Passes (is_byte 10) xs) 0 (length xs) at
    → IsOneLine (take at xs)
front_is_one_line xs at first k d lt = grind (arith, nat_tests, length-take, get_or-take, get_or_default)

-- the bytes up to the line feed, that one, and those after it
pub cut_at_feed : (xs : List ℕ) (at : ℕ) → NoneBefore (Passes (is_byte 10) xs) 0 (length xs) at
    → Passes (is_byte 10) xs at → xs ≡ with_lf (take at xs) ++ take (length xs - (at + 1)) (drop (at + 1) xs)
cut_at_feed xs at first feed =
    let more = take_more xs at 0 first.high in
    let front : take (at + 1) xs ≡ with_lf (take at xs) = grind (arith, nat_tests) in
    rw take_rest (sym (take-append-drop (at + 1) xs) ∙ ap (λ (front : List ℕ). front ++ drop (at + 1) xs) front)
