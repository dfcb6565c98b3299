-- The header and the end line, both ways.
use Rattle.std.proofs.Common.{◌≡◌, ℕ, List, ◌++◌, Option, Some, None, option_map, refl, sym, ap, subst, ◌∙◌}
use Rattle.std.specs.Prelude.{codes, if◌then◌else◌, is_some, IfSome, IsNone}
use Rattle.log_record.specs.declared.format.Format.{Format}
use Rattle.log_record.specs.declared.format.Format.TheVariants.{One, Two}
use Rattle.log_record.specs.declared.header.Header.{Header}
use Rattle.log_record.specs.declared.end.End.{End}
use Rattle.decimal_text.specs.Numbers.{numeral, as_u64}
use Rattle.decimal_text.specs.Reading.{◌>>=◌, number_at, after, last_number}
use Rattle.log_record.specs.Line.{format_number, header_text, end_text, IsSomeHeader, IsEndShape}
use Rattle.log_record.specs.inner.Reading.{first_words, header_numbers, header_of, end_of}
use Rattle.log_record.specs.inner.Kept.{header_parts, end_parts}
use Rattle.decimal_text.proofs.Numbers.{number_takes, number_again, after_takes, after_again}
use Rattle.decimal_text.proofs.Reading.{bind_some, some_is, last_takes, last_again}

-- a header of each format from its first words on
pub first_header_text : (core cores : ℕ) → header_text 1 core cores ≡ codes "tardis-log 1 core " ++ (numeral core ++ (codes " of " ++ numeral cores))
unfolding header_text
first_header_text core cores = let one : numeral 1 ≡ codes "1" = unfold numeral in refl in rw one refl

pub second_header_text : (core cores : ℕ) → header_text 2 core cores ≡ codes "tardis-log 2 core " ++ (numeral core ++ (codes " of " ++ numeral cores))
unfolding header_text
second_header_text core cores = let two : numeral 2 ≡ codes "2" = unfold numeral in refl in rw two refl

numbers_take : (bytes : List ℕ) (x : ℕ × ℕ) → header_numbers bytes ≡ Some x → bytes ≡ numeral x.0 ++ (codes " of " ++ numeral x.1)
unfolding header_numbers
numbers_take bytes x e =
    let b = bind_some (number_at bytes) (λ core. after (codes " of ") core.1 >>= λ rest. last_number rest >>= λ cores. Some (core.0, cores)) x e in
    let c = bind_some (after (codes " of ") b.0.1) (λ rest. last_number rest >>= λ cores. Some (b.0.0, cores)) x b.2 in
    let d = bind_some (last_number c.0) (λ cores. Some (b.0.0, cores)) x c.2 in
    let all : bytes ≡ numeral b.0.0 ++ (codes " of " ++ numeral d.0) =
    number_takes bytes b.0 b.1 ∙ ap (λ (r : List ℕ). numeral b.0.0 ++ r) (after_takes (codes " of ") b.0.1 c.0 c.1 ∙ ap (λ (r : List ℕ). codes " of " ++ r) (last_takes c.0 d.0 d.1)) in
    subst (λ (y : ℕ × ℕ). bytes ≡ numeral y.0 ++ (codes " of " ++ numeral y.1)) (some_is (b.0.0, d.0) x d.2) all

numbers_again : (core cores : ℕ) → header_numbers (numeral core ++ (codes " of " ++ numeral cores)) ≡ Some (core, cores)
unfolding header_numbers
numbers_again core cores = rw (number_again core (codes " of " ++ numeral cores) refl, after_again (codes " of ") (numeral cores), last_again cores) refl

-- the words before the numbers of a header
abbrev pub words_of : Format → List ℕ
words_of One = codes "tardis-log 1 core "
words_of Two = codes "tardis-log 2 core "

pub header_text_is : (format : Format) (core cores : ℕ)
    → header_text (format_number format) core cores ≡ words_of format ++ (numeral core ++ (codes " of " ++ numeral cores))
header_text_is One core cores = first_header_text core cores
header_text_is Two core cores = second_header_text core cores

words_take : (line : List ℕ) (x : Format × List ℕ) → first_words line ≡ Some x → line ≡ words_of x.0 ++ x.1
unfolding first_words
words_take line x e = go (after (codes "tardis-log 1 core ") line) refl e
  where
    second : after (codes "tardis-log 2 core ") line >>= (λ rest. Some (Two, rest)) ≡ Some x → line ≡ words_of x.0 ++ x.1
    second e =
        let b = bind_some (after (codes "tardis-log 2 core ") line) (λ rest. Some (Two, rest)) x e in
        subst (λ (y : Format × List ℕ). line ≡ words_of y.0 ++ y.1) (some_is (Two, b.0) x b.2) (after_takes (codes "tardis-log 2 core ") line b.0 b.1)

    go : (o : Option (List ℕ)) → after (codes "tardis-log 1 core ") line ≡ o
        → (if is_some o then (o >>= λ rest. Some (One, rest)) else (after (codes "tardis-log 2 core ") line >>= λ rest. Some (Two, rest))) ≡ Some x
        → line ≡ words_of x.0 ++ x.1
    go (Some rest) is e = subst (λ (y : Format × List ℕ). line ≡ words_of y.0 ++ y.1) (some_is (One, rest) x e) (after_takes (codes "tardis-log 1 core ") line rest is)
    go None is e = second e

words_again : (format : Format) (rest : List ℕ) → first_words (words_of format ++ rest) ≡ Some (format, rest)
unfolding first_words
words_again One rest = rw (after_again (codes "tardis-log 1 core ") rest) refl
words_again Two rest = let other : after (codes "tardis-log 1 core ") (codes "tardis-log 2 core " ++ rest) ≡ None = unfold after in refl in
    rw (other, after_again (codes "tardis-log 2 core ") rest) refl

pub header_takes : (line : List ℕ) (x : Format × (ℕ × ℕ)) → header_of line ≡ Some x → line ≡ header_text (format_number x.0) x.1.0 x.1.1
unfolding header_of
header_takes line x e =
    let a = bind_some (first_words line) (λ front. header_numbers front.1 >>= λ n. Some (front.0, n)) x e in
    let b = bind_some (header_numbers a.0.1) (λ n. Some (a.0.0, n)) x a.2 in
    let all : line ≡ header_text (format_number a.0.0) b.0.0 b.0.1 =
    words_take line a.0 a.1 ∙ ap (λ (r : List ℕ). words_of a.0.0 ++ r) (numbers_take a.0.1 b.0 b.1) ∙ sym (header_text_is a.0.0 b.0.0 b.0.1) in
    subst (λ (y : Format × (ℕ × ℕ)). line ≡ header_text (format_number y.0) y.1.0 y.1.1) (some_is (a.0.0, b.0) x b.2) all

pub header_again : (format : Format) (core cores : ℕ) → header_of (header_text (format_number format) core cores) ≡ Some (format, (core, cores))
unfolding header_of
header_again format core cores =
    rw (header_text_is format core cores, words_again format (numeral core ++ (codes " of " ++ numeral cores)), numbers_again core cores) refl

pub end_takes : (line : List ℕ) (n : ℕ) → end_of line ≡ Some n → line ≡ end_text n
unfolding end_of end_text
end_takes line n e =
    let a = bind_some (after (codes "end ") line) (λ rest. last_number rest) n e in
    after_takes (codes "end ") line a.0 a.1 ∙ ap (λ (r : List ℕ). codes "end " ++ r) (last_takes a.0 n a.2)

pub end_again : (n : ℕ) → end_of (end_text n) ≡ Some n
unfolding end_of end_text
end_again n = rw (after_again (codes "end ") (numeral n), last_again n) refl

-- ---- what the code's answers mean

not_none : {A : Type 0} (r : Option A) (x : A) → r ≡ Some x → IsNone r → ⊥
not_none None x e none = cc
not_none (Some y) x e none = cc

-- a header's line, and what the code keeps of its numbers
abbrev HeaderIs : List ℕ → Header → Type 0
HeaderIs line h = (core : ℕ) × ((cores : ℕ) × (line ≡ header_text (format_number h.format) core cores) × (h.core ≡ as_u64 core) × (h.cores ≡ as_u64 cores))

pub header_found : (line : List ℕ) (r : Option Header) → r ≡ option_map header_parts (header_of line) → IfSome r (λ h. HeaderIs line h)
header_found line r e = subst (λ (q : Option Header). IfSome q (λ h. HeaderIs line h)) (sym e) (go (header_of line) refl)
  where
    go : (o : Option (Format × (ℕ × ℕ))) → header_of line ≡ o → IfSome (option_map header_parts o) (λ h. HeaderIs line h)
    go None h = tt
    go (Some x) h = (x.1.0, (x.1.1, header_takes line x h, refl, refl))

pub header_none : (line : List ℕ) (r : Option Header) → r ≡ option_map header_parts (header_of line) → IsNone r → IsSomeHeader line → ⊥
header_none line r e none shape =
    let x : Format × (ℕ × ℕ) = (shape.0, (shape.1.0, shape.1.1.0)) in
    let there : header_of line ≡ Some x = ap header_of shape.1.1.1 ∙ header_again shape.0 shape.1.0 shape.1.1.0 in
    not_none r (header_parts x) (e ∙ ap (option_map header_parts) there) none

abbrev EndIs : List ℕ → End → Type 0
EndIs line e = (count : ℕ) × (line ≡ end_text count) × (e.count ≡ as_u64 count)

pub end_found : (line : List ℕ) (r : Option End) → r ≡ option_map end_parts (end_of line) → IfSome r (λ e. EndIs line e)
end_found line r e = subst (λ (q : Option End). IfSome q (λ e. EndIs line e)) (sym e) (go (end_of line) refl)
  where
    go : (o : Option ℕ) → end_of line ≡ o → IfSome (option_map end_parts o) (λ e. EndIs line e)
    go None h = tt
    go (Some n) h = (n, end_takes line n h, refl)

pub end_none : (line : List ℕ) (r : Option End) → r ≡ option_map end_parts (end_of line) → IsNone r → IsEndShape line → ⊥
end_none line r e none shape =
    let there : end_of line ≡ Some shape.0 = ap end_of shape.1 ∙ end_again shape.0 in
    not_none r (end_parts shape.0) (e ∙ ap (option_map end_parts) there) none
