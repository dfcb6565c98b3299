-- The header of a set and the line before a section, read and found at the front of bytes: no header is that of two formats or two numbers.
use Rattle.std.proofs.Common.{◌≡◌, ℕ, ◌<◌, ◌≤◌, ◌^◌, cond, eqb, List, ◌∷◌, ◌++◌, Option, Some, None, if◌then◌else◌, is_some, refl, sym, ap, subst, ◌∙◌, arith, inl, inr, append_assoc}
use Rattle.std.specs.Prelude.{codes}
use Rattle.std.proofs.lemmas.Bool.{cases_Bool, cond-true, cond-false, eq-eqb, eqb-true, eqb-false, cond_below, ltb-true, ne_eqb}
use Rattle.std.proofs.Math.Dec.{ltb}
use Rattle.decimal_text.specs.Numbers.{numeral}
use Rattle.decimal_text.specs.Reading.{◌>>=◌, after, field_at, last_number}
use Rattle.decimal_text.proofs.Numbers.{after_takes, after_again, guard_some}
use Rattle.decimal_text.proofs.Reading.{bind_some, some_is, field_takes, field_again, last_again}
use Rattle.core_program.specs.declared.format.ProgramFormat.{ProgramFormat}
use Rattle.core_program.specs.declared.format.ProgramFormat.TheVariants.{One, Two}
use Rattle.core_program.specs.Grammar.{format_number, header_text, core_text}
use Rattle.core_program.specs.inner.Reading.{first_words, cores_at, header_at, behind_core}
use Rattle.core_program.specs.inner.Sections.{HeaderInFront}
use Rattle.text_lines.specs.Fields.{below, front_below}
use Rattle.text_lines.proofs.Fields.{below_is, below_again}

-- ---- the header

-- the words before the number of a header
abbrev pub words_of : ProgramFormat → List ℕ
words_of One = codes "tardis-programs 1 cores "
words_of Two = codes "tardis-programs 2 cores "

numeral_one : numeral 1 ≡ codes "1"
unfolding numeral
numeral_one = refl

numeral_two : numeral 2 ≡ codes "2"
unfolding numeral
numeral_two = refl

-- a header from its first words on
pub header_text_is : (format : ProgramFormat) (cores : ℕ) → header_text (format_number format) cores ≡ words_of format ++ numeral cores
unfolding header_text
header_text_is One cores = rw numeral_one refl
header_text_is Two cores = rw numeral_two refl

pub words_take : (text : List ℕ) (x : ProgramFormat × List ℕ) → first_words text ≡ Some x → text ≡ words_of x.0 ++ x.1
unfolding first_words
words_take text x e = go (after (codes "tardis-programs 1 cores ") text) refl e
  where
    second : after (codes "tardis-programs 2 cores ") text >>= (λ rest. Some (Two, rest)) ≡ Some x → text ≡ words_of x.0 ++ x.1
    second e =
        let b = bind_some (after (codes "tardis-programs 2 cores ") text) (λ rest. Some (Two, rest)) x e in
        subst (λ (y : ProgramFormat × List ℕ). text ≡ words_of y.0 ++ y.1) (some_is (Two, b.0) x b.2) (after_takes (codes "tardis-programs 2 cores ") text b.0 b.1)

    go : (o : Option (List ℕ)) → after (codes "tardis-programs 1 cores ") text ≡ o
        → (if is_some o then (o >>= λ rest. Some (One, rest)) else (after (codes "tardis-programs 2 cores ") text >>= λ rest. Some (Two, rest))) ≡ Some x
        → text ≡ words_of x.0 ++ x.1
    go (Some rest) is e = subst (λ (y : ProgramFormat × List ℕ). text ≡ words_of y.0 ++ y.1) (some_is (One, rest) x e) (after_takes (codes "tardis-programs 1 cores ") text rest is)
    go None is e = second e

pub words_again : (format : ProgramFormat) (rest : List ℕ) → first_words (words_of format ++ rest) ≡ Some (format, rest)
unfolding first_words
words_again One rest = rw (after_again (codes "tardis-programs 1 cores ") rest) refl
words_again Two rest = let other : after (codes "tardis-programs 1 cores ") (codes "tardis-programs 2 cores " ++ rest) ≡ None = unfold after in refl in
    rw (other, after_again (codes "tardis-programs 2 cores ") rest) refl

cores_take : (bytes : List ℕ) (x : ℕ × List ℕ) → cores_at bytes ≡ Some x → (1 ≤ x.0) × (x.0 ≤ 64) × (bytes ≡ numeral x.0 ++ 10 ∷ x.1)
unfolding cores_at
cores_take bytes x e =
    let n = bind_some (field_at 10 bytes) (λ n. cond (eqb n.0 0) None (front_below 65 n)) x e in
    elim (cases_Bool (eqb n.0.0 0)) [
      | inl zero-is ↦ let wrong : None ≡ Some x = sym (cond-true (eqb n.0.0 0) None (front_below 65 n.0) zero-is) ∙ n.2 in absurd cc
      | inr other ↦
          let g = guard_some (ltb n.0.0 65) n.0 x (sym (cond-false (eqb n.0.0 0) None (front_below 65 n.0) other) ∙ n.2) in
          let some = eqb-false n.0.0 0 other in
          subst (λ (y : ℕ × List ℕ). (1 ≤ y.0) × (y.0 ≤ 64) × (bytes ≡ numeral y.0 ++ 10 ∷ y.1)) g.1
          (omega (arith, some), omega (arith, ltb-true n.0.0 65 g.0), field_takes 10 bytes n.0 n.1)
    ]

cores_again : (n : ℕ) (rest : List ℕ) → 1 ≤ n → n ≤ 64 → cores_at (numeral n ++ 10 ∷ rest) ≡ Some (n, rest)
unfolding cores_at
cores_again n rest some few =
    rw (field_again 10 n rest refl)
    (cond-false (eqb n 0) None (front_below 65 (n, rest)) (ne_eqb n 0 (λ e. omega (arith, e))) ∙ sym (cond_below n 65 (Some (n, rest)) None (omega arith)))

pub header_takes : (text : List ℕ) (x : ProgramFormat × ℕ × List ℕ) → header_at text ≡ Some x → HeaderInFront x.0 x.1 text x.2
unfolding header_at
header_takes text x e =
    let a = bind_some (first_words text) (λ front. cores_at front.1 >>= λ n. Some (front.0, n.0, n.1)) x e in
    let b = bind_some (cores_at a.0.1) (λ n. Some (a.0.0, n.0, n.1)) x a.2 in
    let n = cores_take a.0.1 b.0 b.1 in
    let is : text ≡ words_of a.0.0 ++ (numeral b.0.0 ++ 10 ∷ b.0.1) = words_take text a.0 a.1 ∙ ap (λ (r : List ℕ). words_of a.0.0 ++ r) n.2 in
    let all : text ≡ header_text (format_number a.0.0) b.0.0 ++ 10 ∷ b.0.1 =
    is ∙ sym (append_assoc (words_of a.0.0) (numeral b.0.0) (10 ∷ b.0.1)) ∙ ap (λ (l : List ℕ). l ++ 10 ∷ b.0.1) (sym (header_text_is a.0.0 b.0.0)) in
    subst (λ (y : ProgramFormat × ℕ × List ℕ). HeaderInFront y.0 y.1 text y.2) (some_is (a.0.0, b.0.0, b.0.1) x b.2) (n.0, n.1, all)

header_again : (format : ProgramFormat) (n : ℕ) (text rest : List ℕ) → HeaderInFront format n text rest → header_at text ≡ Some (format, n, rest)
unfolding header_at
header_again format n text rest there =
    let is : text ≡ words_of format ++ (numeral n ++ 10 ∷ rest) =
    there.2 ∙ ap (λ (l : List ℕ). l ++ 10 ∷ rest) (header_text_is format n) ∙ append_assoc (words_of format) (numeral n) (10 ∷ rest) in
    rw (is, words_again format (numeral n ++ 10 ∷ rest), cores_again n rest there.0 there.1) refl

none_some : (x : ProgramFormat × ℕ × List ℕ) → None ≡ Some x → ⊥
none_some x e = cc

pub no_header : (text : List ℕ) → None ≡ header_at text → (format : ProgramFormat) (cores : ℕ) (rest : List ℕ) → HeaderInFront format cores text rest → ⊥
no_header text none format cores rest there = none_some (format, cores, rest) (none ∙ header_again format cores text rest there)

-- no header is that of two formats or numbers of cores
pub header_once : (f g : ProgramFormat) (m n : ℕ) → header_text (format_number f) m ≡ header_text (format_number g) n → (f ≡ g) × (m ≡ n)
header_once f g m n e =
    let same = some_is (f, numeral m) (g, numeral n)
    (sym (words_again f (numeral m)) ∙ ap first_words (sym (header_text_is f m) ∙ e ∙ header_text_is g n) ∙ words_again g (numeral n)) in
    (ap (λ z. z.0) same, some_is m n (sym (last_again m) ∙ ap last_number (ap (λ z. z.1) same) ∙ last_again n))

-- ---- the line before a section

pub core_takes : (core : ℕ) (text rest : List ℕ) → behind_core core text ≡ Some rest → text ≡ core_text core ++ 10 ∷ rest
unfolding behind_core core_text
core_takes core text rest e =
    let n = bind_some (after (codes "core ") text >>= field_at 10) (λ n. below (2 ^ 64) n.0 >>= λ number. cond (eqb number core) (Some n.1) None) rest e in
    let a = bind_some (after (codes "core ") text) (field_at 10) n.0 n.1 in
    let b = bind_some (below (2 ^ 64) n.0.0) (λ number. cond (eqb number core) (Some n.0.1) None) rest n.2 in
    let g = guard_some (eqb b.0 core) n.0.1 rest b.2 in
    let core-is : n.0.0 ≡ core = (below_is (2 ^ 64) n.0.0 b.0 b.1).0 ∙ eqb-true b.0 core g.0 in
    let read : a.0 ≡ numeral core ++ 10 ∷ rest = field_takes 10 a.0 n.0 a.2 ∙ ap (λ (k : ℕ). numeral k ++ 10 ∷ n.0.1) core-is ∙ ap (λ (r : List ℕ). numeral core ++ 10 ∷ r) g.1 in
    after_takes (codes "core ") text a.0 a.1 ∙ ap (λ (r : List ℕ). codes "core " ++ r) read

pub no_core : (core : ℕ) (text : List ℕ) → core < 2 ^ 64 → None ≡ behind_core core text → (rest : List ℕ) → text ≡ core_text core ++ 10 ∷ rest → ⊥
unfolding behind_core core_text
no_core core text lt none rest is =
    let again : behind_core core (codes "core " ++ (numeral core ++ 10 ∷ rest)) ≡ Some rest =
    rw (after_again (codes "core ") (numeral core ++ 10 ∷ rest), field_again 10 core rest refl, below_again (2 ^ 64) core lt) (cond-true (eqb core core) (Some rest) None (eq-eqb core core refl)) in
    let wrong : None ≡ Some rest = none ∙ ap (behind_core core) is ∙ again in
    cc
