-- The lines of shown registers and of forbidden outcomes: whether a line is one, and of which.
use Rattle.std.proofs.Common.{◌≡◌, ◌≢◌, ℕ, true, List, [], ◌∷◌, ◌++◌, Option, Some, None, refl, sym, ap, subst, ◌∙◌, arith, append_assoc, append-nil}
use Rattle.std.specs.Prelude.{◌≤◌, codes, min}
use Rattle.std.specs.List.{AllByRecursion}
use Rattle.std.proofs.lemmas.List.{append_cancel_left}
use Rattle.decimal_text.specs.Numbers.{numeral}
use Rattle.decimal_text.specs.Reading.{◌>>=◌, after, number_at}
use Rattle.decimal_text.proofs.Lines.{NoLf, NoLf-append, const_no_lf, numeral_no_lf}
use Rattle.decimal_text.proofs.Numbers.{after_again, after_takes, number_again, number_takes}
use Rattle.decimal_text.proofs.Reading.{bind_some}
use Rattle.core_program.specs.declared.instruction.Instruction.{Instruction}
use Rattle.core_program.specs.declared.instruction.Instruction.TheVariants.{Load, Store, StoreRegister, Add, SkipIfZero, Swap}
use Rattle.core_program.specs.Grammar.{core_text, end_text, instruction_text}
use Rattle.core_program.proofs.SetLines.{IsOther, core_first}
use Rattle.litmus.specs.TestGrammar.{forbid_text, show_text, shown_text, AreShown, IsRegister}
use Rattle.litmus.specs.Parts.{ShownParts}
use Rattle.litmus.specs.inner.Reading.{shown_at}
use Rattle.text_lines.specs.Fields.{below}
use Rattle.text_lines.specs.Words.{ends_word, spaced}
use Rattle.text_lines.proofs.Fields.{below_again, below_is}
use Rattle.text_lines.proofs.SpacedWords.{HasWords, WordsSoFar, all_words, at_end_is, ends_no_digit, spaced_no_lf, spaced_once}

-- ---- registers

register_is : (bytes behind_space behind_core behind_dot rest : List ℕ) (c r core register : ℕ) → bytes ≡ codes " " ++ behind_space → behind_space ≡ numeral c ++ behind_core
    → behind_core ≡ codes ".r" ++ behind_dot → behind_dot ≡ numeral r ++ rest → c ≡ core → r ≡ register
    → bytes ≡ 32 ∷ (shown_text (record { core = core; register = register }) ++ rest)
unfolding shown_text
register_is bytes behind_space behind_core behind_dot rest c r core register space number dot other is same =
    rw (space, number, dot, other, is, same) (ap (λ (ys : List ℕ). 32 ∷ ys) (sym (append_assoc (numeral core) (codes ".r" ++ numeral register) rest)))

register_takes : (cores : ℕ) → cores ≤ 64 → (bytes : List ℕ) (x : ShownParts × List ℕ) → shown_at cores bytes ≡ Some x
    → IsRegister cores x.0 × (bytes ≡ 32 ∷ (shown_text x.0 ++ x.1)) × (ends_word x.1 ≡ true)
unfolding shown_at
register_takes cores few bytes x e =
    let c = bind_some (after (codes " ") bytes >>= number_at) _ x e in
    let space = bind_some (after (codes " ") bytes) number_at c.0 c.1 in
    let r = bind_some (after (codes ".r") c.0.1 >>= number_at) _ x c.2 in
    let dot = bind_some (after (codes ".r") c.0.1) number_at r.0 r.1 in
    let core = bind_some (below (min cores 64) c.0.0) _ x r.2 in
    let register = bind_some (below 16 r.0.0) _ x core.2 in
    let g = below_is (min cores 64) c.0.0 core.0 core.1 in
    let h = below_is 16 r.0.0 register.0 register.1 in
    let end = at_end_is (record { core = core.0; register = register.0 }) r.0.1 x register.2 in
    let text = register_is bytes space.0 c.0.1 dot.0 r.0.1 c.0.0 r.0.0 core.0 register.0 (after_takes (codes " ") bytes space.0 space.1) (number_takes space.0 c.0 space.2)
    (after_takes (codes ".r") c.0.1 dot.0 dot.1) (number_takes dot.0 r.0 dot.2) g.0 h.0 in
    subst (λ (y : ShownParts × List ℕ). IsRegister cores y.0 × (bytes ≡ 32 ∷ (shown_text y.0 ++ y.1)) × (ends_word y.1 ≡ true)) end.0
    ((omega (arith, g.1, few), h.1), text, end.1)

register_again : (cores : ℕ) → cores ≤ 64 → (x : ShownParts) (rest : List ℕ) → IsRegister cores x → ends_word rest ≡ true
    → shown_at cores (32 ∷ (shown_text x ++ rest)) ≡ Some (x, rest)
unfolding shown_at shown_text
register_again cores few x rest fits ends =
    rw (
      append_assoc (numeral x.core) (codes ".r" ++ numeral x.register) rest,
      after_again (codes " ") (numeral x.core ++ (codes ".r" ++ (numeral x.register ++ rest))),
      number_again x.core (codes ".r" ++ (numeral x.register ++ rest)) refl,
      after_again (codes ".r") (numeral x.register ++ rest),
      number_again x.register rest (ends_no_digit rest ends),
      below_again (min cores 64) x.core (omega (arith, fits.0, few)),
      below_again 16 x.register fits.1,
      ends,
    ) refl

pub registers_are_words : (cores : ℕ) → cores ≤ 64 → HasWords shown_text (IsRegister cores) (shown_at cores)
registers_are_words cores few = record { takes = λ bytes x rest e. register_takes cores few bytes (x, rest) e; again = register_again cores few }

-- ---- a line of a name and words

module _ {A : Type 0} {word : A → List ℕ} {Fits : A → Type 0} {read : List ℕ → Option (A × List ℕ)} (has : HasWords word Fits read)
    (name line words rest : List ℕ) (xs : List A) (is : line ≡ name ++ words) (far : WordsSoFar word Fits words xs rest) where
  pub line_told : rest ≡ [] → line ≡ name ++ spaced word xs
  line_told none = is ∙ ap (λ (ys : List ℕ). name ++ ys) (far.text_is ∙ ap (λ (ys : List ℕ). spaced word xs ++ ys) none ∙ append-nil (spaced word xs))

  pub line_once : read rest ≡ None → (ys : List A) → AllByRecursion Fits ys → line ≡ name ++ spaced word ys → (rest ≡ []) × (xs ≡ ys)
  line_once none ys each same = all_words has words rest xs ys far none each (append_cancel_left name words (spaced word ys) (sym is ∙ same))

-- no line is that of two lists
pub show_once : (cores : ℕ) → cores ≤ 64 → (xs ys : List ShownParts) → AreShown cores xs → AreShown cores ys → show_text xs ≡ show_text ys → xs ≡ ys
unfolding show_text
show_once cores few xs ys p q e =
    spaced_once (registers_are_words cores few) xs ys p.each q.each (append_cancel_left (codes "show") (spaced shown_text xs) (spaced shown_text ys) e)

-- ---- no line feed

shown_no_lf : (shown : ShownParts) → NoLf (shown_text shown)
unfolding shown_text
shown_no_lf shown =
    NoLf-append (numeral shown.core) (codes ".r" ++ numeral shown.register) (numeral_no_lf shown.core) (refl, (refl, numeral_no_lf shown.register))

pub show_no_lf : (shown : List ShownParts) → NoLf (show_text shown)
unfolding show_text
show_no_lf shown = NoLf-append (codes "show") (spaced shown_text shown) (const_no_lf (codes "show") refl) (spaced_no_lf shown_text shown_no_lf shown)

pub forbid_no_lf : (values : List ℕ) → NoLf (forbid_text values)
unfolding forbid_text
forbid_no_lf values = NoLf-append (codes "forbid") (spaced numeral values) (const_no_lf (codes "forbid") refl) (spaced_no_lf numeral numeral_no_lf values)

-- ---- lines of different kinds

-- the first and the second byte, or 0
abbrev first_of : List ℕ → ℕ
first_of [] = 0
first_of (b ∷ bs) = b

abbrev second_of : List ℕ → ℕ
second_of [] = 0
second_of (b ∷ bs) = first_of bs

show_first : (shown : List ShownParts) → (first_of (show_text shown) ≡ 115) × (second_of (show_text shown) ≡ 104)
unfolding show_text
show_first shown = (refl, refl)

-- no instruction's line begins with `?h`
instruction_second : (i : Instruction) → second_of (instruction_text i) ≢ 104
unfolding instruction_text
instruction_second (Load to addr) = λ e. omega (arith, e)
instruction_second (Store addr value) = λ e. omega (arith, e)
instruction_second (StoreRegister addr from) = λ e. omega (arith, e)
instruction_second (Add to from value) = λ e. omega (arith, e)
instruction_second (SkipIfZero tested skip) = λ e. omega (arith, e)
instruction_second (Swap to addr value) = λ e. omega (arith, e)

pub show_is_other : (shown : List ShownParts) → IsOther (show_text shown)
show_is_other shown = record {
  no_instruction = λ i e. instruction_second i (ap second_of e ∙ (show_first shown).1);
  no_core = λ core e. omega (arith, core_first core, ap first_of e, (show_first shown).0);
}

forbid_first : (values : List ℕ) → first_of (forbid_text values) ≡ 102
unfolding forbid_text
forbid_first values = refl

pub forbid_no_end : (values : List ℕ) → forbid_text values ≡ end_text → ⊥
forbid_no_end values e = omega (arith, forbid_first values, ap first_of e)
