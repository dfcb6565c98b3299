-- Items read line by line, and in one way only: once, for whatever is read of a line.
use Rattle.std.proofs.Common.{◌≡◌, ℕ, ◌+◌, List, [], ◌∷◌, ◌++◌, length, map, Option, Some, None, refl, sym, ap, ◌∙◌, arith, append_assoc, append-nil, length-append}
use Rattle.std.specs.List.{AllByRecursion}
use Rattle.std.proofs.lemmas.List.{map_push}
use Rattle.decimal_text.proofs.Lines.{NoLf}
use Rattle.decimal_text.proofs.Reading.{some_is}
use Rattle.text_lines.specs.Items.{lines_of, SpellsItems, ItemInFront, NoItemInFront, IsFirstBad}
use Rattle.text_lines.specs.Lines.{IsOneLine, text_of}
use Rattle.text_lines.proofs.TextLines.{line_once, no_line, first_line, text_of-append, text_of-cons}

-- no item's text has a line feed, and none is that of two items
pub record AreLines {A : Type 0} (text : A → List ℕ) (Fits : A → Type 0) : Type 0 where
  pub no_lf : (x : A) → NoLf (text x)
  pub once : (x y : A) → Fits x → Fits y → text x ≡ text y → x ≡ y

-- what is read of a line is just the item whose text it is
pub record IsReading {A : Type 0} (text : A → List ℕ) (Fits : A → Type 0) (read : List ℕ → Option A) : Type 0 where
  pub takes : (line : List ℕ) (x : A) → read line ≡ Some x → (line ≡ text x) × Fits x
  pub again : (x : A) → Fits x → read (text x) ≡ Some x
  pub no_lf : (x : A) → NoLf (text x)

-- the items so far, and the bytes after their lines
pub record SoFar {A : Type 0} (text : A → List ℕ) (Fits : A → Type 0) (bytes : List ℕ) (items : List A) (rest : List ℕ) : Type 0 where
  pub each_fits : AllByRecursion Fits items
  pub text_is : bytes ≡ lines_of text items ++ rest

pub each_push : {A : Type 0} (Fits : A → Type 0) (items : List A) (x : A) → AllByRecursion Fits items → Fits x → AllByRecursion Fits (items ++ x ∷ [])
each_push Fits [] x each fits = (fits, tt)
each_push Fits (y ∷ items) x each fits = (each.0, each_push Fits items x each.1 fits)

-- one more line
pub lines_push : {A : Type 0} (text : A → List ℕ) (items : List A) (x : A) (behind : List ℕ)
    → lines_of text (items ++ x ∷ []) ++ behind ≡ lines_of text items ++ (text x ++ 10 ∷ behind)
lines_push text items x behind =
    ap (λ (ls : List (List ℕ)). text_of ls ++ behind) (map_push text items x)
    ∙ ap (λ (xs : List ℕ). xs ++ behind) (text_of-append (map text items) (text x ∷ []))
    ∙ append_assoc (lines_of text items) (text_of (text x ∷ [])) behind
    ∙ ap (λ (xs : List ℕ). lines_of text items ++ xs) (text_of-cons (text x) [] behind)

module _ {A : Type 0} {text : A → List ℕ} {Fits : A → Type 0} {read : List ℕ → Option A} (reading : IsReading text Fits read) where
  pub are_lines : AreLines text Fits
  are_lines = record { no_lf = reading.no_lf; once = λ x y p q e. some_is x y (sym (reading.again x p) ∙ ap read e ∙ reading.again y q) }

  -- none, where no line feed is there
  pub none_without_feed : (bytes : List ℕ) → IsOneLine bytes → NoItemInFront text Fits bytes
  none_without_feed bytes one = λ x rest there. no_line bytes (text x) rest one there.1

  -- none, where the first line isn't an item's
  pub none_of_other : (bytes line behind : List ℕ) → IsOneLine line → bytes ≡ line ++ 10 ∷ behind → None ≡ read line → NoItemInFront text Fits bytes
  none_of_other bytes line behind one is none = λ x rest there.
      let same = first_line bytes line behind (text x) rest one (reading.no_lf x) is there.1 in
      let wrong : None ≡ Some x = none ∙ ap read same ∙ reading.again x there.0 in
      cc

  -- the item whose line is the first
  pub first_of_line : (bytes line behind : List ℕ) (x : A) → bytes ≡ line ++ 10 ∷ behind → Some x ≡ read line → ItemInFront text Fits x bytes behind
  first_of_line bytes line behind x is some =
      let t = reading.takes line x (sym some) in
      (t.1, is ∙ ap (λ (l : List ℕ). l ++ 10 ∷ behind) t.0)

module _ {A : Type 0} {text : A → List ℕ} {Fits : A → Type 0} (lines : AreLines text Fits) where
  -- no bytes begin with no line
  none_of_nothing : NoItemInFront text Fits []
  none_of_nothing = λ x rest there. omega (arith, ap length there.1, length-append (text x) (10 ∷ rest))

  -- all the items whose lines come before bytes do so in one way
  pub cut_once : (p q : List A) (xs ys : List ℕ) → AllByRecursion Fits p → AllByRecursion Fits q → NoItemInFront text Fits xs → NoItemInFront text Fits ys
      → lines_of text p ++ xs ≡ lines_of text q ++ ys → (p ≡ q) × (xs ≡ ys)
  cut_once [] [] xs ys f g none-p none-q e = (refl, e)
  cut_once [] (d ∷ q) xs ys f g none-p none-q e = absurd (none-p d (lines_of text q ++ ys) (g.0, e ∙ text_of-cons (text d) (map text q) ys))
  cut_once (c ∷ p) [] xs ys f g none-p none-q e = absurd (none-q c (lines_of text p ++ xs) (f.0, sym e ∙ text_of-cons (text c) (map text p) xs))
  cut_once (c ∷ p) (d ∷ q) xs ys f g none-p none-q e =
      let first = line_once (text c) (text d) (lines_of text p ++ xs) (lines_of text q ++ ys) (lines.no_lf c) (lines.no_lf d)
      (sym (text_of-cons (text c) (map text p) xs) ∙ e ∙ text_of-cons (text d) (map text q) ys) in
      let same : c ≡ d = lines.once c d f.0 g.0 first.0 in
      let more = cut_once p q xs ys f.1 g.1 none-p none-q first.1 in
      let rest : p ≡ q = more.0 in
      (cc, more.1)

  spelled_cut : (bytes : List ℕ) (items : List A) → bytes ≡ lines_of text items → bytes ≡ lines_of text items ++ []
  spelled_cut bytes items is = is ∙ sym (append-nil (lines_of text items))

  -- a text is that of one list
  pub spelled_once : (bytes : List ℕ) (p q : List A) → SpellsItems text Fits bytes p → SpellsItems text Fits bytes q → p ≡ q
  spelled_once bytes p q (f, p-is) (g, q-is) =
      (cut_once p q [] [] f g none_of_nothing none_of_nothing (sym (spelled_cut bytes p p-is) ∙ spelled_cut bytes q q-is)).0

  -- and no line of it is bad
  pub none_bad : (bytes : List ℕ) (items : List A) (k : ℕ) → SpellsItems text Fits bytes items → IsFirstBad text Fits bytes k → ⊥
  none_bad bytes items k (f, is) bad =
      bad.some (cut_once bad.before items bad.rest [] bad.each_fits f bad.none_in_front none_of_nothing (sym bad.is_text ∙ spelled_cut bytes items is)).1

  -- the first bad line is one
  pub bad_once : (bytes : List ℕ) (j k : ℕ) → IsFirstBad text Fits bytes j → IsFirstBad text Fits bytes k → j ≡ k
  bad_once bytes j k a b =
      let cut = cut_once a.before b.before a.rest b.rest a.each_fits b.each_fits a.none_in_front b.none_in_front (sym a.is_text ∙ b.is_text) in
      a.line ∙ ap (λ (items : List A). length items + 1) cut.0 ∙ sym b.line
