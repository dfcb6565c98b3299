-- Words, each with a space before it: what is read as such is just that, and no two lists of words have one text.
use Rattle.std.proofs.Common.{◌≡◌, ◌≢◌, ℕ, ◌<◌, ◌^◌, true, List, [], ◌∷◌, ◌++◌, length, Option, Some, None, refl, sym, ap, subst, ◌∙◌, arith, append_assoc, append-nil, length-append}
use Rattle.std.specs.Prelude.{codes}
use Rattle.std.specs.List.{AllByRecursion}
use Rattle.std.proofs.lemmas.Bool.{eqb-true}
use Rattle.decimal_text.specs.Numbers.{numeral}
use Rattle.decimal_text.specs.Reading.{◌>>=◌, after, number_at}
use Rattle.decimal_text.proofs.Lines.{NoLf, NoLf-append}
use Rattle.decimal_text.proofs.Numbers.{NoDigit, after_again, after_takes, guard_some, number_again, number_takes}
use Rattle.decimal_text.proofs.Reading.{bind_some, some_is}
use Rattle.text_lines.specs.Fields.{below}
use Rattle.text_lines.specs.Words.{spaced, ends_word, at_end, spaced_number}
use Rattle.text_lines.proofs.Fields.{below_is, below_again}
use Rattle.text_lines.proofs.Items.{each_push}

-- ---- where words end

pub at_end_is : {A : Type 0} (x : A) (rest : List ℕ) (y : A × List ℕ) → at_end x rest ≡ Some y → ((x, rest) ≡ y) × (ends_word rest ≡ true)
at_end_is x rest y e = let g = guard_some (ends_word rest) (x, rest) y e in (g.1, g.0)

pub ends_no_digit : (rest : List ℕ) → ends_word rest ≡ true → NoDigit rest
ends_no_digit [] e = tt
ends_no_digit (b ∷ bs) e = let is : b ≡ 32 = eqb-true b 32 e in rw is refl

-- where the first of words ends
ended : {A : Type 0} (word : A → List ℕ) (x : A) (xs : List A) (rest : List ℕ) → (x ∷ xs ≢ [] → ends_word rest ≡ true) → ends_word (spaced word xs ++ rest) ≡ true
ended word x [] rest ends = ends (λ none. cc)
ended word x (y ∷ xs) rest ends = refl

-- ---- words that are read one by one

-- a word that may come next, and no other can be read in its place
pub record HasWords {A : Type 0} (word : A → List ℕ) (Fits : A → Type 0) (read : List ℕ → Option (A × List ℕ)) : Type 0 where
  pub takes : (bytes : List ℕ) (x : A) (rest : List ℕ) → read bytes ≡ Some (x, rest) → Fits x × (bytes ≡ 32 ∷ (word x ++ rest)) × (ends_word rest ≡ true)
  pub again : (x : A) (rest : List ℕ) → Fits x → ends_word rest ≡ true → read (32 ∷ (word x ++ rest)) ≡ Some (x, rest)

-- the words so far, and the bytes after them
pub record WordsSoFar {A : Type 0} (word : A → List ℕ) (Fits : A → Type 0) (text : List ℕ) (xs : List A) (rest : List ℕ) : Type 0 where
  pub each : AllByRecursion Fits xs
  pub text_is : text ≡ spaced word xs ++ rest
  pub ends : xs ≢ [] → ends_word rest ≡ true

pub no_words : {A : Type 0} (word : A → List ℕ) (Fits : A → Type 0) (text : List ℕ) → WordsSoFar word Fits text [] text
no_words word Fits text = record { each = tt; text_is = refl; ends = λ some. absurd (some refl) }

spaced_push : {A : Type 0} (word : A → List ℕ) (xs : List A) (x : A) (rest : List ℕ) → spaced word (xs ++ x ∷ []) ++ rest ≡ spaced word xs ++ (32 ∷ (word x ++ rest))
spaced_push word [] x rest = ap (λ (ys : List ℕ). 32 ∷ (ys ++ rest)) (append-nil (word x))
spaced_push word (y ∷ xs) x rest =
    append_assoc (32 ∷ word y) (spaced word (xs ++ x ∷ [])) rest
    ∙ ap (λ (ys : List ℕ). 32 ∷ (word y ++ ys)) (spaced_push word xs x rest)
    ∙ sym (append_assoc (32 ∷ word y) (spaced word xs) (32 ∷ (word x ++ rest)))

none_some : {A : Type 0} {x : A} → None ≡ Some x → ⊥
none_some e = cc

module _ {A : Type 0} {word : A → List ℕ} {Fits : A → Type 0} {read : List ℕ → Option (A × List ℕ)} (has : HasWords word Fits read) where
  pub one_more_word : (text rest behind : List ℕ) (xs : List A) (x : A) → WordsSoFar word Fits text xs rest → read rest ≡ Some (x, behind)
      → WordsSoFar word Fits text (xs ++ x ∷ []) behind
  one_more_word text rest behind xs x far e =
      let t = has.takes rest x behind e in
      record {
        each = each_push Fits xs x far.each t.0;
        text_is = far.text_is ∙ ap (λ (ys : List ℕ). spaced word xs ++ ys) t.1 ∙ sym (spaced_push word xs x behind);
        ends = λ some. t.2;
      }

  pub word_shorter : (rest behind : List ℕ) (x : A) → read rest ≡ Some (x, behind) → length behind < length rest
  word_shorter rest behind x e =
      let t = has.takes rest x behind e in
      omega (arith, ap length t.1, length-append (word x) behind)

  -- the word with which words begin, which may go on at the end alone
  first_word : (x : A) (xs : List A) (rest : List ℕ) → Fits x → ends_word (spaced word xs ++ rest) ≡ true
      → read (spaced word (x ∷ xs) ++ rest) ≡ Some (x, spaced word xs ++ rest)
  first_word x xs rest fits ends = ap read (append_assoc (32 ∷ word x) (spaced word xs) rest) ∙ has.again x (spaced word xs ++ rest) fits ends

  -- words with no other behind them stand before bytes in one way only
  pub words_once : (xs ys : List A) (rest more : List ℕ) → AllByRecursion Fits xs → AllByRecursion Fits ys → (xs ≢ [] → ends_word rest ≡ true) → (ys ≢ [] → ends_word more ≡ true)
      → read rest ≡ None → read more ≡ None → spaced word xs ++ rest ≡ spaced word ys ++ more → (xs ≡ ys) × (rest ≡ more)
  words_once [] [] rest more p q ends stops none last e = (refl, e)
  words_once [] (y ∷ ys) rest more p q ends stops none last e =
      absurd (none_some (sym none ∙ ap read e ∙ first_word y ys more q.0 (ended word y ys more stops)))
  words_once (x ∷ xs) [] rest more p q ends stops none last e =
      absurd (none_some (sym last ∙ ap read (sym e) ∙ first_word x xs rest p.0 (ended word x xs rest ends)))
  words_once (x ∷ xs) (y ∷ ys) rest more p q ends stops none last e =
      let same : (x, spaced word xs ++ rest) ≡ (y, spaced word ys ++ more) =
      some_is _ _ (sym (first_word x xs rest p.0 (ended word x xs rest ends)) ∙ ap read e ∙ first_word y ys more q.0 (ended word y ys more stops)) in
      let x-is : x ≡ y = ap (λ (z : A × List ℕ). z.0) same in
      let behind = words_once xs ys rest more p.1 q.1 (λ some. ends (λ none. cc)) (λ some. stops (λ none. cc)) none last (ap (λ (z : A × List ℕ). z.1) same) in
      let xs-is : xs ≡ ys = behind.0 in
      (cc, behind.1)

  -- no word is read of nothing
  none_of_nothing : read [] ≡ None
  none_of_nothing = go (read []) refl
    where
      go : (o : Option (A × List ℕ)) → read [] ≡ o → read [] ≡ None
      go None is = is
      go (Some y) is = let wrong : [] ≡ 32 ∷ (word y.0 ++ y.1) = (has.takes [] y.0 y.1 is).1 in absurd cc

  pub spaced_once : (xs ys : List A) → AllByRecursion Fits xs → AllByRecursion Fits ys → spaced word xs ≡ spaced word ys → xs ≡ ys
  spaced_once xs ys p q e =
      (words_once xs ys [] [] p q (λ some. refl) (λ some. refl) none_of_nothing none_of_nothing (append-nil (spaced word xs) ∙ e ∙ sym (append-nil (spaced word ys)))).0

  -- where no word is read, no words are the text, unless the bytes are at their end
  pub all_words : (text rest : List ℕ) (xs ys : List A) → WordsSoFar word Fits text xs rest → read rest ≡ None → AllByRecursion Fits ys
      → text ≡ spaced word ys → (rest ≡ []) × (xs ≡ ys)
  all_words text rest xs ys far none each is =
      let once = words_once xs ys rest [] far.each each far.ends (λ some. refl) none none_of_nothing (sym far.text_is ∙ is ∙ sym (append-nil (spaced word ys))) in
      (once.1, once.0)

-- ---- numbers

number_takes_word : (bytes : List ℕ) (x : ℕ × List ℕ) → spaced_number bytes ≡ Some x → (x.0 < 2 ^ 64) × (bytes ≡ 32 ∷ (numeral x.0 ++ x.1)) × (ends_word x.1 ≡ true)
unfolding spaced_number
number_takes_word bytes x e =
    let n = bind_some (after (codes " ") bytes >>= number_at) _ x e in
    let space = bind_some (after (codes " ") bytes) number_at n.0 n.1 in
    let number = bind_some (below (2 ^ 64) n.0.0) _ x n.2 in
    let g = below_is (2 ^ 64) n.0.0 number.0 number.1 in
    let end = at_end_is number.0 n.0.1 x number.2 in
    let text : bytes ≡ 32 ∷ (numeral number.0 ++ n.0.1) =
    after_takes (codes " ") bytes space.0 space.1 ∙ ap (λ (r : List ℕ). 32 ∷ r) (number_takes space.0 n.0 space.2) ∙ ap (λ (k : ℕ). 32 ∷ (numeral k ++ n.0.1)) g.0 in
    subst (λ (y : ℕ × List ℕ). (y.0 < 2 ^ 64) × (bytes ≡ 32 ∷ (numeral y.0 ++ y.1)) × (ends_word y.1 ≡ true)) end.0 (g.1, text, end.1)

number_again_word : (n : ℕ) (rest : List ℕ) → n < 2 ^ 64 → ends_word rest ≡ true → spaced_number (32 ∷ (numeral n ++ rest)) ≡ Some (n, rest)
unfolding spaced_number
number_again_word n rest lt ends =
    rw (after_again (codes " ") (numeral n ++ rest), number_again n rest (ends_no_digit rest ends), below_again (2 ^ 64) n lt, ends) refl

pub numbers_are_words : HasWords numeral (λ n. n < 2 ^ 64) spaced_number
numbers_are_words = record { takes = λ bytes x rest e. number_takes_word bytes (x, rest) e; again = number_again_word }

-- ---- no line feed

pub spaced_no_lf : {A : Type 0} (word : A → List ℕ) → ((x : A) → NoLf (word x)) → (xs : List A) → NoLf (spaced word xs)
spaced_no_lf word none [] = tt
spaced_no_lf word none (x ∷ xs) = (refl, NoLf-append (word x) (spaced word xs) (none x) (spaced_no_lf word none xs))
