-- Lines with their line feeds: bytes are lines in one way only.
use Rattle.std.proofs.Common.{◌≡◌, ℕ, suc, false, eqb, List, [], ◌∷◌, ◌++◌, refl, sym, ap, subst, ◌∙◌, arith, append_assoc}
use Rattle.decimal_text.proofs.Lines.{NoLf}
use Rattle.text_lines.specs.Lines.{IsOneLine, text_of}

no_lf_from : (xs : List ℕ) → IsOneLine xs → NoLf xs
no_lf_from [] one = tt
no_lf_from (x ∷ xs) one = (one 0 x (omega arith), no_lf_from xs (λ k d lt. one (suc k) d (omega arith)))

-- a line feed in a text without one
no_feed : (xs line rest : List ℕ) → NoLf xs → xs ≡ line ++ 10 ∷ rest → ⊥
no_feed [] [] rest none e = cc
no_feed [] (b ∷ line) rest none e = cc
no_feed (x ∷ xs) [] rest none e = let is : x ≡ 10 = cc in let wrong : eqb 10 10 ≡ false = subst (λ (b : ℕ). eqb b 10 ≡ false) is none.0 in cc
no_feed (x ∷ xs) (b ∷ line) rest none e = no_feed xs line rest none.1 cc

-- the first line of bytes is one line
pub line_once : (l m xs ys : List ℕ) → NoLf l → NoLf m → l ++ 10 ∷ xs ≡ m ++ 10 ∷ ys → (l ≡ m) × (xs ≡ ys)
line_once [] [] xs ys p q e = (refl, cc)
line_once [] (b ∷ m) xs ys p q e = let is : b ≡ 10 = cc in let wrong : eqb 10 10 ≡ false = subst (λ (c : ℕ). eqb c 10 ≡ false) is q.0 in absurd cc
line_once (b ∷ l) [] xs ys p q e = let is : b ≡ 10 = cc in let wrong : eqb 10 10 ≡ false = subst (λ (c : ℕ). eqb c 10 ≡ false) is p.0 in absurd cc
line_once (b ∷ l) (c ∷ m) xs ys p q e =
    let first : b ≡ c = cc in
    let more = line_once l m xs ys p.1 q.1 cc in
    let rest : l ≡ m = more.0 in
    (cc, more.1)

-- no line comes first where no line feed is there
pub no_line : (bytes line rest : List ℕ) → IsOneLine bytes → bytes ≡ line ++ 10 ∷ rest → ⊥
no_line bytes line rest one is = no_feed bytes line rest (no_lf_from bytes one) is

-- a line where the first line is another
pub first_line : (bytes line behind wanted rest : List ℕ) → IsOneLine line → NoLf wanted → bytes ≡ line ++ 10 ∷ behind
    → bytes ≡ wanted ++ 10 ∷ rest → line ≡ wanted
first_line bytes line behind wanted rest one none is there =
    (line_once line wanted behind rest (no_lf_from line one) none (sym is ∙ there)).0

-- a line before lines
pub text_of-cons : (line : List ℕ) (lines : List (List ℕ)) (rest : List ℕ) → text_of (line ∷ lines) ++ rest ≡ line ++ 10 ∷ (text_of lines ++ rest)
text_of-cons line lines rest = append_assoc (line ++ 10 ∷ []) (text_of lines) rest ∙ append_assoc line (10 ∷ []) (text_of lines ++ rest)

pub text_of-append : (front back : List (List ℕ)) → text_of (front ++ back) ≡ text_of front ++ text_of back
text_of-append [] back = refl
text_of-append (line ∷ front) back =
    ap (λ (xs : List ℕ). (line ++ 10 ∷ []) ++ xs) (text_of-append front back) ∙ sym (append_assoc (line ++ 10 ∷ []) (text_of front) (text_of back))
