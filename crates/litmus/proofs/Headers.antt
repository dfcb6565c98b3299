-- The first line of a test: what is read as one is one, and it is read again.
use Rattle.std.proofs.Common.{◌≡◌, ℕ, suc, ◌≤◌, Bool, true, false, cond, if◌then◌else◌, ◌&&◌, ◌==◌, eqb, leb, List, [], ◌∷◌, ◌++◌, length, take, drop, Some, None, refl, sym, ap, subst, ◌∙◌, arith, inl, inr}
use Rattle.std.specs.Prelude.{codes}
use Rattle.std.specs.List.{AllByRecursion}
use Rattle.std.proofs.lemmas.Bool.{cases_Bool, cond-true, cond-false, eqb-true, eqb-false, ne_eqb, and_parts, leb-true}
use Rattle.std.proofs.lemmas.List.{take-append-drop}
use Rattle.decimal_text.specs.Numbers.{numeral}
use Rattle.decimal_text.specs.Reading.{◌>>=◌, after, field_at, last_number}
use Rattle.decimal_text.proofs.Lines.{NoLf, NoLf-append, const_no_lf, numeral_no_lf}
use Rattle.decimal_text.proofs.Numbers.{after_again, after_takes, guard_some}
use Rattle.decimal_text.proofs.Reading.{bind_some, field_again, field_takes, last_again, last_takes, some_is}
use Rattle.core_program.specs.declared.format.ProgramFormat.{ProgramFormat}
use Rattle.core_program.specs.declared.format.ProgramFormat.TheVariants.{One, Two}
use Rattle.core_program.specs.Grammar.{format_number}
use Rattle.litmus.specs.TestGrammar.{header_text, is_name_byte, IsName}
use Rattle.litmus.specs.inner.Reading.{cores_at, format_at, format_of, head_of, head_text, name_at, name_len, HeadParts, IsHead}
use Rattle.text_lines.specs.Fields.{below}
use Rattle.text_lines.proofs.Fields.{below_again, below_is, number_no_lf}

-- ---- names

name_part : (bytes : List ℕ) → AllByRecursion (λ b. is_name_byte b ≡ true) (take (name_len bytes) bytes) × (length (take (name_len bytes) bytes) ≡ name_len bytes)
name_part [] = (tt, refl)
name_part (b ∷ bs) = go (is_name_byte b) refl (name_part bs)
  where
    go : (t : _) → is_name_byte b ≡ t → AllByRecursion (λ c. is_name_byte c ≡ true) (take (name_len bs) bs) × (length (take (name_len bs) bs) ≡ name_len bs)
        → AllByRecursion (λ c. is_name_byte c ≡ true) (take (cond t (suc (name_len bs)) 0) (b ∷ bs)) × (length (take (cond t (suc (name_len bs)) 0) (b ∷ bs)) ≡ cond t (suc (name_len bs)) 0)
    go true is p = ((is, p.0), ap suc p.1)
    go false is p = (tt, refl)

name_takes : (bytes : List ℕ) (x : List ℕ × List ℕ) → name_at bytes ≡ Some x → IsName x.0 × (bytes ≡ x.0 ++ x.1)
name_takes bytes x e =
    let cut : List ℕ × List ℕ = (take (name_len bytes) bytes, drop (name_len bytes) bytes) in
    let g = guard_some (leb 1 (name_len bytes) && leb (name_len bytes) 32) cut x e in
    let size = and_parts (leb 1 (name_len bytes)) (leb (name_len bytes) 32) g.0 in
    let p = name_part bytes in
    let some = leb-true 1 (name_len bytes) size.0 in
    let few = leb-true (name_len bytes) 32 size.1 in
    subst (λ (y : List ℕ × List ℕ). IsName y.0 × (bytes ≡ y.0 ++ y.1)) g.1
    (record { some = omega (arith, p.1, some); few = omega (arith, p.1, few); each = p.0 }, sym (take-append-drop (name_len bytes) bytes))

-- a name and then a space
name_again : (name rest : List ℕ) → AllByRecursion (λ b. is_name_byte b ≡ true) name → name_len (name ++ 32 ∷ rest) ≡ length name
name_again [] rest each = refl
name_again (b ∷ name) rest each = rw (each.0, name_again name rest each.1) refl

name_taken : (name rest : List ℕ) → (take (length name) (name ++ rest) ≡ name) × (drop (length name) (name ++ rest) ≡ rest)
name_taken [] rest = (refl, refl)
name_taken (b ∷ name) rest = let t = name_taken name rest in (ap (λ (bs : List ℕ). b ∷ bs) t.0, t.1)

name_at_again : (name rest : List ℕ) → IsName name → name_at (name ++ 32 ∷ rest) ≡ Some (name, 32 ∷ rest)
name_at_again name rest is =
    let t = name_taken name (32 ∷ rest) in
    rw (name_again name rest is.each, low (length name) is.some, high (length name) is.few, t.0, t.1) refl
  where
    low : (k : ℕ) → 1 ≤ k → leb 1 k ≡ true
    low k le = search arith

    high : (k : ℕ) → k ≤ 32 → leb k 32 ≡ true
    high k le = search arith

name_no_lf : (name : List ℕ) → AllByRecursion (λ b. is_name_byte b ≡ true) name → NoLf name
name_no_lf [] each = tt
name_no_lf (b ∷ name) each =
    (ne_eqb b 10 (λ e. let wrong : is_name_byte 10 ≡ true = subst (λ (c : ℕ). is_name_byte c ≡ true) e each.0 in cc), name_no_lf name each.1)

-- ---- numbers of cores and formats

-- a number of cores in range
counted : (n k : ℕ) → (if n == 0 then None else below 65 n) ≡ Some k → (n ≡ k) × (1 ≤ k) × (k ≤ 64)
counted n k e =
    elim (cases_Bool (eqb n 0)) [
      | inl none ↦ let wrong : None ≡ Some k = sym (cond-true (eqb n 0) None (below 65 n) none) ∙ e in absurd cc
      | inr other ↦
          let g = below_is 65 n k (sym (cond-false (eqb n 0) None (below 65 n) other) ∙ e) in
          let some = eqb-false n 0 other in
          (g.0, omega (arith, g.0, some), omega (arith, g.1))
    ]

cores_takes : (bytes : List ℕ) (n : ℕ) → cores_at bytes ≡ Some n → (1 ≤ n) × (n ≤ 64) × (bytes ≡ codes " cores " ++ numeral n)
unfolding cores_at
cores_takes bytes n e =
    let b = bind_some (after (codes " cores ") bytes >>= last_number) _ n e in
    let a = bind_some (after (codes " cores ") bytes) last_number b.0 b.1 in
    let c = counted b.0 n b.2 in
    (c.1, c.2, after_takes (codes " cores ") bytes a.0 a.1 ∙ ap (λ (r : List ℕ). codes " cores " ++ r) (last_takes a.0 b.0 a.2 ∙ ap numeral c.0))

cores_again : (n : ℕ) → 1 ≤ n → n ≤ 64 → cores_at (codes " cores " ++ numeral n) ≡ Some n
unfolding cores_at
cores_again n some few =
    rw (after_again (codes " cores ") (numeral n), last_again n)
    (cond-false (eqb n 0) None (below 65 n) (ne_eqb n 0 (λ e. omega (arith, e))) ∙ below_again 65 n (omega arith))

format_takes : (n : ℕ) (format : ProgramFormat) → format_of n ≡ Some format → n ≡ format_number format
format_takes n format e = go (eqb n 1) refl e
  where
    go : (b : Bool) → eqb n 1 ≡ b → (if b then Some One else (if n == 2 then Some Two else None)) ≡ Some format → n ≡ format_number format
    go true is e = eqb-true n 1 is ∙ ap format_number (some_is One format e)
    go false is e = let g = guard_some (eqb n 2) Two format e in eqb-true n 2 g.0 ∙ ap format_number g.1

format_again : (format : ProgramFormat) → format_of (format_number format) ≡ Some format
format_again One = refl
format_again Two = refl

-- ---- the line

pub header_no_lf : (format : ℕ) (name : List ℕ) (cores : ℕ) → IsName name → NoLf (header_text format name cores)
unfolding header_text
header_no_lf format name cores is =
    let behind = codes " cores " ++ numeral cores in
    NoLf-append (codes "tardis-litmus ") (numeral format ++ 32 ∷ (name ++ behind)) (const_no_lf (codes "tardis-litmus ") refl)
    (number_no_lf format (name ++ behind) (NoLf-append name behind (name_no_lf name is.each)
    (NoLf-append (codes " cores ") (numeral cores) (const_no_lf (codes " cores ") refl) (numeral_no_lf cores))))

pub head_no_lf : (h : HeadParts) → IsHead h → NoLf (head_text h)
head_no_lf h is = header_no_lf (format_number h.format) h.name h.cores is.is_name

front_takes : (line : List ℕ) (x : ProgramFormat × List ℕ) → format_at line ≡ Some x → line ≡ codes "tardis-litmus " ++ (numeral (format_number x.0) ++ 32 ∷ x.1)
unfolding format_at
front_takes line x e =
    let number = bind_some (after (codes "tardis-litmus ") line >>= field_at 32) _ x e in
    let front = bind_some (after (codes "tardis-litmus ") line) (field_at 32) number.0 number.1 in
    let format = bind_some (format_of number.0.0) _ x number.2 in
    subst (λ (y : ProgramFormat × List ℕ). line ≡ codes "tardis-litmus " ++ (numeral (format_number y.0) ++ 32 ∷ y.1)) (some_is (format.0, number.0.1) x format.2)
    (after_takes (codes "tardis-litmus ") line front.0 front.1
    ∙ ap (λ (r : List ℕ). codes "tardis-litmus " ++ r) (field_takes 32 front.0 number.0 front.2 ∙ ap (λ (n : ℕ). numeral n ++ 32 ∷ number.0.1) (format_takes number.0.0 format.0 format.1)))

pub head_takes : (line : List ℕ) (h : HeadParts) → head_of line ≡ Some h → IsHead h × (line ≡ head_text h)
unfolding head_of header_text
head_takes line h e =
    let front = bind_some (format_at line) _ h e in
    let name = bind_some (name_at front.0.1) _ h front.2 in
    let cores = bind_some (cores_at name.0.1) _ h name.2 in
    let found : HeadParts = record { format = front.0.0; name = name.0.0; cores = cores.0 } in
    let named = name_takes front.0.1 name.0 name.1 in
    let rest = cores_takes name.0.1 cores.0 cores.1 in
    let text : line ≡ codes "tardis-litmus " ++ (numeral (format_number front.0.0) ++ 32 ∷ (name.0.0 ++ (codes " cores " ++ numeral cores.0))) =
    front_takes line front.0 front.1
    ∙ ap (λ (r : List ℕ). codes "tardis-litmus " ++ (numeral (format_number front.0.0) ++ 32 ∷ r)) (named.1 ∙ ap (λ (r : List ℕ). name.0.0 ++ r) rest.2) in
    subst (λ (x : HeadParts). IsHead x × (line ≡ head_text x)) (some_is found h cores.2) (record { is_name = named.0; some = rest.0; few = rest.1 }, text)

head_again : (h : HeadParts) → IsHead h → head_of (head_text h) ≡ Some h
unfolding head_of format_at header_text
head_again h is =
    let behind = h.name ++ (codes " cores " ++ numeral h.cores) in
    rw (
      after_again (codes "tardis-litmus ") (numeral (format_number h.format) ++ 32 ∷ behind),
      field_again 32 (format_number h.format) behind refl,
      format_again h.format,
      name_at_again h.name (codes "cores " ++ numeral h.cores) is.is_name,
      cores_again h.cores is.some is.few,
    ) refl

pub head_once : (g h : HeadParts) → IsHead g → IsHead h → head_text g ≡ head_text h → g ≡ h
head_once g h p q e = some_is g h (sym (head_again g p) ∙ ap head_of e ∙ head_again h q)

pub no_head : (line : List ℕ) → None ≡ head_of line → (h : HeadParts) → IsHead h → line ≡ head_text h → ⊥
no_head line none h is same = let wrong : None ≡ Some h = none ∙ ap head_of same ∙ head_again h is in cc
