-- The cases that wait.
use Rattle.std.proofs.lemmas.Grind.{common_steps}
use Rattle.std.specs.Prelude.{◌≡◌, ℕ, ◌≤◌, List, [], ◌∷◌, ◌++◌, refl, map, length, take, reverse}
use Rattle.std.proofs.Common.{sym, ◌∙◌, ap, subst, arith}
use Rattle.std.proofs.lemmas.List.{take-append-le, take-take, length-take, take_all, reverse-append}
use Rattle.refutation.specs.declared.fact.Fact.{Fact}
use Rattle.refutation.specs.Refuting.{split}
use Rattle.refutation.specs.declared.cases.Waiting.{Waiting}
use Rattle.refutation.specs.inner.Waiting.{AreNested, cases_of, waiting_on}

-- the facts in force in each of these, the first of them first
abbrev on : List Fact → List Waiting → List (List Fact)
on facts ws = map (λ w. take w.kept facts ++ w.fact ∷ []) ws

nested-added : (n : ℕ) (given : List Fact) (ws : List Waiting) → AreNested n ws → AreNested n (map (waiting_on n) given ++ ws)
nested-added n [] ws nested = nested
nested-added n (fact ∷ given) ws nested = (omega arith, nested-added n given ws nested)

nested-weak : (m n : ℕ) (ws : List Waiting) → m ≤ n → AreNested m ws → AreNested n ws
nested-weak m n [] l nested = tt
nested-weak m n (w ∷ ws) l nested = (let k = nested.0 in omega arith, nested.1)

on-added : (facts given : List Fact) (ws : List Waiting) → on facts (map (waiting_on (length facts)) given ++ ws) ≡ split facts given ++ on facts ws
on-added facts [] ws = refl
on-added facts (fact ∷ given) ws =
    let all : take (length facts) facts ≡ facts = take_all (length facts) facts (omega arith) in
    let more = on-added facts given ws in
    cc

on-same : (k : ℕ) (facts more : List Fact) (ws : List Waiting) → k ≤ length facts → AreNested k ws → on (take k facts ++ more) ws ≡ on facts ws
on-same k facts more [] l nested = refl
on-same k facts more (w ∷ ws) l nested =
    let low = nested.0 in
    let size = length-take k facts in
    let first : take w.kept (take k facts ++ more) ≡ take w.kept facts = take-append-le w.kept (take k facts) more (omega arith) ∙ take-take w.kept k facts low in
    let rest = on-same k facts more ws l (nested-weak w.kept k ws low nested.1) in
    cc

module _ (facts given : List Fact) (waiting rest : List Waiting) (case : Waiting) (nested : AreNested (length facts) (reverse waiting)) (popped : reverse (rest ++ case ∷ []) ≡ map (waiting_on (length facts)) given ++ reverse waiting) where
  now-kept : map (waiting_on (length facts)) given ++ reverse waiting ≡ case ∷ reverse rest
  now-kept = sym popped ∙ reverse-append rest (case ∷ [])

  now-nested : (case.kept ≤ length facts) × AreNested case.kept (reverse rest)
  now-nested = subst (AreNested (length facts)) now-kept (nested-added (length facts) given (reverse waiting) nested)

  pub next_nested : AreNested (length (take case.kept facts ++ case.fact ∷ [])) (reverse rest)
  next_nested = grind (arith, common_steps, now-nested, length-take, nested-weak)

  pub next_cases : split facts given ++ cases_of facts waiting ≡ (take case.kept facts ++ case.fact ∷ []) ∷ cases_of (take case.kept facts ++ case.fact ∷ []) rest
  next_cases =
      sym (on-added facts given (reverse waiting)) ∙ ap (on facts) now-kept
      ∙ ap (λ cases. (take case.kept facts ++ case.fact ∷ []) ∷ cases) (sym (on-same case.kept facts (case.fact ∷ []) (reverse rest) now-nested.0 now-nested.1))
