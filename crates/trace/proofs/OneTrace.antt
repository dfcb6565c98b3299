-- Bytes are the text of one trace at most.
use Rattle.std.proofs.Common.{◌≡◌, ℕ, List, [], ◌∷◌, refl, sym, ap, ◌∙◌}
use Rattle.std.specs.List.{AllZip}
use Rattle.trace.specs.declared.line.TraceLine.{TraceLine}
use Rattle.trace.specs.Grammar.{IsLine}
use Rattle.trace.specs.Laws.{SpellsOne}
use Rattle.trace.specs.Texts.{trace_of}
use Rattle.trace.proofs.LineTexts.{line_once}

pub says_once : (ls : List (List ℕ)) (a b : List TraceLine) → AllZip IsLine ls a → AllZip IsLine ls b → a ≡ b
says_once [] [] [] p q = refl
says_once [] [] (y ∷ b) p q = absurd q
says_once [] (x ∷ a) b p q = absurd p
says_once (l ∷ ls) [] b p q = absurd p
says_once (l ∷ ls) (x ∷ a) [] p q = absurd q
says_once (l ∷ ls) (x ∷ a) (y ∷ b) p q =
    let first : x ≡ y = line_once l x y p.0 q.0 in
    let rest : a ≡ b = says_once ls a b p.1 q.1 in
    ap (λ z. z ∷ a) first ∙ ap (λ zs. y ∷ zs) rest

pub spells_one : SpellsOne
spells_one bytes p q a b = a.trace ∙ ap trace_of (says_once _ a.said b.said a.says b.says) ∙ sym b.trace
