-- Arrows, made and taken apart.
use Rattle.std.specs.Prelude.{◌≡◌, Bool, true, false, ◌||◌, List, refl, Option, Some, None, ◌⊎◌}
use Rattle.std.specs.Option.{option_map_or}
use Rattle.std.proofs.Common.{◌∙◌, ap, inl, inr}
use Rattle.std.proofs.lemmas.Bool.{or_cases, or_left, or_right}
use Rattle.mem_op.specs.declared.id.OpId.{OpId}
use Rattle.mem_op.specs.Consistency.{Operation, operation_at}
use Rattle.sc_axioms.specs.Axioms.{Candidate, both, po, rf, co, fr, arrow}

module _ (cores : List (List Operation)) (test : Operation → Operation → Bool) (a b : OpId) where
  pub are-both : (y z : Operation) → operation_at cores a ≡ Some y → operation_at cores b ≡ Some z → test y z ≡ true → both cores test a b ≡ true
  are-both y z at_a at_b passes = ap (λ o. option_map_or (λ x. option_map_or (test x) (operation_at cores b) false) o false) at_a ∙ ap (λ o. option_map_or (test y) o false) at_b ∙ passes

  -- the operations of the ids
  pub record Both : Type 0 where
    pub first : Operation
    pub second : Operation
    pub at_first : operation_at cores a ≡ Some first
    pub at_second : operation_at cores b ≡ Some second
    pub passes : test first second ≡ true

  pub both-are : both cores test a b ≡ true → Both
  both-are h = go (operation_at cores a) (operation_at cores b) refl refl h
    where
      go : (o p : Option Operation) → operation_at cores a ≡ o → operation_at cores b ≡ p → option_map_or (λ x. option_map_or (test x) p false) o false ≡ true → Both
      go None p at_a at_b t = absurd cc
      go (Some y) None at_a at_b t = absurd cc
      go (Some y) (Some z) at_a at_b t = record { first = y; second = z; at_first = at_a; at_second = at_b; passes = t }

module _ (cores : List (List Operation)) (e : Candidate) (a b : OpId) where
  pub by_po : po cores a b ≡ true → arrow cores e a b ≡ true
  by_po h = or_left _ (fr cores e a b) (or_left _ (co cores e a b) (or_left (po cores a b) (rf cores e a b) h))

  pub by_rf : rf cores e a b ≡ true → arrow cores e a b ≡ true
  by_rf h = or_left _ (fr cores e a b) (or_left _ (co cores e a b) (or_right (po cores a b) (rf cores e a b) h))

  pub by_co : co cores e a b ≡ true → arrow cores e a b ≡ true
  by_co h = or_left _ (fr cores e a b) (or_right (po cores a b || rf cores e a b) (co cores e a b) h)

  pub by_fr : fr cores e a b ≡ true → arrow cores e a b ≡ true
  by_fr h = or_right (po cores a b || rf cores e a b || co cores e a b) (fr cores e a b) h

  pub arrow-cases : arrow cores e a b ≡ true → ((po cores a b ≡ true) ⊎ (rf cores e a b ≡ true)) ⊎ ((co cores e a b ≡ true) ⊎ (fr cores e a b ≡ true))
  arrow-cases h = elim (or_cases (po cores a b || rf cores e a b || co cores e a b) (fr cores e a b) h) [
    | inr last ↦ inr (inr last)
    | inl t ↦ elim (or_cases (po cores a b || rf cores e a b) (co cores e a b) t) [ inr third ↦ inr (inl third) | inl u ↦ inl (or_cases (po cores a b) (rf cores e a b) u) ]
  ]
