-- What follows from the laws of a total order, of the test that one comes before another.
use Rattle.std.specs.Prelude.{◌≡◌, true, false, refl, ◌⊎◌}
use Rattle.std.proofs.Common.{sym, ◌∙◌, ap, inl, inr}
use Rattle.std.specs.declared.cmp.Ordering.{Ordering}
use Rattle.std.specs.declared.cmp.Ordering.TheVariants.{Less, Equal, Greater}
use Rattle.std.specs.Ordering.{is_lt, ordering_reverse}
use Rattle.std.specs.Cmp.{IsTotalOrder}

less_from_is_lt : (o : Ordering) → is_lt o ≡ true → o ≡ Less
less_from_is_lt Less h = refl
less_from_is_lt Equal h = cc
less_from_is_lt Greater h = cc

pub three_cases : (o : Ordering) → (o ≡ Less) ⊎ ((o ≡ Equal) ⊎ (o ≡ Greater))
three_cases Less = inl refl
three_cases Equal = inr (inl refl)
three_cases Greater = inr (inr refl)

module _ {K : Type 0} (R : K → K → Ordering) (o : IsTotalOrder R) where
  pub lt_irrefl : (x : K) → is_lt (R x x) ≡ false
  lt_irrefl x = go (R x x) (o.antisymm x x)
    where
      go : (r : Ordering) → r ≡ ordering_reverse r → is_lt r ≡ false
      go Less h = cc
      go Equal h = refl
      go Greater h = refl

  pub lt_trans : (x y z : K) → is_lt (R x y) ≡ true → is_lt (R y z) ≡ true → is_lt (R x z) ≡ true
  lt_trans x y z p q = ap is_lt (o.trans x y z (less_from_is_lt (R x y) p) (less_from_is_lt (R y z) q))

  pub reversed : (x y : K) → R x y ≡ Greater → R y x ≡ Less
  reversed x y h = o.antisymm y x ∙ ap ordering_reverse h

  pub lt_asym : (x y : K) → is_lt (R x y) ≡ true → is_lt (R y x) ≡ false
  lt_asym x y p = ap is_lt (o.antisymm y x ∙ ap ordering_reverse (less_from_is_lt (R x y) p))

  -- one before the other, or tied
  pub lt_cases : (x y : K) → (is_lt (R x y) ≡ true) ⊎ ((R x y ≡ Equal) ⊎ (is_lt (R y x) ≡ true))
  lt_cases x y = elim (three_cases (R x y)) [ inl h ↦ inl (ap is_lt h) | inr t ↦ elim t [ inl h ↦ inr (inl h) | inr h ↦ inr (inr (ap is_lt (reversed x y h))) ] ]

  pub not_lt_trans : (x y z : K) → is_lt (R y x) ≡ false → is_lt (R z y) ≡ false → is_lt (R z x) ≡ false
  not_lt_trans x y z p q = go (R z x) refl
    where
      go : (r : Ordering) → R z x ≡ r → is_lt r ≡ false
      go Equal h = refl
      go Greater h = refl
      go Less h = elim (three_cases (R y x)) [
        | inl e ↦ (let f : true ≡ false = sym (ap is_lt e) ∙ p in cc)
        | inr t ↦ elim t [
          | inl e ↦ (let f : is_lt (R z y) ≡ true = ap is_lt (go2 e h) in cc (f, q))
          | inr e ↦ (let f : is_lt (R z y) ≡ true = ap is_lt (o.trans z x y h (reversed y x e)) in cc (f, q))
        ]
      ]
        where
          go2 : R y x ≡ Equal → R z x ≡ Less → R z y ≡ Less
          go2 e h' = ap (λ r. r) (o.antisymm z y ∙ ap ordering_reverse (o.congr y x z e) ∙ sym (o.antisymm z x)) ∙ h'
