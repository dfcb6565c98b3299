-- The least of two lists joined.
use Rattle.std.specs.Prelude.{◌≡◌, Bool, true, false, List, [], ◌∷◌, ◌++◌, Option, Some, None, if◌then◌else◌, refl}
use Rattle.std.proofs.Common.{sym, ◌∙◌, ap}
use Rattle.std.specs.declared.cmp.Ordering.{Ordering}
use Rattle.std.specs.Ordering.{is_lt}
use Rattle.std.specs.Cmp.{IsTotalOrder}
use Rattle.line_stamps.specs.Least.{lesser, least_of}
use Rattle.line_stamps.proofs.Order.{lt_trans, not_lt_trans}

module _ {F : Type 0} (R : F → F → Ordering) (o : IsTotalOrder R) where
  pub lesser_assoc : (a b c : Option F) → lesser R (lesser R a b) c ≡ lesser R a (lesser R b c)
  lesser_assoc None b c = refl
  lesser_assoc (Some a) None c = refl
  lesser_assoc (Some a) (Some b) None = refl
  lesser_assoc (Some a) (Some b) (Some c) = go (is_lt (R b a)) (is_lt (R c b)) refl refl
    where
      go : (s t : Bool) → is_lt (R b a) ≡ s → is_lt (R c b) ≡ t → ◌≡◌ {A = Option F} (Some (if is_lt (R c (if s then b else a)) then c else (if s then b else a))) (Some (if is_lt (R (if t then c else b) a) then (if t then c else b) else a))
      go true true p q = ap (λ x. Some (if x then c else b)) q ∙ ap (λ x. Some (if x then c else a)) (sym (lt_trans R o c b a q p))
      go true false p q = ap (λ x. Some (if x then c else b)) q ∙ ap (λ x. Some (if x then b else a)) (sym p)
      go false true p q = refl
      go false false p q = ap (λ x. Some (if x then c else a)) (not_lt_trans R o a b c p q) ∙ ap (λ x. Some (if x then b else a)) (sym p)

  -- the least of two lists joined is the lesser of their least
  pub least_of-append : (xs ys : List F) → least_of R (xs ++ ys) ≡ lesser R (least_of R xs) (least_of R ys)
  least_of-append [] ys = refl
  least_of-append (x ∷ xs) ys = ap (lesser R (Some x)) (least_of-append xs ys) ∙ sym (lesser_assoc (Some x) (least_of R xs) (least_of R ys))
