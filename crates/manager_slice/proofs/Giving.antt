-- The line that gives way is one of the lines.
use Rattle.std.proofs.Common.{◌≡◌, ◌≢◌, ℕ, ◌-◌, Bool, true, false, List, [], ◌∷◌, length, Contains, nat_eq, refl, ap, subst, inl, inr, arith}
use Rattle.std.specs.Prelude.{Option, Some, None, IfSome, find, reverse}
use Rattle.std.specs.Cmp.{nat_eq_equiv}
use Rattle.std.specs.List.{IsDistinct}
use Rattle.std.specs.Map.{lookup, keys_of}
use Rattle.std.proofs.lemmas.List.{reverse-reverse}
use Rattle.std.proofs.lemmas.List.Sorted.{Contains-permutation, IsPermutation-reverse}
use Rattle.std.proofs.lemmas.Bool.{eqb-true}
use Rattle.std.proofs.lemmas.Map.Views.{Contains-from_lookup, lookup-from_Contains}
use Rattle.line_stamps.specs.declared.line.Line.{Line}
use Rattle.manager_slice.specs.declared.managed.ManagedLine.TheVariants.{Shared, Exclusive}
use Rattle.std.proofs.lemmas.Option.{slice_get_within, slice_get-get_or, get_or_from_slice_get}
use Rattle.lru.proofs.Splits.{Contains-head, Contains-tail, Contains-cons, Contains-nil}
use Rattle.lru.specs.LruCache.{last_entry}
use Rattle.manager_slice.specs.Lines.{is_shared, last_shared, giving_way}
use Rattle.manager_slice.specs.declared.managed.ManagedLine.{ManagedLine}

-- what is found is an element that passes
found : {X : Type 0} (p : X → Bool) (xs : List X) (x : X) → find p xs ≡ Some x → Contains xs x × (p x ≡ true)
found p [] x h = absurd cc
found p (y ∷ ys) x h = (elim (p y) as (λ b. p y ≡ b → Contains (y ∷ ys) x × (p x ≡ true)) [
  | true ↦ λ t. let h' = rw t at h in let same : y ≡ x = cc in (subst (Contains (y ∷ ys)) same (Contains-head y ys), subst (λ z. p z ≡ true) same t)
  | false ↦ λ t. let rest = found p ys x (rw t at h) in (Contains-tail y ys x rest.0, rest.1)
]) refl

-- where none is found, no element passes
none_passes : {X : Type 0} (p : X → Bool) (xs : List X) → find p xs ≡ None → (x : X) → Contains xs x → p x ≡ false
none_passes p [] h x c = absurd (Contains-nil x c)
none_passes p (y ∷ ys) h x c = (elim (p y) as (λ b. p y ≡ b → p x ≡ false) [
  | true ↦ λ t. let h' = rw t at h in absurd cc
  | false ↦ λ t. elim (Contains-cons y ys x c) [
    | inl same ↦ subst (λ z. p z ≡ false) same t
    | inr d ↦ none_passes p ys (rw t at h) x d
  ]
]) refl

in_reverse : {X : Type 0} (xs : List X) (x : X) → Contains (reverse xs) x → Contains xs x
in_reverse xs x c = subst (λ ys. Contains ys x) (reverse-reverse xs) (Contains-permutation (reverse xs) (reverse (reverse xs)) x (IsPermutation-reverse (reverse xs)) c)

in_list : {V : Type 0} (xs : List (ℕ × V)) (x : ℕ × V) → last_entry xs ≡ Some x → Contains xs x
in_list xs x h = (length xs - 1, slice_get_within xs (length xs - 1) x h, get_or_from_slice_get xs (length xs - 1) x x h)

same_key : (x y : ℕ) → nat_eq x y ≡ true → x ≡ y
same_key x y h = eqb-true x y h

no_last : {V : Type 0} (es : List (ℕ × V)) → last_entry es ≡ None → es ≡ []
no_last [] h = refl
no_last (e ∷ es) h = let last = slice_get-get_or (e ∷ es) (length (e ∷ es) - 1) e (omega arith) in absurd cc

module _ (es : List (ℕ × ManagedLine)) where
  -- one that gives way is there
  pub Contains-giving_way : (e : ℕ × ManagedLine) → giving_way es ≡ Some e → Contains es e
  Contains-giving_way e h = go (last_shared es) refl
    where
      go : (o : Option (ℕ × ManagedLine)) → last_shared es ≡ o → Contains es e
      go None i = in_list es e (rw i at h)
      go (Some f) i = let h' = rw i at h in let same : f ≡ e = cc in subst (Contains es) same (in_reverse es f (found (λ e. is_shared e.1) (reverse es) f i).0)

  pub lookup-giving_way : IsDistinct nat_eq (keys_of es) → (e : ℕ × ManagedLine) → giving_way es ≡ Some e → lookup (nat_eq e.0) es ≡ Some e.1
  lookup-giving_way d e h = lookup-from_Contains nat_eq_equiv e.0 e.1 es d (Contains-giving_way e h)

  pub IfSome-giving_way : IsDistinct nat_eq (keys_of es) → IfSome (giving_way es) (λ e. lookup (nat_eq e.0) es ≡ Some e.1)
  IfSome-giving_way d = go (giving_way es) refl
    where
      go : (o : Option (ℕ × ManagedLine)) → giving_way es ≡ o → IfSome o (λ e. lookup (nat_eq e.0) es ≡ Some e.1)
      go None i = tt
      go (Some e) i = lookup-giving_way d e i

  -- where an Exclusive line has to give way, none is Shared
  pub none_shared : (b o : ℕ) → giving_way es ≡ Some (b, Exclusive o) → (a : ℕ) (l : Line) → lookup (nat_eq a) es ≢ Some (Shared l)
  none_shared b o h a l k = go (last_shared es) refl
    where
      at_a : Contains (reverse es) (a, Shared l)
      at_a = Contains-permutation es (reverse es) (a, Shared l) (IsPermutation-reverse es) (Contains-from_lookup same_key a (Shared l) es k)

      go : (p : Option (ℕ × ManagedLine)) → last_shared es ≡ p → ⊥
      go None i = let no = none_passes (λ (e : ℕ × ManagedLine). is_shared e.1) (reverse es) i (a, Shared l) at_a in cc
      go (Some (v, Shared k)) i =
          let h' = rw i at h in
          let same : ◌≡◌ {A = ℕ × ManagedLine} (v, Shared k) (b, Exclusive o) = cc in
          let bad : true ≡ false = ap (λ (e : ℕ × ManagedLine). is_shared e.1) same in cc
      go (Some (v, Exclusive k)) i = let no = (found (λ (e : ℕ × ManagedLine). is_shared e.1) (reverse es) (v, Exclusive k) i).1 in cc

  -- where no line can give way, there is none
  pub no_lines : giving_way es ≡ None → es ≡ []
  no_lines h = go (last_shared es) refl
    where
      go : (p : Option (ℕ × ManagedLine)) → last_shared es ≡ p → es ≡ []
      go None i = no_last es (rw i at h)
      go (Some e) i = let h' = rw i at h in absurd cc
