-- When two ids are one, and how often a test passes along a list.
use Rattle.std.specs.Prelude.{◌≡◌, ℕ, ◌+◌, Bool, true, false, cond, ◌==◌, List, [], ◌∷◌, refl, count_by}
use Rattle.std.proofs.Common.{◌∙◌, ap, inl, inr, arith}
use Rattle.std.proofs.lemmas.Bool.{and_parts, and_from, eqb-true, eq-eqb, false_from_ne_true}
use Rattle.std.proofs.lemmas.List.Sums.{sum_by-cons}
use Rattle.mem_op.specs.declared.id.OpId.{OpId}
use Rattle.mem_op.specs.Consistency.{is_same_id}
use Rattle.line_stamps.specs.Ordered.{In, EachPair}

-- ids of the same core and index are one
pub same_id : (a b : OpId) → a.core ≡ b.core → a.index ≡ b.index → a ≡ b
same_id a b p q = λ i. record { core = p i; index = q i }

pub same_id-true : (a b : OpId) → is_same_id a b ≡ true → a ≡ b
same_id-true a b h = let t = and_parts (a.core == b.core) (a.index == b.index) h in same_id a b (eqb-true _ _ t.0) (eqb-true _ _ t.1)

pub same_id-refl : (a : OpId) → is_same_id a a ≡ true
same_id-refl a = and_from (a.core == a.core) (a.index == a.index) (eq-eqb _ _ refl) (eq-eqb _ _ refl)

-- ---- counts

abbrev pub one_if : Bool → ℕ
one_if b = cond b 1 0

-- a test that no two elements pass both counts 1 where one passes, and 0 where none does
pub count_none : {X : Type 0} (p : X → Bool) (xs : List X) → ((x : X) → In x xs → p x ≡ false) → count_by p xs ≡ 0
count_none p [] h = refl
count_none p (x ∷ xs) h =
    let f : count_by p (x ∷ xs) ≡ one_if (p x) + count_by p xs = sum_by-cons (λ y. one_if (p y)) x xs in
    let g : one_if (p x) ≡ 0 = ap one_if (h x (inl refl)) in
    let ih : count_by p xs ≡ 0 = count_none p xs (λ y q. h y (inr q)) in
    omega arith

pub count_one : {X : Type 0} (p : X → Bool) (xs : List X) (x : X) → EachPair (λ a b. p a ≡ true → p b ≡ true → ⊥) xs → In x xs → p x ≡ true → count_by p xs ≡ 1
count_one p [] x h q t = absurd q
count_one p (y ∷ ys) x h (inl e) t =
    let f : count_by p (y ∷ ys) ≡ one_if (p y) + count_by p ys = sum_by-cons (λ z. one_if (p z)) y ys in
    let u : p y ≡ true = ap p e ∙ t in
    let g : one_if (p y) ≡ 1 = ap one_if u in
    let k : count_by p ys ≡ 0 = count_none p ys (λ z q. false_from_ne_true (p z) (λ v. h.0 z q u v)) in
    omega arith
count_one p (y ∷ ys) x h (inr q) t =
    let f : count_by p (y ∷ ys) ≡ one_if (p y) + count_by p ys = sum_by-cons (λ z. one_if (p z)) y ys in
    let u : p y ≡ false = false_from_ne_true (p y) (λ v. h.0 x q v t) in
    let g : one_if (p y) ≡ 0 = ap one_if u in
    let ih : count_by p ys ≡ 1 = count_one p ys x h.1 q t in
    omega arith
