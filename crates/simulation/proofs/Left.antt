-- After a round of a core the list of the cores that haven't ended is the same, or has lost that core.
use Rattle.std.proofs.Common.{◌≡◌, ◌≢◌, ℕ, zero, suc, ◌∷◌, ◌++◌, Bool, true, false, nat_eq, if◌then◌else◌, [], refl, sym, ap, ◌∙◌, arith}
use Rattle.std.proofs.lemmas.List.Elements.{filter-append}
use Rattle.core_machine.specs.Machine.{World}
use Rattle.core_machine.specs.Parts.{CoreParts, world}
use Rattle.tardis_core.specs.Rounds.{IsRound}
use Rattle.core_machine.specs.Works.{has_next}
use Rattle.tardis_core.proofs.Nexts.{round_next}
use Rattle.simulation.specs.Drawing.{cores_left, is_other, left_below, without}

pub same_below : (w t : World) (n : ℕ) → ((d : ℕ) → has_next t d ≡ has_next w d) → left_below t n ≡ left_below w n
same_below w t zero same = refl
same_below w t (suc n) same = rw (same n, same_below w t n same) refl

struck_below : (c : ℕ) (w t : World) (n : ℕ) → has_next t c ≡ false → ((d : ℕ) → d ≢ c → has_next t d ≡ has_next w d)
    → left_below t n ≡ without c (left_below w n)
struck_below c w t zero ended same = refl
struck_below c w t (suc n) ended same =
    ap (λ xs. xs ++ (if has_next t n then n ∷ [] else [])) (struck_below c w t n ended same)
    ∙ ap (λ ys. without c (left_below w n) ++ ys) (last (nat_eq n c) (has_next w n) refl refl)
    ∙ sym (filter-append (is_other c) (left_below w n) (if has_next w n then n ∷ [] else []))
  where
    last : (b went : Bool) → nat_eq n c ≡ b → has_next w n ≡ went
        → (if has_next t n then n ∷ [] else []) ≡ without c (if has_next w n then n ∷ [] else [])
    last true true is at = let own : n ≡ c = search arith in rw (at, is, own, ended) refl
    last true false is at = let own : n ≡ c = search arith in rw (at, own, ended) refl
    last false true is at = let other : n ≢ c = search arith in rw (same n other, at, is) refl
    last false false is at = let other : n ≢ c = search arith in rw (same n other, at) refl

-- After a round of core c: the same list where it has an operation left, else that without it.
pub left_behind : (c : ℕ) (p q : CoreParts) → IsRound c p q
    → cores_left (world q) ≡ (if has_next (world q) c then cores_left (world p) else without c (cores_left (world p)))
unfolding cores_left
left_behind c p q round = go (has_next (world q) c) refl
  where
    same_all : has_next (world q) c ≡ true → (d : ℕ) (b : Bool) → nat_eq d c ≡ b → has_next (world q) d ≡ has_next (world p) d
    same_all on d true is =
        let own : d ≡ c = search arith in
        let went = (round_next c c p q round).went_on on in
        rw own (on ∙ sym went)
    same_all on d false is = let other : d ≢ c = search arith in (round_next c d p q round).same other

    go : (b : Bool) → has_next (world q) c ≡ b
        → left_below (world q) 64 ≡ (if b then left_below (world p) 64 else without c (left_below (world p) 64))
    go true on = same_below (world p) (world q) 64 (λ d. same_all on d (nat_eq d c) refl)
    go false ended = struck_below c (world p) (world q) 64 ended (λ d other. (round_next c d p q round).same other)
