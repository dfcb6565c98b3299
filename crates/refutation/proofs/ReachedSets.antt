-- Of a trace that isn't consistent the states that can be reached are a closed set.
use Rattle.std.specs.Prelude.{◌≡◌, ℕ, zero, suc, ◌+◌, ◌-◌, ◌<◌, ◌≤◌, Bool, true, if◌then◌else◌, List, [], ◌∷◌, refl, Option, None, Some, map, length, flat_map}
use Rattle.std.specs.List.{range_with_len}
use Rattle.std.proofs.Common.{rules, sym, ◌∙◌, ap, subst, inl, inr, arith, get_or}
use Rattle.std.proofs.lemmas.Bool.{cases_eq, eq-eqb, ne_eqb, cond-true, cond-false}
use Rattle.std.proofs.lemmas.List.FromFn.{length-range_with_len, get_or-range_with_len}
use Rattle.std.proofs.lemmas.Option.{slice_get_within}
use Rattle.line_stamps.specs.Ordered.{In}
use Rattle.line_stamps.proofs.Ordered.{In-slice_get, In-get_or, In-mapped, In-flat_map, flat_map-In}
use Rattle.mem_op.specs.Consistency.{Operation, operation_at, IsConsistent}
use Rattle.mem_op.specs.declared.id.OpId.{OpId}
use Rattle.flat_replay.specs.Accesses.{address_of}
use Rattle.flat_replay.proofs.Replaying.{replayed-all}
use Rattle.flat_replay.proofs.Turns.{within_cores}
use Rattle.refutation.specs.declared.state.State.{State}
use Rattle.refutation.specs.declared.state.State.TheVariants.{Open}
use Rattle.refutation.specs.declared.step.Step.TheVariants.{States}
use Rattle.refutation.specs.States.{word_of, fits, settled, Has, next_id, IsRightState, IsClosedSet}
use Rattle.refutation.specs.Laws.{Complete}
use Rattle.refutation.proofs.Runs.{raised}
use Rattle.refutation.proofs.Settled.{words_after, core-of}
use Rattle.refutation.proofs.Reached.{Reached, reach-first, reach-more, reach-settled, some-left}

-- ---- all addresses are looked at

word-there : (addresses words : List ℕ) (addr : ℕ) → length addresses ≡ length words → In addr addresses → (w : ℕ) × (word_of addresses words addr ≡ Some w)
word-there [] words addr same p = absurd p
word-there (a ∷ addresses) [] addr same p = absurd (omega arith)
word-there (a ∷ addresses) (w ∷ words) addr same p = elim (cases_eq a addr) [
  | inl here ↦ (w, cond-true _ _ _ (eq-eqb a addr here))
  | inr other ↦ (
      let later = word-there addresses words addr (omega arith) (elim p [ inl e ↦ absurd (other e) | inr q ↦ q ]) in
      (later.0, cond-false _ _ _ (ne_eqb a addr other) ∙ later.1))
]

-- ---- how much is left

abbrev left-of : List (List Operation) → List ℕ → ℕ
left-of [] next = 0
left-of (ys ∷ cores) [] = 0
left-of (ys ∷ cores) (n ∷ next) = (length ys - n) + left-of cores next

left-settled : (addresses words : List ℕ) (cores : List (List Operation)) (next : List ℕ) → left-of cores (settled addresses words cores next) ≤ left-of cores next
left-settled addresses words [] next = omega arith
left-settled addresses words (ys ∷ cores) [] = omega arith
left-settled addresses words (ys ∷ cores) (n ∷ next) = let rest = left-settled addresses words cores next in omega arith

left-raised : (cores : List (List Operation)) (next : List ℕ) (core : ℕ) (y : Operation) → operation_at cores (next_id next core) ≡ Some y
    → length next ≡ length cores → left-of cores (raised next core) < left-of cores next
left-raised [] next core y there many = absurd cc
left-raised (ys ∷ cores) [] core y there many = absurd (omega arith)
left-raised (ys ∷ cores) (n ∷ next) zero y there many = let l = slice_get_within ys n y there in omega arith
left-raised (ys ∷ cores) (n ∷ next) (suc core) y there many = let rest = left-raised cores next core y there (omega arith) in omega arith

-- ---- states in lists

in-list : (states : List State) (n v : List ℕ) → In (Open n v) states → Has states n v
in-list [] n v p = absurd p
in-list (s ∷ states) n v (inl e) = record { number = 0; state = Open n v; there = ap Some e; next_is = refl; words_is = refl }
in-list (s ∷ states) n v (inr p) = (let has = in-list states n v p in record { number = suc has.number; state = has.state; there = has.there; next_is = has.next_is; words_is = has.words_is })

-- ---- all that can be reached

module _ (cores : List (List Operation)) (none : IsConsistent cores → ⊥) where
  abbrev addresses : List ℕ
  addresses = flat_map (map address_of) cores

  looked : (words : List ℕ) → length addresses ≡ length words → (id : OpId) (y : Operation) → operation_at cores id ≡ Some y → (w : ℕ) × (word_of addresses words (address_of y) ≡ Some w)
  looked words size id y there =
      let own = core-of cores id y there in
      word-there addresses words (address_of y) size
      (In-flat_map (map address_of) cores own.0 (address_of y) (In-slice_get own.0 cores id.core own.1) (In-mapped address_of y own.0 (In-slice_get y own.0 id.index own.2)))

  -- whether an operation may be performed
  abbrev goes : List ℕ → Operation → Bool
  goes words y = fits (word_of addresses words (address_of y)) y

  -- the indices behind an operation
  abbrev next-behind : List ℕ → List ℕ → ℕ → Operation → List ℕ
  next-behind next words core y = settled addresses (words_after addresses words y) cores (raised next core)

  -- the states behind an operation, where it may be performed
  abbrev behind : (Operation → List State) → List ℕ → Option Operation → List State
  behind grow words None = []
  behind grow words (Some y) = if goes words y then grow y else []

  in-behind : (grow : Operation → List State) (words : List ℕ) (o : Option Operation) (s : State) → In s (behind grow words o)
      → (y : Operation) × (o ≡ Some y) × (goes words y ≡ true) × In s (grow y)
  in-behind grow words o s p = search rules

  -- a state and those to which fewer than so many moves lead
  abbrev grown : ℕ → List ℕ → List ℕ → List State
  grown zero next words = []
  grown (suc fuel) next words = Open next words ∷ flat_map (λ core.
      behind (λ y. grown fuel (next-behind next words core y) (words_after addresses words y)) words (operation_at cores (next_id next core)))
      (range_with_len 0 (length cores))

  grown-has : (fuel : ℕ) (next words : List ℕ) → left-of cores next < fuel → In (Open next words) (grown fuel next words)
  grown-has fuel next words l = search rules

  core-in : (core : ℕ) → core < length cores → In core (range_with_len 0 (length cores))
  core-in core l =
      let all = range_with_len 0 (length cores) in
      let is : get_or all core 0 ≡ core = omega (arith, get_or-range_with_len 0 (length cores) core 0 l) in
      subst (λ k. In k all) is (In-get_or all core 0 (let size = length-range_with_len 0 (length cores) in omega arith))

  module _ (next words : List ℕ) (reached : Reached cores addresses next words) where
    one-left : (core : ℕ) × (y : Operation) × (operation_at cores (next_id next core) ≡ Some y)
    one-left = elim (some-left cores next reached.many reached.there) [
      | inr found ↦ found
      | inl whole ↦ absurd (none (reached.ids, (replayed-all cores reached.ids next reached.memory reached.ran reached.many).0 whole))
    ]

    -- the state behind an operation is reached, too, and has less left
    reach-behind : (core : ℕ) (y : Operation) → operation_at cores (next_id next core) ≡ Some y → goes words y ≡ true
        → Reached cores addresses (next-behind next words core y) (words_after addresses words y)
    reach-behind core y there fit =
        let moved = reach-more cores addresses next words reached core y there fit in
        reach-settled cores addresses (raised next core) (words_after addresses words y) moved (looked (words_after addresses words y) moved.size)

    less-left : (core : ℕ) (y : Operation) → operation_at cores (next_id next core) ≡ Some y
        → left-of cores (next-behind next words core y) < left-of cores next
    less-left core y there = search (rules, left-raised, left-settled)

  -- with enough moves each of the states is right, in each set that has them all
  grown-right : (fuel : ℕ) (next words : List ℕ) → Reached cores addresses next words → left-of cores next < fuel
      → (set : List State) → ((s : State) → In s (grown fuel next words) → In s set)
      → (s : State) → In s (grown fuel next words) → IsRightState cores [] addresses (Has set) s
  grown-right zero next words reached l set sub s p = absurd p
  grown-right (suc fuel) next words reached l set sub s (inl same) = subst (IsRightState cores [] addresses (Has set)) same (record {
    left = one-left next words reached;
    back = λ core y there fit allowed.
        let less = less-left next words reached core y there in
        let own = core-in core (within_cores cores (next_id next core) y (sym there)) in
        in-list set _ _ (sub _ (inr (In-flat_map _ _ core _ own (rw (there, fit) (grown-has fuel _ _ (omega arith))))));
  })
  grown-right (suc fuel) next words reached l set sub s (inr p) =
      let at = flat_map-In _ (range_with_len 0 (length cores)) s p in
      let from = in-behind _ words (operation_at cores (next_id next at.0)) s at.2 in
      let less = less-left next words reached at.0 from.0 from.1 in
      grown-right fuel _ _ (reach-behind next words reached at.0 from.0 from.1 from.2) (omega arith) set
      (λ r q. sub r (inr (In-flat_map _ _ at.0 r at.1 (rw (from.1, from.2) q)))) s from.3

  reached-closed : (states : List State) × IsClosedSet cores [] addresses states
  reached-closed =
      let words : List ℕ = map (λ _. 0) addresses in
      let next : List ℕ = settled addresses words cores (map (λ _. 0) cores) in
      let first = reach-first cores addresses in
      let reached = reach-settled cores addresses (map (λ _. 0) cores) words first (looked words first.size) in
      let fuel = suc (left-of cores next) in
      let all = grown fuel next words in
      let right = grown-right fuel next words reached (omega arith) all (λ r p. p) in
      (all, record { first = in-list all next words (inl refl); each = λ number s at. right s (In-slice_get s all number at) })

pub is_complete : Complete
is_complete cores none =
    let closed = reached-closed cores none in
    (States (addresses cores none) closed.0 ∷ [], ([], (closed.1, refl), refl))
