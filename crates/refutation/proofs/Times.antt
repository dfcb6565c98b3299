-- The times of operations in a sequential order: their places in it, counted from 1.
use Rattle.std.specs.Prelude.{◌≡◌, ℕ, zero, suc, ◌+◌, ◌<◌, ◌≤◌, not, ◌==◌, if◌then◌else◌, List, [], ◌∷◌, ◌++◌, refl, true, Option, Some, None, slice_get, is_some, option_and_then, count_by, take, drop, length, nat_le}
use Rattle.std.specs.List.{position_or_len}
use Rattle.std.proofs.Common.{rules, sym, ◌∙◌, ap, subst, inl, inr, arith, get_or}
use Rattle.std.proofs.Math.Seq.{take-suc}
use Rattle.std.proofs.lemmas.Bool.{and_parts, eqb-true, cases_lt, cases_eq, cases_Bool, leb-true, cond-true, cond-false, false_from_ne_true}
use Rattle.std.proofs.lemmas.List.{drop_more, take-append-drop}
use Rattle.std.proofs.lemmas.List.Elements.{filter_map-append}
use Rattle.std.proofs.lemmas.List.Sums.{sum_by-cons, get_or-le-sum_by, passes_at_first, position_or_len_is, prefix_len-le-length}
use Rattle.std.proofs.lemmas.Option.{same_Some, option_and_then_some, slice_get_within, slice_get-get_or}
use Rattle.mem_op.specs.declared.id.OpId.{OpId}
use Rattle.mem_op.specs.Consistency.{Operation, operation_at, is_same_id, is_store_to, last_value, GivesFlatAnswers, IsSequentialOrder}
use Rattle.line_stamps.proofs.Ids.{one_if, same_id-true, same_id-refl}
use Rattle.flat_replay.specs.Accesses.{address_of, word_read}
use Rattle.flat_replay.specs.Memory.{IsAnsweredBy, after}
use Rattle.flat_replay.proofs.Flat.{after_is, flat_at_middle}
use Rattle.flat_replay.proofs.Replaying.{done}
use Rattle.refutation.specs.declared.step.Point.{Point}
use Rattle.refutation.specs.declared.step.Point.TheVariants.{Init, At}
use Rattle.refutation.specs.Facts.{is_up_to}
use Rattle.refutation.proofs.Runs.{reads, after-is}
use Rattle.refutation.proofs.Timings.{Gave, Sourced, IsTiming}

-- where an id stands first, or how many there are
abbrev pub place : List OpId → OpId → ℕ
place order id = position_or_len (is_same_id id) order

abbrev pub time_in : List OpId → Point → ℕ
time_in order Init = 0
time_in order (At id) = suc (place order id)

place-counted : (order : List OpId) (id : OpId) → count_by (is_same_id id) order ≡ 1 → place order id < length order
place-counted [] id one = absurd (omega arith)
place-counted (x ∷ order) id one =
    let all : count_by (is_same_id id) (x ∷ order) ≡ one_if (is_same_id id x) + count_by (is_same_id id) order = sum_by-cons (λ y. one_if (is_same_id id y)) x order in
    let rest = place-counted order id in
    grind arith

-- the operation before one of its core is there, too
pub there_before : (cores : List (List Operation)) (a b : OpId) (y : Operation) → a.core ≡ b.core → a.index ≤ b.index → operation_at cores b ≡ Some y → (x : Operation) × (operation_at cores a ≡ Some x)
there_before cores a b y core index there = option_and_then_some (λ ys. slice_get ys b.index) (slice_get cores b.core) y there (λ ys at own.
    let within = slice_get_within ys b.index y own in
    (get_or ys a.index y, ap (option_and_then (λ zs. slice_get zs a.index)) (ap (slice_get cores) core ∙ at) ∙ slice_get-get_or ys a.index y (omega arith)))

-- what the operations before a place leave
abbrev pub memory : List (List Operation) → List OpId → ℕ → ℕ → ℕ
memory cores order t addr = last_value addr (done cores (take t order))

module _ (cores : List (List Operation)) (order : List OpId) (sequential : IsSequentialOrder cores order) where
  pub placed : (id : OpId) (y : Operation) → operation_at cores id ≡ Some y → place order id < length order
  placed id y there = place-counted order id (sequential.serial id ∙ ap (λ o. if is_some o then 1 else 0) there)

  is_there : (k : ℕ) (d : OpId) → k < length order → (y : Operation) × (operation_at cores (get_or order k d) ≡ Some y)
  is_there k d l = go (operation_at cores (get_or order k d)) (sequential.serial (get_or order k d))
    where
      go : (o : Option Operation) → count_by (is_same_id (get_or order k d)) order ≡ (if is_some o then 1 else 0) → (y : Operation) × (o ≡ Some y)
      go (Some y) one = (y, refl)
      go None none = absurd (
          let most = get_or-le-sum_by (λ x. one_if (is_same_id (get_or order k d) x)) order k d l in
          let one = ap one_if (same_id-refl (get_or order k d)) in
          omega arith)

  at_place : (id d : OpId) → place order id < length order → id ≡ get_or order (place order id) d
  at_place id d l = same_id-true id _ (passes_at_first (is_same_id id) order d l)

  pub same_place : (a b : OpId) → place order a ≡ place order b → place order a < length order → a ≡ b
  same_place a b e l = at_place a a l ∙ ap (λ k. get_or order k a) e ∙ sym (at_place b a (omega arith))

  -- an id that stands at a place has it
  place-is : (k : ℕ) (d : OpId) → k < length order → place order (get_or order k d) ≡ k
  place-is k d l = position_or_len_is (is_same_id (get_or order k d)) order k d (omega arith) (λ j m. false_from_ne_true _ (λ same.
      let e = same_id-true (get_or order k d) (get_or order j d) same in
      let less = sequential.program j k d m l (ap (λ (x : OpId). x.core) (sym e)) in
      let index = ap (λ (x : OpId). x.index) e in
      omega arith)) (λ m. same_id-refl (get_or order k d))

  -- an id that doesn't stand before another of its core, and has no higher index, is that one
  pub in_turn : (a b : OpId) → a.core ≡ b.core → a.index ≤ b.index → place order b < length order → place order b ≤ place order a → a ≡ b
  in_turn a b core index within l =
      let there = is_there (place order b) b within in
      let first = there_before cores a b there.0 core index (ap (operation_at cores) (at_place b b within) ∙ there.1) in
      let low = placed a first.0 first.1 in
      elim (cases_eq (place order a) (place order b)) [
        | inl e ↦ same_place a b e low
        | inr apart ↦ absurd (
            let less = rw (← at_place b a within, ← at_place a a low) at (sequential.program (place order b) (place order a) a (omega arith) low) in
            let wrong = less (sym core) in
            omega arith)
      ]

  pub in_program_order : (p q : Point) → is_up_to p q ≡ true → time_in order p ≤ time_in order q
  in_program_order Init q up = omega arith
  in_program_order (At a) Init up = absurd cc
  in_program_order (At a) (At b) up = elim (cases_lt (place order b) (place order a)) [
    | inr l ↦ omega arith
    | inl l ↦ absurd (
        let parts = and_parts (a.core == b.core) (nat_le a.index b.index) up in
        let most = prefix_len-le-length (λ x. not (is_same_id a x)) order in
        let same = in_turn a b (eqb-true a.core b.core parts.0) (leb-true a.index b.index parts.1) (omega arith) (omega arith) in
        let e = ap (place order) same in
        omega arith)
  ]

  apart : (a : OpId) (y : Operation) (q : Point) → operation_at cores a ≡ Some y → time_in order (At a) ≡ time_in order q → At a ≡ q
  apart a y Init there same = absurd (omega arith)
  apart a y (At b) there same = ap At (same_place a b (omega arith) (placed a y there))

  -- ---- the order performed

  -- the operation at a place
  pub record Turn (t : ℕ) : Type 0 where
    pub id : OpId
    pub y : Operation
    pub there : operation_at cores id ≡ Some y
    pub at : place order id ≡ t
    pub within : place order id < length order
    pub answers : IsAnsweredBy (memory cores order t) y
    pub left : (a : ℕ) → memory cores order (suc t) a ≡ after y (memory cores order t) a

  done-at : (before behind : List OpId) (id : OpId) (y : Operation) → operation_at cores id ≡ Some y
      → done cores (before ++ id ∷ behind) ≡ done cores before ++ y ∷ done cores behind
  done-at before behind id y there = search (rules, filter_map-append, done)

  pub turn : (t : ℕ) → t < length order → Turn t
  turn t l =
      let d : OpId = record { core = 0; index = 0 } in
      let id : OpId = get_or order t d in
      let found = is_there t d l in
      let before = take t order in
      let behind = drop (t + 1) order in
      let parts : before ++ id ∷ behind ≡ order = ap (λ ids. before ++ ids) (sym (drop_more order t d l)) ∙ take-append-drop t order in
      let flat = subst GivesFlatAnswers (ap (done cores) (sym parts) ∙ done-at before behind id found.0 found.1) sequential.flat in
      record {
        id = id;
        y = found.0;
        there = found.1;
        at = place-is t d l;
        within = (let at = place-is t d l in omega arith);
        answers = flat_at_middle (done cores before) found.0 (done cores behind) flat;
        left = λ a. ap (λ ids. last_value a (done cores ids)) (take-suc order t d l) ∙ ap (last_value a) (done-at before [] id found.0 found.1)
            ∙ sym (after_is found.0 (memory cores order t) (done cores before) a refl);
      }

  -- ---- where a word comes from

  -- of each word that memory has at a place
  source-to : (addr t : ℕ) → t ≤ length order → Sourced cores (time_in order) addr (memory cores order t addr) (suc t)
  source-to addr zero l = record { source = Init; gives = refl; before = omega arith; last = λ w z at stores. inr (omega arith) }
  source-to addr (suc t) l =
      let now = turn t (omega arith) in
      let place_is = now.at in
      let old = source-to addr t (omega arith) in
      let left = now.left addr ∙ after-is (memory cores order t) now.y addr in
      elim (cases_Bool (is_store_to addr now.y)) [
        | inl does ↦ record {
          source = At now.id;
          gives = (now.y, now.there, does, sym (left ∙ cond-true _ _ _ does));
          before = omega arith;
          last = λ w z at stores. elim (cases_lt t (place order w)) [ inl l ↦ inr (omega arith) | inr l ↦ inl (omega arith) ];
        }
        | inr isnt ↦ record {
          source = old.source;
          gives = subst (λ word. Gave cores addr word old.source) (sym (left ∙ cond-false _ _ _ isnt)) old.gives;
          before = (let before = old.before in omega arith);
          last = λ w z at stores. elim (old.last w z at stores) [
            | inl l ↦ inl l
            | inr l ↦ elim (cases_eq (place order w) t) [
              | inl here ↦ absurd (let same = apart w z (At now.id) at (omega arith) in cc)
              | inr other ↦ inr (omega arith)
            ]
          ];
        }
      ]

  sources : (a : OpId) (y : Operation) (value : ℕ) → operation_at cores a ≡ Some y → word_read y ≡ Some value
      → Sourced cores (time_in order) (address_of y) value (time_in order (At a))
  sources a y value there read =
      let t = place order a in
      let within = placed a y there in
      let now = turn t within in
      let is = same_Some now.y y (sym now.there ∙ ap (operation_at cores) (sym (same_place a now.id (sym now.at) within)) ∙ there) in
      let answers = subst (IsAnsweredBy (memory cores order t)) is now.answers in
      subst (λ word. Sourced cores (time_in order) (address_of y) word (suc t)) (sym (reads (memory cores order t) y value answers read))
      (source-to (address_of y) t (omega arith))

  -- its places are times
  pub timing-in : IsTiming cores (time_in order)
  timing-in = record { program = in_program_order; apart = apart; sources = sources }
