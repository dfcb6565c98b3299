-- Where there is a sequential order in which the facts hold, no set of states is closed: the states that the order goes
-- through, but for what passes early, would all be in it.
use Rattle.std.specs.Prelude.{◌≡◌, ◌≢◌, ℕ, zero, suc, ◌+◌, ◌<◌, ◌≤◌, true, List, [], refl, Some, map, length, slice_index}
use Rattle.std.specs.List.{list_all}
use Rattle.std.proofs.Common.{rules, sym, ◌∙◌, ap, subst, inl, inr, arith, get_or}
use Rattle.std.proofs.Math.ListN.{get_or-map}
use Rattle.std.proofs.lemmas.Bool.{cases_lt, cases_Bool, cond-true, cond-false, lt-ltb}
use Rattle.std.proofs.lemmas.List.{get_or-set_same, length-set, length-map}
use Rattle.std.proofs.lemmas.List.Sums.{list_all-from_AllPass}
use Rattle.std.proofs.lemmas.Option.{same_Some, slice_get-get_or}
use Rattle.line_stamps.proofs.Ids.{same_id}
use Rattle.mem_op.specs.declared.id.OpId.{OpId}
use Rattle.mem_op.specs.Consistency.{Operation, operation_at, is_store_to, word_left, IsSequentialOrder}
use Rattle.flat_replay.specs.Accesses.{address_of, word_read}
use Rattle.flat_replay.specs.Memory.{IsAnsweredBy}
use Rattle.flat_replay.proofs.Turns.{within_cores}
use Rattle.refutation.specs.declared.step.Point.{Point}
use Rattle.refutation.specs.declared.step.Point.TheVariants.{At}
use Rattle.refutation.specs.declared.state.State.{State}
use Rattle.refutation.specs.declared.state.State.TheVariants.{Open, Dead}
use Rattle.refutation.specs.declared.fact.Fact.{Fact}
use Rattle.refutation.specs.Facts.{earlier_of, later_of}
use Rattle.refutation.specs.Grammar.{is_same_point}
use Rattle.refutation.specs.States.{word_of, fits, passes, settled, next_of, words_of, Has, next_id, was_performed, allows, LeadsBack, IsDead, IsRightState, IsClosedSet}
use Rattle.refutation.proofs.Parts.{same_point}
use Rattle.refutation.proofs.Runs.{raised, le-raised, below-raised, fits-read, reads, after-is, after-idle}
use Rattle.refutation.proofs.Settled.{words_after, word-put, right-after, word-zero, passes-is, length-settled, passed, stopped, looked-at, settled-later}
use Rattle.refutation.proofs.Timings.{Holds, AllHold, order-of}
use Rattle.refutation.proofs.Times.{place, there_before, time_in, memory, placed, same_place, in_turn, Turn, turn}

module _ (cores : List (List Operation)) (order : List OpId) (sequential : IsSequentialOrder cores order) (addresses : List ℕ) where
  -- A state follows the operations before a place: it has the words that they leave, and each of them is performed in it.
  -- Others may be, too, that leave the word that they read.
  record Follows (t : ℕ) (next words : List ℕ) : Type 0 where
    many : length next ≡ length cores
    right : (a w : ℕ) → word_of addresses words a ≡ Some w → w ≡ memory cores order t a
    ahead : (id : OpId) → slice_index next id.core ≤ id.index → t ≤ place order id
    early : (id : OpId) (z : Operation) (w : ℕ) → operation_at cores id ≡ Some z → word_of addresses words (address_of z) ≡ Some w
        → t ≤ place order id → id.index < slice_index next id.core → word_read z ≡ Some (word_left z)

  -- each core's next operation is looked at
  abbrev Looks : List ℕ → List ℕ → Type 0
  Looks next words = (core : ℕ) (z : Operation) → operation_at cores (next_id next core) ≡ Some z → (w : ℕ) × (word_of addresses words (address_of z) ≡ Some w)

  settle-follows : (t : ℕ) (next words : List ℕ) → Follows t next words → Follows t (settled addresses words cores next) words
  settle-follows t next words follows = record {
    many = length-settled addresses words cores next ∙ follows.many;
    right = follows.right;
    ahead = λ id l. follows.ahead id (let m = settled-later addresses words cores next id.core in omega arith);
    early = λ id z w there looked high low. elim (cases_lt id.index (slice_index next id.core)) [
      | inl below ↦ follows.early id z w there looked high below
      | inr above ↦ (
          let pass = passed addresses words cores next id.core id.index z follows.many there above low in
          let is = passes-is w z (ap (λ o. passes o z) (sym looked) ∙ pass) in
          is.0 ∙ ap Some (sym is.1))
    ];
  }

  settle-looks : (next words : List ℕ) → length next ≡ length cores → Looks (settled addresses words cores next) words
  settle-looks next words many core z there =
      looked-at (word_of addresses words (address_of z)) z (stopped addresses words cores next core z many there)

  first-follows : Follows 0 (map (λ _. 0) cores) (map (λ _. 0) addresses)
  first-follows = record {
    many = length-map cores (λ _. 0);
    right = λ a w e. word-zero addresses a w e;
    ahead = λ id l. omega arith;
    early = λ id z w there looked high low. absurd (
        let e : slice_index (map (λ _. 0) cores) id.core ≡ 0 = get_or-map (λ _. 0) cores id.core [] in
        omega arith);
  }

  -- ---- one operation of the order

  module _ (t : ℕ) (now : Turn cores order sequential t) (next words : List ℕ) (follows : Follows t next words) where
    -- where it is performed, too, what isn't stands behind it
    ahead-more : (xs : List ℕ) → ((id : OpId) → slice_index xs id.core ≤ id.index → t ≤ place order id) → now.id.index < slice_index xs now.id.core
        → (id : OpId) → slice_index xs id.core ≤ id.index → suc t ≤ place order id
    ahead-more xs ahead done id l = search (rules, cases_lt, same_place)

    -- the state stays, where it is performed already
    stay : now.id.index < slice_index next now.id.core → Follows (suc t) next words
    stay done = record {
      many = follows.many;
      right = λ a w looked. follows.right a w looked ∙ sym (now.left a ∙ after-idle (memory cores order t) now.y a now.answers (λ here.
          follows.early now.id now.y w now.there (ap (word_of addresses words) here ∙ looked) (let at = now.at in omega arith) done));
      ahead = ahead-more next follows.ahead done;
      early = λ id z w there looked high low. follows.early id z w there looked (omega arith) low;
    }

    -- where it is its core's next there, too, it finds its word, and the state moves
    fitting : (w : ℕ) → word_of addresses words (address_of now.y) ≡ Some w → fits (word_of addresses words (address_of now.y)) now.y ≡ true
    fitting w looked = search (rules, fits-read, reads)

    moved : (w : ℕ) → word_of addresses words (address_of now.y) ≡ Some w → next_id next now.id.core ≡ now.id
        → Follows (suc t) (raised next now.id.core) (words_after addresses words now.y)
    moved w looked own = record {
      many = length-set next now.id.core (slice_index next now.id.core + 1) ∙ follows.many;
      right = λ a u e. right-after addresses words (memory cores order t) now.y now.answers follows.right a u e ∙ sym (now.left a);
      ahead = ahead-more (raised next now.id.core) (λ id l. follows.ahead id (let m = le-raised next now.id.core id.core within in omega arith)) (
          let e = get_or-set_same next now.id.core (slice_index next now.id.core + 1) 0 within in
          let f = ap (λ (x : OpId). x.index) own in
          omega arith);
      early = λ id z u at seen high low. elim (below-raised next now.id.core id.core id.index within low) [
        | inr is ↦ absurd (let e = ap (place order) (same_id id (next_id next now.id.core) is.0 is.1 ∙ own) in let at = now.at in omega arith)
        | inl below ↦ elim (word-put addresses words (address_of now.y) (address_of z) (word_left now.y) u seen) [
          | inl here ↦ follows.early id z w at (ap (word_of addresses words) (sym here.0) ∙ looked) (omega arith) below
          | inr other ↦ follows.early id z u at other.1 (omega arith) below
        ]
      ];
    }
      where
        within : now.id.core < length next
        within = let l = within_cores cores now.id now.y (sym now.there) in let m = follows.many in omega arith

    -- the facts that hold allow it
    allowed : (facts : List Fact) → AllHold cores (time_in order) facts → list_all (allows next now.id) facts ≡ true
    allowed facts all = list_all-from_AllPass (allows next now.id) facts (λ k d l.
        each (get_or facts k d) (all k (get_or facts k d) (slice_get-get_or facts k d l)))
      where
        performed : (p : Point) → time_in order p < time_in order (At now.id) → was_performed next p ≡ true
        performed p low = search (rules, cases_lt, lt-ltb)

        each : (fact : Fact) → Holds cores (time_in order) fact → allows next now.id fact ≡ true
        each fact holds = elim (cases_Bool (is_same_point (later_of fact) (At now.id))) [
          | inr other ↦ cond-false _ _ _ other
          | inl same ↦ cond-true _ _ _ same ∙ performed (earlier_of fact)
              (subst (λ p. time_in order (earlier_of fact) < time_in order p) (same_point (later_of fact) (At now.id) same) (order-of cores (time_in order) fact holds))
        ]

  -- ---- a state that is dead

  module _ (t : ℕ) (next words limits : List ℕ) (follows : Follows t next words) (dead : IsDead cores addresses next words limits) where
    -- no operation at a limit stands before a place, and none finds its word there
    abbrev Starved : ℕ → Type 0
    Starved s = (core : ℕ) (z : Operation) (there : operation_at cores (next_id limits core) ≡ Some z)
        → (s ≤ place order (next_id limits core)) × ((dead.each core z there).1.value ≢ memory cores order s (address_of z))

    module _ (s : ℕ) (now : Turn cores order sequential s) (late : t ≤ s) (starved : Starved s) where
      -- the next operation stands before its core's limit
      in-reach : now.id.index < slice_index limits now.id.core
      in-reach = elim (cases_lt now.id.index (slice_index limits now.id.core)) [
        | inl below ↦ below
        | inr above ↦ absurd (
            let limit = next_id limits now.id.core in
            let found = there_before cores limit now.id now.y refl above now.there in
            let waits = (dead.each now.id.core found.0 found.1).1 in
            let old = starved now.id.core found.0 found.1 in
            let at = now.at in
            let same = in_turn cores order sequential limit now.id refl above now.within (omega (arith, old.0)) in
            let is = same_Some now.y found.0 (sym now.there ∙ ap (operation_at cores) (sym same) ∙ found.1) in
            old.1 (reads (memory cores order s) found.0 waits.value (subst (IsAnsweredBy (memory cores order s)) is now.answers) waits.reads))
      ]

      starved-more : Starved (suc s)
      starved-more core z there =
          let limit = next_id limits core in
          let old = starved core z there in
          let waits = (dead.each core z there).1 in
          let at = now.at in
          let left = now.left (address_of z) ∙ after-is (memory cores order s) now.y (address_of z) in (
            elim (cases_lt s (place order limit)) [
              | inl l ↦ l
              | inr l ↦ absurd (
                  let same = same_place cores order sequential now.id limit (omega (arith, old.0)) now.within in
                  let below = subst (λ (x : OpId). x.index < slice_index limits x.core) same in-reach in
                  omega arith)
            ],
            λ same. elim (cases_lt now.id.index (slice_index next now.id.core)) [
              | inl early ↦ old.1 (same ∙ now.left (address_of z) ∙ after-idle (memory cores order s) now.y (address_of z) now.answers (λ here.
                  follows.early now.id now.y waits.word now.there (ap (word_of addresses words) here ∙ waits.there) (omega arith) early))
              | inr past ↦ elim (cases_Bool (is_store_to (address_of z) now.y)) [
                | inr isnt ↦ old.1 (same ∙ left ∙ cond-false _ _ _ isnt)
                | inl does ↦ waits.none now.id now.y now.there past in-reach does (sym (left ∙ cond-true _ _ _ does) ∙ sym same)
              ]
            ],
          )

    starved-first : Starved t
    starved-first core z there =
        let each = dead.each core z there in
        (follows.ahead (next_id limits core) each.0, λ same. each.1.other (same ∙ sym (follows.right (address_of z) each.1.word each.1.there)))

    no-end : (fuel s : ℕ) → s + fuel ≡ length order → t ≤ s → Starved s → ⊥
    no-end zero s e l starved =
        let last = starved dead.some.0 dead.some.1 dead.some.2 in
        let within = placed cores order sequential (next_id limits dead.some.0) dead.some.1 dead.some.2 in
        omega (arith, last.0)
    no-end (suc fuel) s e l starved =
        no-end fuel (suc s) (omega arith) (omega arith) (starved-more s (turn cores order sequential s (omega arith)) l starved)

  -- ---- a closed set

  module _ (facts : List Fact) (all : AllHold cores (time_in order) facts) (states : List State) (closed : IsClosedSet cores facts addresses states) where
    -- each state is open or dead
    leads : (t fuel : ℕ) → t + fuel ≡ length order → (next words : List ℕ) → Follows t next words → (state : State)
        → IsRightState cores facts addresses (Has states) state → next_of state ≡ next → words_of state ≡ words
        → LeadsBack cores facts addresses (Has states) next words
    leads t fuel e next words follows (Open n w) right a b = rw (← a, ← b) right
    leads t fuel e next words follows (Dead n w limits) right a b =
        let dead : IsDead cores addresses next words limits = rw (← a, ← b) right in
        absurd (no-end t next words limits follows dead fuel t e (omega arith) (starved-first t next words limits follows dead))

    through : (fuel t : ℕ) → t + fuel ≡ length order → (next words : List ℕ) → Follows t next words → Looks next words → Has states next words → ⊥
    through zero t e next words follows looks has =
        let left = (leads t 0 e next words follows has.state (closed.each has.number has.state has.there) has.next_is has.words_is).left in
        let ahead = follows.ahead (next_id next left.0) (omega arith) in
        let within = placed cores order sequential (next_id next left.0) left.1 left.2 in
        omega arith
    through (suc fuel) t e next words follows looks has =
        let now = turn cores order sequential t (omega arith) in
        let again = through fuel (suc t) (omega arith) in
        let own = next_id next now.id.core in
        elim (cases_lt now.id.index (slice_index next now.id.core)) [
          | inl done ↦ again next words (stay t now next words follows done) looks has
          | inr low ↦ (
              let at = now.at in
              let ahead = follows.ahead own (omega arith) in
              let is : own ≡ now.id = in_turn cores order sequential own now.id refl low now.within (omega arith) in
              let there = ap (operation_at cores) is ∙ now.there in
              let seen = looks now.id.core now.y there in
              let fit = fitting t now next words follows seen.0 seen.1 in
              let allow : list_all (allows next own) facts ≡ true = rw is (allowed t now next words follows facts all) in
              let lead = leads t (suc fuel) e next words follows has.state (closed.each has.number has.state has.there) has.next_is has.words_is in
              let next2 = raised next now.id.core in
              let words2 = words_after addresses words now.y in
              let moves = moved t now next words follows seen.0 seen.1 is in
              again (settled addresses words2 cores next2) words2 (settle-follows (suc t) next2 words2 moves) (settle-looks next2 words2 moves.many)
              (lead.back now.id.core now.y there fit allow))
        ]

    pub no-closed : ⊥
    no-closed =
        let words : List ℕ = map (λ _. 0) addresses in
        let next : List ℕ = map (λ _. 0) cores in
        through (length order) 0 (omega arith) (settled addresses words cores next) words
        (settle-follows 0 next words first-follows) (settle-looks next words first-follows.many) closed.first
