-- What is a refutation refutes: in a consistent order all facts of some open case hold.
use Rattle.std.specs.Prelude.{◌≡◌, ◌≢◌, ℕ, ◌+◌, ◌<◌, ◌≤◌, ◌⊎◌, true, List, [], ◌∷◌, ◌++◌, refl, Some, length, map, slice_get}
use Rattle.std.specs.List.{list_any}
use Rattle.std.proofs.Common.{rules, sym, ap, subst, inl, inr, arith}
use Rattle.std.proofs.lemmas.Grind.{common_steps}
use Rattle.std.proofs.lemmas.Option.{gets}
use Rattle.std.proofs.lemmas.Bool.{and_parts, or_cases}
use Rattle.mem_op.specs.declared.id.OpId.{OpId}
use Rattle.mem_op.specs.Consistency.{Operation, operation_at, is_store_to}
use Rattle.flat_replay.specs.Accesses.{address_of}
use Rattle.refutation.specs.declared.step.Point.{Point}
use Rattle.refutation.specs.declared.step.Point.TheVariants.{Init, At}
use Rattle.refutation.specs.declared.step.Range.{Range}
use Rattle.refutation.specs.declared.state.State.{State}
use Rattle.refutation.specs.declared.step.Step.{Step}
use Rattle.refutation.specs.declared.step.Step.TheVariants.{Read, FromRead, WriteOrder, Cycle, States}
use Rattle.refutation.specs.declared.fact.Fact.{Fact}
use Rattle.refutation.specs.declared.fact.Fact.TheVariants.{Source}
use Rattle.refutation.specs.Facts.{is_up_to, earlier_of, later_of, Leads, IsCycle}
use Rattle.refutation.specs.Rules.{is_in, LiesIn, HasItsSourceIn, IsOtherWrite, Gives}
use Rattle.refutation.specs.States.{IsClosedSet}
use Rattle.refutation.specs.Refuting.{split, Leave}
use Rattle.refutation.specs.Laws.{RefutationsHold}
use Rattle.refutation.proofs.ClosedSound.{no-closed}
use Rattle.refutation.proofs.Timings.{Gave, NoStoreBetween, IsTiming, SourceUntil, Holds, AllHold, order-of}
use Rattle.refutation.proofs.Times.{time_in, timing-in}
use Rattle.refutation.proofs.Paths.{leads-parts}

-- some of the facts holds; all facts of some case hold
abbrev OneHolds : List (List Operation) → (Point → ℕ) → List Fact → Type 0
OneHolds cores time [] = ⊥
OneHolds cores time (fact ∷ facts) = Holds cores time fact ⊎ OneHolds cores time facts

abbrev SomeCase : List (List Operation) → (Point → ℕ) → List (List Fact) → Type 0
SomeCase cores time [] = ⊥
SomeCase cores time (facts ∷ cases) = AllHold cores time facts ⊎ SomeCase cores time cases

-- one fact more
all-push : (cores : List (List Operation)) (time : Point → ℕ) (facts : List Fact) (fact : Fact) → AllHold cores time facts → Holds cores time fact → AllHold cores time (facts ++ fact ∷ [])
all-push cores time facts fact all holds number other at = search (rules, places)
  where
    places : (xs : List Fact) (k : ℕ) → slice_get (xs ++ fact ∷ []) k ≡ Some other → (slice_get xs k ≡ Some other) ⊎ (fact ≡ other)
    places xs k e = grind (arith, common_steps, gets)

-- a case splits into those of facts of which one holds
some-split : (cores : List (List Operation)) (time : Point → ℕ) (facts given : List Fact) (others : List (List Fact)) → AllHold cores time facts → OneHolds cores time given → SomeCase cores time (split facts given ++ others)
some-split cores time facts [] others all one = absurd one
some-split cores time facts (fact ∷ given) others all (inl holds) = inl (all-push cores time facts fact all holds)
some-split cores time facts (fact ∷ given) others all (inr one) = inr (some-split cores time facts given others all one)

some-other : (cores : List (List Operation)) (time : Point → ℕ) (cases others : List (List Fact)) → SomeCase cores time others → SomeCase cores time (cases ++ others)
some-other cores time [] others some = some
some-other cores time (facts ∷ cases) others some = inr (some-other cores time cases others some)

module _ (cores : List (List Operation)) (time : Point → ℕ) (timing : IsTiming cores time)
    (none-closed : (facts : List Fact) → AllHold cores time facts → (addresses : List ℕ) (states : List State) → IsClosedSet cores facts addresses states → ⊥) where
  -- each fact of a path leads to a later time
  leads-later : (facts : List Fact) → AllHold cores time facts → (from : Point) (path : List ℕ) (to : Point) → Leads facts from path to → time from + length path ≤ time to
  leads-later facts all from [] to leads = let l = timing.program from to leads in omega arith
  leads-later facts all from (number ∷ path) to leads =
      let parts = leads-parts facts from to path (slice_get facts number) leads in
      let first = timing.program from (earlier_of parts.0) parts.2 in
      let step = order-of cores time parts.0 (all number parts.0 parts.1) in
      let more = leads-later facts all (later_of parts.0) path to parts.3 in
      omega arith

  no-cycle : (facts : List Fact) → AllHold cores time facts → (path : List ℕ) → IsCycle facts path → ⊥
  no-cycle facts all [] cycle = cycle.some refl
  no-cycle facts all (number ∷ path) cycle = let later = leads-later facts all cycle.start (number ∷ path) cycle.start cycle.back in omega arith

  -- ---- the rules

  module _ (read : OpId) (last : Point) (write : OpId) (other : IsOtherWrite cores read last write) (until : SourceUntil cores time read last) where
    -- the write isn't between the last point of the source and the read
    aside : (time (At write) ≤ time last) ⊎ (time (At read) ≤ time (At write))
    aside = until other.reading other.at_read write other.writing other.at_write other.same_address

    not-read : time (At write) ≢ time (At read)
    not-read same = other.not_read (let e = timing.apart write other.writing (At read) other.at_write same in cc)

    not-last : time (At write) ≢ time last
    not-last same = other.not_last (sym (timing.apart write other.writing last other.at_write same))

    read-first : time last ≤ time (At write) → time (At read) < time (At write)
    read-first after = let a = aside in let b = not-last in let c = not-read in omega arith

    write-first : time (At write) ≤ time (At read) → time (At write) < time last
    write-first before = let a = aside in let b = not-last in let c = not-read in omega arith

  -- the source lies in one of the ranges, so its fact holds
  source-one : (read : OpId) (y : Operation) (there : operation_at cores read ≡ Some y) (source : Point) → time source < time (At read) → NoStoreBetween cores time (address_of y) source (time (At read))
      → (ranges : List Range) → LiesIn ranges source → OneHolds cores time (map (λ range. Source read range) ranges)
  source-one read y there source before none [] lies = absurd cc
  source-one read y there source before none (range ∷ ranges) lies = elim (or_cases (is_in range source) (list_any (λ r. is_in r source) ranges) lies) [
    | inr later ↦ inr (source-one read y there source before none ranges later)
    | inl here ↦ (
        let parts = and_parts (is_up_to range.first source) (is_up_to source range.last) here in
        let first = timing.program range.first source parts.0 in
        let last = timing.program source range.last parts.1 in
        inl (
          omega arith,
          λ z at w x store stores. (
              let same : address_of z ≡ address_of y = cc in
              elim (none w x store (subst (λ addr. is_store_to addr x ≡ true) same stores)) [ inl l ↦ inl (omega arith) | inr l ↦ inr l ]),
        ))
  ]

  read-one : (read : OpId) (ranges : List Range) → HasItsSourceIn cores read ranges → OneHolds cores time (map (λ range. Source read range) ranges)
  read-one read ranges has =
      let from = timing.sources read has.operation has.value has.there has.reads in
      source-one read has.operation has.there from.source from.before from.last ranges (lies from.source from.gives from.before)
    where
      lies : (source : Point) → Gave cores (address_of has.operation) has.value source → time source < time (At read) → LiesIn ranges source
      lies Init gives before = has.init gives
      lies (At w) gives before = has.writes w gives.0 gives.1 (record {
        writes = gives.2;
        value_is = gives.3;
        other = λ same. (let e : time (At w) ≡ time (At read) = ap (λ x. time (At x)) same in omega arith);
      })

  -- of the facts that a step gives one holds
  gives-one : (facts : List Fact) → AllHold cores time facts → (step : Step) (given : List Fact) → Gives cores facts step given → OneHolds cores time given
  gives-one facts all (Read read ranges) given gives = subst (OneHolds cores time) (sym gives.1) (read-one read ranges gives.0)
  gives-one facts all (FromRead source write path) given gives =
      let known = all source (Source gives.read gives.range) gives.known in
      let after = leads-later facts all gives.range.last path (At write) gives.leads in
      subst (OneHolds cores time) (sym gives.gives) (inl (read-first gives.read gives.range.last write gives.other known.1 (omega arith)))
  gives-one facts all (WriteOrder source write path) given gives =
      let known = all source (Source gives.read gives.range) gives.known in
      let before = leads-later facts all (At write) path (At gives.read) gives.leads in
      subst (OneHolds cores time) (sym gives.gives) (inl (write-first gives.read gives.range.last write gives.other known.1 (omega arith)))
  gives-one facts all (Cycle path) given gives = absurd (no-cycle facts all path gives.0)
  gives-one facts all (States addresses set) given gives = absurd (none-closed facts all addresses set gives.0)

  -- of the cases that steps leave one holds
  left-one : (cases : List (List Fact)) (steps : List Step) (left : List (List Fact)) → SomeCase cores time cases → Leave cores cases steps left → SomeCase cores time left
  left-one cases [] left some same = subst (SomeCase cores time) same some
  left-one [] (step ∷ steps) left some leave = absurd leave
  left-one (facts ∷ others) (step ∷ steps) left (inl all) leave =
      left-one (split facts leave.0 ++ others) steps left (some-split cores time facts leave.0 others all (gives-one facts all step leave.0 leave.1)) leave.2
  left-one (facts ∷ others) (step ∷ steps) left (inr some) leave =
      left-one (split facts leave.0 ++ others) steps left (some-other cores time (split facts leave.0) others some) leave.2

pub refutations_hold : RefutationsHold
refutations_hold cores steps is consistent =
    left-one cores (time_in consistent.0) (timing-in cores consistent.0 consistent.1)
    (λ facts all addresses states closed. no-closed cores consistent.0 consistent.1 addresses facts all states closed) ([] ∷ []) steps [] (inl (λ number fact at. absurd cc)) is
