-- A candidate without a cycle gives an order: that to which its arrows extend.
use Rattle.std.specs.Prelude.{◌≡◌, ◌≢◌, ℕ, ◌<◌, Bool, true, false, cond, ◌&&◌, not, List, [], ◌∷◌, ◌++◌, refl, Option, Some, None, is_some, if◌then◌else◌, count_by, ◌⊎◌}
use Rattle.std.proofs.Common.{sym, ◌∙◌, ap, subst, inl, inr, append-nil, append_assoc}
use Rattle.std.proofs.lemmas.Bool.{and_from, cases_Bool, cases_order, eq-eqb, false_from_ne_true, lt-ltb, or_cases}
use Rattle.mem_op.specs.declared.id.OpId.{OpId}
use Rattle.mem_op.specs.declared.id.Source.{Source}
use Rattle.mem_op.specs.declared.id.Source.TheVariants.{Init, Store}
use Rattle.mem_op.specs.Consistency.{Operation, Loaded, Stored, Swapped, operation_at, is_same_id, is_store_to, word_left, last_value, GivesFlatAnswers, IsSerialOrder, KeepsProgramOrder, IsConsistent}
use Rattle.line_stamps.specs.Ordered.{In, EachPair}
use Rattle.line_stamps.proofs.Ids.{count_none, count_one, same_id, same_id-true, same_id-refl}
use Rattle.line_stamps.proofs.Ordered.{AllPairs-from_each, In-append, In-append_left, In-append_right}
use Rattle.flat_replay.specs.Accesses.{address_of, word_read}
use Rattle.flat_replay.proofs.Flat.{after_is, flat_push, IsAnsweredBehind}
use Rattle.flat_replay.proofs.Replaying.{done, done-append}
use Rattle.refutation.proofs.Runs.{after-is, store-address}
use Rattle.sc_axioms.specs.Axioms.{Candidate, are_writes, is_source, is_after, arrow, Gives, IsWellFormed, one, IsAcyclic}
use Rattle.sc_axioms.proofs.AllIds.{all_ids, all-there, there-all, all-apart}
use Rattle.sc_axioms.proofs.Leading.{are-both, by_po, by_rf, by_co, by_fr}
use Rattle.sc_axioms.proofs.Extension.{extension, In-extension, In-extended, InOrder, extension-ordered, weaken}

-- the ids before one, and those behind it
middle : (R : OpId → OpId → Type 0) (before rest : List OpId) (id : OpId) → EachPair R (before ++ id ∷ rest)
    → ((x : OpId) → In x before → R x id) × ((x : OpId) → In x rest → R id x)
middle R [] rest id h = (λ x p. absurd p, h.0)
middle R (b ∷ before) rest id h =
    let later = middle R before rest id h.1 in (
      λ x p. elim p [ inl e ↦ subst (λ (w : OpId). R w id) e (h.0 id (In-append_right id before (id ∷ rest) (inl refl))) | inr q ↦ later.0 x q ],
      later.1,
    )

-- a source has one word
one_word : (cores : List (List Operation)) (addr v w : ℕ) (s : Source) → Gives cores addr v s → Gives cores addr w s → v ≡ w
one_word cores addr v w Init p q = p ∙ sym q
one_word cores addr v w (Store s) p q = (let both : Some p.0 ≡ Some q.0 = sym p.1 ∙ q.1 in let same : p.0 ≡ q.0 = cc in sym p.3 ∙ ap word_left same ∙ q.3)

module _ (cores : List (List Operation)) (e : Candidate) (well : IsWellFormed cores e) (acyclic : IsAcyclic (arrow cores e)) where
  abbrev order : List OpId
  order = extension (arrow cores e) (all_ids cores)

  in-order : EachPair (InOrder (arrow cores e)) order
  in-order = extension-ordered (arrow cores e) acyclic (all_ids cores) (all-apart cores)

  there : (id : OpId) → In id order → (y : Operation) × (operation_at cores id ≡ Some y)
  there id p = all-there cores id (In-extension (arrow cores e) id (all_ids cores) p)

  listed : (id : OpId) (y : Operation) → operation_at cores id ≡ Some y → In id order
  listed id y at = In-extended (arrow cores e) id (all_ids cores) (there-all cores id y at)

  -- ---- each operation once, in program order

  serial : IsSerialOrder cores order
  serial id = go (operation_at cores id) refl
    where
      go : (o : Option Operation) → operation_at cores id ≡ o → count_by (is_same_id id) order ≡ (if is_some o then 1 else 0)
      go None none = count_none (is_same_id id) order (λ x p. false_from_ne_true (is_same_id id x) (λ t.
          let at = (there x p).1 in
          let same = ap (operation_at cores) (same_id-true id x t) in
          cc))
      go (Some y) at = count_one (is_same_id id) order id
          (weaken (InOrder (arrow cores e)) (λ a b. is_same_id id a ≡ true → is_same_id id b ≡ true → ⊥) order (λ a b p q h s t. h.0 (sym (same_id-true id a s) ∙ same_id-true id b t)) in-order)
          (listed id y at) (same_id-refl id)

  program : KeepsProgramOrder order
  program = AllPairs-from_each _ order (weaken (InOrder (arrow cores e)) (λ a b. a.core ≡ b.core → a.index < b.index) order earlier in-order)
    where
      earlier : (a b : OpId) → In a order → In b order → InOrder (arrow cores e) a b → a.core ≡ b.core → a.index < b.index
      earlier a b p q h core = elim (cases_order a.index b.index) [
        | inl same ↦ absurd (h.0 (same_id a b core same))
        | inr t ↦ elim t [
          | inl l ↦ l
          | inr l ↦ absurd (
              let at_a = there a p in
              let at_b = there b q in
              let is_there = are-both cores (λ y z. true) b a at_b.0 at_a.0 at_b.1 at_a.1 refl in
              let back = by_po cores e b a (and_from _ _ (and_from _ _ is_there (eq-eqb b.core a.core (sym core))) (lt-ltb b.index a.index l)) in
              let none = h.1 in
              cc)
        ]
      ]

  -- ---- each read gets its source's word

  -- the last write of an address among ids, or the initial 0
  record Latest (before : List OpId) (addr : ℕ) : Type 0 where
    source : Source
    gives : Gives cores addr (last_value addr (done cores before)) source
    among : (w : OpId) → source ≡ Store w → In w before
    last : (w : OpId) (z : Operation) → In w before → operation_at cores w ≡ Some z → is_store_to addr z ≡ true → (source ≡ Store w) ⊎ (is_after e source w ≡ false)

  module _ (before rest : List OpId) (id : OpId) (y : Operation) (at : operation_at cores id ≡ Some y) (whole : before ++ id ∷ rest ≡ order) where
    around : ((x : OpId) → In x before → InOrder (arrow cores e) x id) × ((x : OpId) → In x rest → InOrder (arrow cores e) id x)
    around = middle (InOrder (arrow cores e)) before rest id (subst (EachPair (InOrder (arrow cores e))) (sym whole) in-order)

    -- what has an arrow to the id stands before it
    stands-before : (x : OpId) (z : Operation) → operation_at cores x ≡ Some z → arrow cores e x id ≡ true → In x before
    stands-before x z at_x to = elim (In-append x before (id ∷ rest) (subst (In x) (sym whole) (listed x z at_x))) [
      | inl p ↦ p
      | inr q ↦ elim q [
        | inl same ↦ absurd (acyclic id (one (subst (λ (w : OpId). arrow cores e w id ≡ true) (sym same) to)))
        | inr p ↦ absurd (let none = (around.1 x p).1 in cc)
      ]
    ]

    no-arrow : (x : OpId) → In x before → arrow cores e id x ≡ true → ⊥
    no-arrow x p to = (let none = (around.0 x p).1 in cc)

    module _ (word : ℕ) (reads : word_read y ≡ Some word) (latest : Latest before (address_of y)) where
      -- no write before the id is after its source
      none-after : (x : OpId) (z : Operation) → In x before → operation_at cores x ≡ Some z → is_store_to (address_of y) z ≡ true → is_after e (e.reads_from id) x ≡ true → ⊥
      none-after x z p at_x stores passed =
          let tests = and_from (is_some (word_read y)) (is_store_to (address_of y) z) (ap is_some reads) stores in
          let are = are-both cores (λ a b. is_some (word_read a) && is_store_to (address_of a) b) id x y z at at_x tests in
          let other : not (is_same_id id x) ≡ true = ap not (false_from_ne_true (is_same_id id x) (λ same. (around.0 x p).0 (sym (same_id-true id x same)))) in
          no-arrow x p (by_fr cores e id x (and_from _ _ (and_from _ _ are other) passed))

      is-latest : e.reads_from id ≡ latest.source
      is-latest = from (e.reads_from id) refl (well.sources id y word at reads)
        where
          -- a write of the address that isn't after another comes before it, or is the same
          by-order : (s : Source) → latest.source ≡ s → (w : OpId) (z : Operation) → operation_at cores w ≡ Some z → is_store_to (address_of y) z ≡ true
              → e.reads_from id ≡ Store w → is_after e s w ≡ false → Store w ≡ s
          by-order Init is w z at_w stores source none = absurd cc
          by-order (Store x) is w z at_w stores source none =
              let gives = subst (Gives cores (address_of y) (last_value (address_of y) (done cores before))) is latest.gives in
              elim (cases_Bool (is_same_id w x)) [
                | inl same ↦ ap Store (same_id-true w x same)
                | inr other ↦ (
                    let addr = store-address (address_of y) gives.0 gives.2 in
                    let writes = and_from (is_store_to (address_of gives.0) gives.0) (is_store_to (address_of gives.0) z)
                    (subst (λ (a : ℕ). is_store_to a gives.0 ≡ true) (sym addr) gives.2) (subst (λ (a : ℕ). is_store_to a z ≡ true) (sym addr) stores) in
                    let apart : x ≢ w = λ same. (let one = ap (is_same_id w) same ∙ same_id-refl w in cc) in
                    absurd (elim (or_cases (e.comes_before x w) (e.comes_before w x) (well.total x w apart (are-both cores are_writes x w gives.0 z gives.1 at_w writes))) [
                      | inl first ↦ cc
                      | inr second ↦ none-after x gives.0 (latest.among x is) gives.1 gives.2 (ap (λ s. is_after e s x) source ∙ second)
                    ]))
              ]

          nothing : (s : Source) → latest.source ≡ s → e.reads_from id ≡ Init → Init ≡ s
          nothing Init is source = refl
          nothing (Store x) is source = absurd (
              let gives = subst (Gives cores (address_of y) (last_value (address_of y) (done cores before))) is latest.gives in
              none-after x gives.0 (latest.among x is) gives.1 gives.2 (ap (λ s. is_after e s x) source))

          from : (s : Source) → e.reads_from id ≡ s → Gives cores (address_of y) word s → e.reads_from id ≡ latest.source
          from Init source gives = source ∙ nothing latest.source refl source
          from (Store w) source gives =
              let are = are-both cores (λ a b. is_some (word_read b)) w id gives.0 y gives.1 at (ap is_some reads) in
              let to = by_rf cores e w id (and_from _ _ are (ap (λ s. is_source s w) source ∙ same_id-refl w)) in
              elim (latest.last w gives.0 (stands-before w gives.0 gives.1 to) gives.1 gives.2) [
                | inl same ↦ source ∙ sym same
                | inr none ↦ source ∙ by-order latest.source refl w gives.0 gives.1 gives.2 source none
              ]

      is-answered : word ≡ last_value (address_of y) (done cores before)
      is-answered = one_word cores (address_of y) word (last_value (address_of y) (done cores before)) latest.source
          (subst (Gives cores (address_of y) word) is-latest (well.sources id y word at reads)) latest.gives

    pushed : done cores (before ++ id ∷ []) ≡ done cores before ++ y ∷ []
    pushed = done-append cores before id [] y (sym at)

    value : (addr : ℕ) → last_value addr (done cores (before ++ id ∷ [])) ≡ cond (is_store_to addr y) (word_left y) (last_value addr (done cores before))
    value addr =
        ap (last_value addr) pushed ∙ sym (after_is y (λ a. last_value a (done cores before)) (done cores before) addr refl) ∙ after-is (λ a. last_value a (done cores before)) y addr

    latest-more : (addr : ℕ) → Latest before addr → Latest (before ++ id ∷ []) addr
    latest-more addr old = go (is_store_to addr y) refl
      where
        last_one : (w : OpId) → In w (before ++ id ∷ []) → In w before ⊎ (id ≡ w)
        last_one w p = elim (In-append w before (id ∷ []) p) [ inl q ↦ inl q | inr q ↦ elim q [ inl same ↦ inr same | inr none ↦ absurd none ] ]

        go : (t : Bool) → is_store_to addr y ≡ t → Latest (before ++ id ∷ []) addr
        go true stores = record {
          source = Store id;
          gives = (y, at, stores, sym (value addr ∙ ap (λ t. cond t (word_left y) (last_value addr (done cores before))) stores));
          among = λ w same. In-append_right w before (id ∷ []) (inl (let one : Store id ≡ Store w = same in cc));
          last = λ w z p at_w also. elim (last_one w p) [
            | inr same ↦ inl (ap Store same)
            | inl q ↦ inr (false_from_ne_true (e.comes_before id w) (λ first.
                let same = store-address addr y stores in
                let writes = and_from (is_store_to (address_of y) y) (is_store_to (address_of y) z)
                (subst (λ (a : ℕ). is_store_to a y ≡ true) (sym same) stores) (subst (λ (a : ℕ). is_store_to a z ≡ true) (sym same) also) in
                no-arrow w q (by_co cores e id w (and_from _ _ (are-both cores are_writes id w y z at at_w writes) first))))
          ];
        }
        go false skips = record {
          source = old.source;
          gives = subst (λ (w : ℕ). Gives cores addr w old.source) (sym (value addr ∙ ap (λ t. cond t (word_left y) (last_value addr (done cores before))) skips)) old.gives;
          among = λ w same. In-append_left w before (id ∷ []) (old.among w same);
          last = λ w z p at_w also. elim (last_one w p) [
            | inl q ↦ old.last w z q at_w also
            | inr same ↦ absurd (let one : Some y ≡ Some z = sym at ∙ ap (operation_at cores) same ∙ at_w in let is : y ≡ z = cc in let stores = ap (is_store_to addr) is in cc)
          ];
        }

  answered : (before rest : List OpId) (id : OpId) (y : Operation) → operation_at cores id ≡ Some y → before ++ id ∷ rest ≡ order → ((addr : ℕ) → Latest before addr)
      → IsAnsweredBehind (done cores before) y
  answered before rest id (Loaded a v) at whole latest = is-answered before rest id (Loaded a v) at whole v refl (latest a)
  answered before rest id (Stored a v) at whole latest = tt
  answered before rest id (Swapped a r v) at whole latest = is-answered before rest id (Swapped a r v) at whole r refl (latest a)

  flat : (rest before : List OpId) → before ++ rest ≡ order → GivesFlatAnswers (done cores before) → ((addr : ℕ) → Latest before addr) → GivesFlatAnswers (done cores order)
  flat [] before whole so_far latest = subst (λ ids. GivesFlatAnswers (done cores ids)) (sym (append-nil before) ∙ whole) so_far
  flat (id ∷ rest) before whole so_far latest =
      let y = there id (subst (In id) whole (In-append_right id before (id ∷ rest) (inl refl))) in
      flat rest (before ++ id ∷ []) (append_assoc before (id ∷ []) rest ∙ whole)
      (subst GivesFlatAnswers (sym (pushed before rest id y.0 y.1 whole)) (flat_push (done cores before) y.0 so_far (answered before rest id y.0 y.1 whole latest)))
      (λ addr. latest-more before rest id y.0 y.1 whole addr (latest addr))

  pub allowed-is-consistent : IsConsistent cores
  allowed-is-consistent = (
    order,
    record {
      serial = serial;
      program = program;
      flat = flat order [] refl (record { loads = λ k addr v h. absurd cc; swaps = λ k addr r v h. absurd cc })
          (λ addr. record { source = Init; gives = refl; among = λ w same. absurd cc; last = λ w z p at stores. absurd p });
    },
  )
