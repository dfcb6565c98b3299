-- An order gives a candidate: each read's source is the last earlier write, and writes come as they stand.
use Rattle.std.specs.Prelude.{◌≡◌, ◌≢◌, ℕ, nat_lt, nat_le, ◌<◌, Bool, true, ◌==◌, ◌&&◌, not, List, refl, Option, Some, None, is_some}
use Rattle.std.proofs.Common.{sym, ◌∙◌, ap, subst, inl, inr, arith}
use Rattle.std.proofs.lemmas.Bool.{and_from, and_parts, cases_order, false_from_ne_true, lt-ltb, le-leb, ltb-true, or_left, or_right}
use Rattle.std.proofs.lemmas.Option.{same_Some}
use Rattle.mem_op.specs.declared.id.OpId.{OpId}
use Rattle.mem_op.specs.declared.id.Source.{Source}
use Rattle.mem_op.specs.declared.id.Source.TheVariants.{Init, Store}
use Rattle.mem_op.specs.Consistency.{Operation, operation_at, is_same_id, is_store_to, IsSequentialOrder}
use Rattle.line_stamps.proofs.Ids.{same_id-true, same_id-refl}
use Rattle.flat_replay.specs.Accesses.{address_of, word_read}
use Rattle.refutation.specs.declared.step.Point.{Point}
use Rattle.refutation.specs.declared.step.Point.TheVariants as point
use Rattle.refutation.proofs.Timings.{Gave, NoStoreBetween, Sourced, IsTiming}
use Rattle.refutation.proofs.Times.{place, placed, same_place, time_in, timing-in}
use Rattle.sc_axioms.specs.Axioms.{Candidate, are_writes, both, is_source, is_after, po, rf, co, fr, arrow, Gives, IsWellFormed, Leads, one, more, IsAllowed}
use Rattle.sc_axioms.proofs.Leading.{both-are, arrow-cases}

abbrev as_point : Source → Point
as_point Init = point.Init
as_point (Store w) = point.At w

as_source : (p : Point) → (s : Source) × (as_point s ≡ p)
as_source point.Init = (Init, refl)
as_source (point.At w) = (Store w, refl)

gave : (cores : List (List Operation)) (addr word : ℕ) (s : Source) → Gave cores addr word (as_point s) → Gives cores addr word s
gave cores addr word Init h = h
gave cores addr word (Store w) h = h

module _ (cores : List (List Operation)) (order : List OpId) (sequential : IsSequentialOrder cores order) where
  timing : IsTiming cores (time_in order)
  timing = timing-in cores order sequential

  -- the source of a word that an operation reads at an address
  record FromSource (r : OpId) (addr word : ℕ) (s : Source) : Type 0 where
    gives : Gives cores addr word s
    earlier : time_in order (as_point s) < time_in order (point.At r)
    last : NoStoreBetween cores (time_in order) addr (as_point s) (time_in order (point.At r))

  sourced : (r : OpId) (addr word : ℕ) → Sourced cores (time_in order) addr word (time_in order (point.At r)) → (s : Source) × FromSource r addr word s
  sourced r addr word t =
      let s = as_source t.source in (
        s.0,
        record {
          gives = gave cores addr word s.0 (subst (Gave cores addr word) (sym s.1) t.gives);
          earlier = subst (λ (p : Point). time_in order p < time_in order (point.At r)) (sym s.1) t.before;
          last = subst (λ (p : Point). NoStoreBetween cores (time_in order) addr p (time_in order (point.At r))) (sym s.1) t.last;
        },
      )

  -- whatever is read, each id has one
  source_at : (r : OpId) → (s : Source) × ((y : Operation) (word : ℕ) → operation_at cores r ≡ Some y → word_read y ≡ Some word → FromSource r (address_of y) word s)
  source_at r = by_operation (operation_at cores r) refl
    where
      by_word : (y : Operation) → operation_at cores r ≡ Some y → (w : Option ℕ) → word_read y ≡ w
          → (s : Source) × ((z : Operation) (word : ℕ) → operation_at cores r ≡ Some z → word_read z ≡ Some word → FromSource r (address_of z) word s)
      by_word y there None none = (Init, λ z word at reads. absurd (let same = same_Some y z (sym there ∙ at) in cc))
      by_word y there (Some v) found =
          let s = sourced r (address_of y) v (timing.sources r y v there found) in (
            s.0,
            λ z word at reads.
                let same : y ≡ z = same_Some y z (sym there ∙ at) in
                let one_word : v ≡ word = same_Some v word (sym found ∙ ap word_read same ∙ reads) in
                subst (λ (w : ℕ). FromSource r (address_of z) w s.0) one_word (subst (λ (x : Operation). FromSource r (address_of x) v s.0) same s.1),
          )

      by_operation : (o : Option Operation) → operation_at cores r ≡ o
          → (s : Source) × ((z : Operation) (word : ℕ) → operation_at cores r ≡ Some z → word_read z ≡ Some word → FromSource r (address_of z) word s)
      by_operation None none = (Init, λ z word at reads. absurd (let both : None ≡ Some z = sym none ∙ at in cc))
      by_operation (Some y) there = by_word y there (word_read y) refl

  abbrev candidate : Candidate
  candidate = record { reads_from = λ r. (source_at r).0; comes_before = λ a b. nat_lt (place order a) (place order b) }

  -- ---- each arrow leads to a later time

  later_po : (a b : OpId) → po cores a b ≡ true → place order a < place order b
  later_po a b h =
      let parts = and_parts (both cores (λ y z. true) a b && (a.core == b.core)) (nat_lt a.index b.index) h in
      let firsts = and_parts (both cores (λ y z. true) a b) (a.core == b.core) parts.0 in
      let there = both-are cores (λ y z. true) a b firsts.0 in
      let less = ltb-true a.index b.index parts.1 in
      let up = timing.program (point.At a) (point.At b) (and_from (a.core == b.core) (nat_le a.index b.index) firsts.1 (le-leb a.index b.index (omega arith))) in
      let apart : place order a ≢ place order b = λ same. (
      let e = same_place cores order sequential a b same (placed cores order sequential a there.first there.at_first) in
      let index : a.index ≡ b.index = ap (λ (x : OpId). x.index) e in
      omega arith) in
      omega arith

  read-source : (r : OpId) (y : Operation) → operation_at cores r ≡ Some y → is_some (word_read y) ≡ true → (word : ℕ) × FromSource r (address_of y) word (candidate.reads_from r)
  read-source r y there reads = go (word_read y) refl reads
    where
      go : (w : Option ℕ) → word_read y ≡ w → is_some w ≡ true → (word : ℕ) × FromSource r (address_of y) word (candidate.reads_from r)
      go None none t = absurd cc
      go (Some word) found t = (word, (source_at r).1 y word there found)

  later_rf : (w r : OpId) → rf cores candidate w r ≡ true → place order w < place order r
  later_rf w r h =
      let parts = and_parts (both cores (λ y z. is_some (word_read z)) w r) (is_source (candidate.reads_from r) w) h in
      let there = both-are cores (λ y z. is_some (word_read z)) w r parts.0 in
      let from = read-source r there.second there.at_second there.passes in
      go (candidate.reads_from r) parts.1 from.1.earlier
    where
      go : (s : Source) → is_source s w ≡ true → time_in order (as_point s) < time_in order (point.At r) → place order w < place order r
      go Init is earlier = absurd cc
      go (Store s) is earlier = (let same = ap (place order) (same_id-true s w is) in omega arith)

  later_co : (a b : OpId) → co cores candidate a b ≡ true → place order a < place order b
  later_co a b h = ltb-true _ _ (and_parts (both cores are_writes a b) (nat_lt (place order a) (place order b)) h).1

  later_fr : (r w : OpId) → fr cores candidate r w ≡ true → place order r < place order w
  later_fr r w h =
      let test : Operation → Operation → Bool = λ y z. is_some (word_read y) && is_store_to (address_of y) z in
      let parts = and_parts (both cores test r w && not (is_same_id r w)) (is_after candidate (candidate.reads_from r) w) h in
      let firsts = and_parts (both cores test r w) (not (is_same_id r w)) parts.0 in
      let there = both-are cores test r w firsts.0 in
      let tests = and_parts (is_some (word_read there.first)) (is_store_to (address_of there.first) there.second) there.passes in
      let from = read-source r there.first there.at_first tests.0 in
      let not_before = go (candidate.reads_from r) parts.1 in
      let apart : place order r ≢ place order w = λ same. (
      let e = same_place cores order sequential r w same (placed cores order sequential r there.first there.at_first) in
      let one = ap (λ (x : OpId). is_same_id r x) (sym e) ∙ same_id-refl r in
      cc) in
      elim (from.1.last w there.second there.at_second tests.1) [ inl l ↦ absurd (omega arith) | inr l ↦ omega arith ]
    where
      go : (s : Source) → is_after candidate s w ≡ true → time_in order (as_point s) < time_in order (point.At w)
      go Init after = omega arith
      go (Store s) after = (let less = ltb-true (place order s) (place order w) after in omega arith)

  later : (a b : OpId) → arrow cores candidate a b ≡ true → place order a < place order b
  later a b h = elim (arrow-cases cores candidate a b h) [
    | inl t ↦ elim t [ inl p ↦ later_po a b p | inr p ↦ later_rf a b p ]
    | inr t ↦ elim t [ inl p ↦ later_co a b p | inr p ↦ later_fr a b p ]
  ]

  leads-later : {a b : OpId} → Leads (arrow cores candidate) a b → place order a < place order b
  leads-later (one {a = a} {b = b} h) = later a b h
  leads-later (more {a = a} {b = b} h p) = (let first = later a b h in let rest = leads-later p in omega arith)

  -- ---- the candidate

  is-well-formed : IsWellFormed cores candidate
  is-well-formed = record {
    sources = λ r y word there reads. ((source_at r).1 y word there reads).gives;
    irreflexive = λ a. false_from_ne_true _ (λ h. (let less = ltb-true (place order a) (place order a) h in omega arith));
    transitive = λ a b c p q. lt-ltb (place order a) (place order c) (let l = ltb-true (place order a) (place order b) p in let m = ltb-true (place order b) (place order c) q in omega arith);
    total = λ a b other writes. elim (cases_order (place order a) (place order b)) [
      | inl same ↦ absurd (let there = both-are cores are_writes a b writes in other (same_place cores order sequential a b same (placed cores order sequential a there.first there.at_first)))
      | inr t ↦ elim t [
        | inl l ↦ or_left _ _ (lt-ltb (place order a) (place order b) l)
        | inr l ↦ or_right _ _ (lt-ltb (place order b) (place order a) l)
      ]
    ];
    swaps = λ s swap. (
        let there = both-are cores (λ y z. is_some (word_read y) && are_writes y z) s s swap in
        let reads = and_parts (is_some (word_read there.first)) (are_writes there.first there.second) there.passes in
        after s (candidate.reads_from s) (read-source s there.first there.at_first reads.0).1.earlier);
    between = λ s w p q. (let l = later_fr s w p in let m = later_co w s q in omega arith);
  }
    where
      after : (w : OpId) (s : Source) → time_in order (as_point s) < time_in order (point.At w) → is_after candidate s w ≡ true
      after w Init l = refl
      after w (Store s) l = lt-ltb (place order s) (place order w) (omega arith)

  pub order-is-allowed : IsAllowed cores
  order-is-allowed = (candidate, is-well-formed, λ id p. (let less = leads-later p in omega arith))
