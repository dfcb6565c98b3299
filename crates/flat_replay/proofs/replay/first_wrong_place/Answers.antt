use Rattle.std.proofs.Common.{rules, ◌≡◌, ◌∙◌, ◌<◌, ap, subst, length, slice_index, arith, sym, refl, Some, None, take, inl, inr}
use Rattle.std.specs.Bool.{Decides}
use Rattle.std.specs.Prelude.{slice_get}
use Rattle.std.proofs.lemmas.Bool.Decides.{Decides-eqb}
use Rattle.std.proofs.lemmas.List.{get_or_read, length-set, take_more}
use Rattle.std.proofs.lemmas.Option.{slice_get_read}
use Rattle.std.proofs.lemmas.Slice.Eq.{slice_eq-Decides}
use Rattle.mem_op.specs.declared.id.OpId.{OpId}
use Rattle.mem_op.specs.Consistency.{operation_at}
use Rattle.flat_replay.specs.Accesses.{operation_lists}
use Rattle.flat_replay.specs.Memory.{IsAnsweredBy, word_at}
use Rattle.flat_replay.proofs.Replaying.{replayed-more}
use Rattle.flat_replay.proofs.Turns.{within_cores}
use Rattle.flat_replay.proofs.Memories.{word_at-after}
use Rattle.flat_replay.specs.Orders.{ComeInOrder, ComesNext}
use Rattle.flat_replay.proofs.Orders.{come_more, comes_next, ended, lengths_are, next_answered, next_index, next_there}
use Rattle.flat_replay.proofs.replay.first_wrong_place.Goals as goal
use Rattle.flat_replay.proofs.replay.first_wrong_place.Goals.{then-index-via-then-index, then-index-via-else-index+then-not-answers}

pub returns-in_default-clause-first : goal.returns-in_default-clause-first
returns-in_default-clause-first c =
    let cores = operation_lists c.args.cores.now in
    let ids = c.args.ids.now in
    let place = c.replaying.place in
    let id = c.index-ids-place.result in
    let none : None ≡ operation_at cores id = sym c.in_default.is ∙ c.operation_at.ensures in
    inl (record {
      right = c.replaying.invariant.order;
      id = id;
      there = slice_get_read ids (length ids) place id refl c.replaying-test.true c.index-ids-place.is;
      wrong = next_there cores (take place ids) id none;
    })

pub returns-then-index-clause-first : goal.returns-then-index-clause-first
returns-then-index-clause-first c =
    let cores = operation_lists c.args.cores.now in
    let ids = c.args.ids.now in
    let place = c.replaying.place in
    let id = c.index-ids-place.result in
    let next = c.replaying.next.items in
    let replayed = c.replaying.invariant.replayed in
    inl (record {
      right = c.replaying.invariant.order;
      id = id;
      there = slice_get_read ids (length ids) place id refl c.replaying-test.true c.index-ids-place.is;
      wrong = λ comes. (
          let there : id.core < length cores = within_cores cores id c.in-Some.access c.in-Some.ensures in
          let many = c.replaying.invariant.many in
          let core_is = c.get-core.ensures.value ∙ ap (λ (x : OpId). x.core) c.id.view_is in
          let index_is = c.get-index.ensures.value ∙ ap (λ (x : OpId). x.index) c.id.view_is in
          elim c.then-index.branch [
            | then-index-via-then-index w ↦ (let read = get_or_read next c.get-core.result c.index.result.now (omega arith) c.index.ensures 0 in let turn = next_index cores (take place ids) next (word_at c.replaying.memory) id replayed comes in w.if-index.true cc)
            | then-index-via-else-index+then-not-answers w ↦ (
                let answered = w.answers.ensures.1 (next_answered cores (take place ids) next (word_at c.replaying.memory) id c.in-Some.access replayed c.in-Some.ensures comes) in
                let isnt = w.if-not-answers.true in
                cc
                )
          ]
          );
    })

pub index_mut-requires : goal.index_mut-requires
index_mut-requires c =
    let cores = operation_lists c.args.cores.now in
    let id = c.index-ids-place.result in
    let there : id.core < length cores = within_cores cores id c.in-Some.access c.in-Some.ensures in
    let many = c.replaying.invariant.many in
    let core_is = c.get-core.ensures.value ∙ ap (λ (x : OpId). x.core) c.id.view_is in
    omega arith

pub replaying-preserved : goal.replaying-preserved
replaying-preserved c =
    let cores = operation_lists c.args.cores.now in
    let ids = c.args.ids.now in
    let place = c.replaying.place in
    let id = c.index-ids-place.result in
    let next = c.replaying.next.items in
    let memory = word_at c.replaying.memory in
    let replayed = c.replaying.invariant.replayed in
    let found = c.in-Some.ensures in
    let there : id.core < length cores = within_cores cores id c.in-Some.access found in
    let many = c.replaying.invariant.many in
    let core_is = c.get-core.ensures.value ∙ ap (λ (x : OpId). x.core) c.id.view_is in
    let index_is = c.get-index.ensures.value ∙ ap (λ (x : OpId). x.index) c.id.view_is in
    let read = get_or_read next c.get-core.result c.index.result.now (omega arith) c.index.ensures 0 in
    let turn : id.index ≡ slice_index next id.core = cc in
    let answered : IsAnsweredBy memory c.in-Some.access = c.answers.ensures.0 c.if-not-answers.false in
    let at_place : slice_get ids place ≡ Some id = slice_get_read ids (length ids) place id refl c.replaying-test.true c.index-ids-place.is in
    record {
      replayed = rw (core_is, index_is, take_more ids place id c.replaying-test.true, sym c.index-ids-place.is)
          (replayed-more cores _ next memory (word_at c.perform.new.self) id c.in-Some.access replayed found (omega arith) turn answered
          (word_at-after c.in-Some.access c.replaying.memory c.perform.new.self tt c.in_ok-perform.ensures.stored));
      many = length-set _ _ _ ∙ c.replaying.invariant.many;
      order = come_more cores ids place c.replaying.invariant.order
          (λ x at. (let same : id ≡ x = (let both : Some id ≡ Some x = sym at_place ∙ at in cc) in
          subst (ComesNext cores (take place ids)) same (comes_next cores (take place ids) next memory id c.in-Some.access replayed found turn answered)));
    }

pub returns-then-eq-clause-first : goal.returns-then-eq-clause-first
returns-then-eq-clause-first c =
    let cores = operation_lists c.args.cores.now in
    let ids = c.args.ids.now in
    let end : c.replaying.place ≡ length ids = omega arith in
    let all = ended cores ids c.replaying.place c.replaying.next.items (word_at c.replaying.memory) end c.replaying.invariant.replayed c.replaying.invariant.many in
    let same : Decides c.eq.result (c.as_slice.result.now ≡ c.as_slice-2.result.now) = slice_eq-Decides Decides-eqb _ _ _ c.eq.ensures in
    (subst (ComeInOrder cores ids) end c.replaying.invariant.order, all.0 (sym c.as_slice.ensures.value ∙ same.0 c.if-eq.true ∙ c.as_slice-2.ensures.value ∙ c.in_ok-lengths.ensures ∙ lengths_are c.args.cores.now))

pub returns-clause-first : goal.returns-clause-first
returns-clause-first c =
    let cores = operation_lists c.args.cores.now in
    let ids = c.args.ids.now in
    let end : c.replaying.place ≡ length ids = omega arith in
    let all = ended cores ids c.replaying.place c.replaying.next.items (word_at c.replaying.memory) end c.replaying.invariant.replayed c.replaying.invariant.many in
    let same : Decides c.eq.result (c.as_slice.result.now ≡ c.as_slice-2.result.now) = slice_eq-Decides Decides-eqb _ _ _ c.eq.ensures in
    inr (
      search rules,
      subst (ComeInOrder cores ids) (search rules) c.replaying.invariant.order,
      λ sequential. (
          let isnt = c.if-eq.false in
          let is = same.1 (c.as_slice.ensures.value ∙ all.1 sequential ∙ sym (c.in_ok-lengths.ensures ∙ lengths_are c.args.cores.now) ∙ sym c.as_slice-2.ensures.value) in
          cc
          ),
    )
