-- The least front is taken.
use Rattle.std.proofs.Common.{◌≡◌, Some, length, arith, refl, sym, ap, ◌∙◌}
use Rattle.std.proofs.lemmas.Bool.{and_parts}
use Rattle.std.specs.Prelude.{◌&&◌, get_or, slice_get, slice_set}
use Rattle.std.proofs.lemmas.List.{set-get_or}
use Rattle.std.proofs.lemmas.Option.{slice_get_read}
use Rattle.merge_judge.proofs.Merged.{all_ended, both_true, count_is, faultless, merged_more, room, taken_there}
use Rattle.merge_judge.proofs.merge.Merge.take_first.Goals as goal

pub first-core-requires : goal.first-core-requires
first-core-requires g c = let all = c.requires.1.1.1.all in omega (arith, all.many, all.some, ap length c.deref.ensures.value)

pub returns-in_default : goal.returns-in_default
returns-in_default g c = record {
  clean = λ h. h;
  taken = (let lanes = c.args.self.now.lanes.items in
      let core = c.first-core.result in
      ap (slice_set lanes core) c.index_mut-lane.ensures.value ∙ set-get_or lanes core c.index_mut-lane.result.now);
  merged = λ before merged done m. (
      let lanes = c.args.self.now.lanes.items in
      let core = c.first-core.result in
      let lane = c.index_mut-lane.result.now in
      rw (ap (slice_set lanes core) c.index_mut-lane.ensures.value ∙ set-get_or lanes core lane) (all_ended m core (rw c.deref.ensures.value at c.first-core.ensures.within) (rw c.deref.ensures.value at c.first-core.ensures.first) lane c.index_mut-lane.ensures.value (sym c.front.ensures ∙ c.in_default.is), m));
}

pub at-index-requires : goal.at-index-requires
at-index-requires g c =
    rw c.merged.ensures (room c.requires.1.1.1 c.first-core.result (rw c.deref.ensures.value at c.first-core.ensures.within) (rw c.deref.ensures.value at c.first-core.ensures.first) c.index_mut-lane.result.now c.index_mut-lane.ensures.value c.in-Some.front (sym c.front.ensures ∙ c.in-Some.is))

pub advance-requires-clause-faultless : goal.advance-requires-clause-faultless
advance-requires-clause-faultless g c =
    faultless c.requires.1.1.1 c.first-core.result (rw c.deref.ensures.value at c.first-core.ensures.within) (rw c.deref.ensures.value at c.first-core.ensures.first) c.index_mut-lane.result.now c.index_mut-lane.ensures.value c.in-Some.front (sym c.front.ensures ∙ c.in-Some.is)

pub returns : goal.returns
returns g c = record {
  clean = λ h. (and_parts c.args.self.now.clean c.is_clean.result h).0;
  taken = rw c.at-place.ensures (taken_there c.requires.1.1.1 c.first-core.result (rw c.deref.ensures.value at c.first-core.ensures.within) (rw c.deref.ensures.value at c.first-core.ensures.first) c.index_mut-lane.result.now c.index_mut-lane.ensures.value c.in-Some.front (sym c.front.ensures ∙ c.in-Some.is) c.advance.new.self);
  merged = λ before merged done m. (
      let core = c.first-core.result in
      let lane = c.index_mut-lane.result.now in
      let readers = c.args.readers.now in
      let source = get_or readers core c.index-readers-core.result in
      let within = (rw c.deref.ensures.value at c.first-core.ensures.within) in
      let first = (rw c.deref.ensures.value at c.first-core.ensures.first) in
      let value = c.index_mut-lane.ensures.value in
      let front = sym c.front.ensures ∙ c.in-Some.is in
      let source_is : slice_get readers core ≡ Some source = slice_get_read readers (length readers) core c.index-readers-core.result refl (omega (arith, m.all.readers, m.all.many, within)) c.index-readers-core.is ∙ ap (λ s. Some s) c.index-readers-core.is in
      let index_is = c.at-index.ensures ∙ c.merged.ensures ∙ count_is m core within first lane value c.in-Some.front front in
      rw (c.at-place.ensures, index_is) (merged_more m core within first lane value c.in-Some.front front source c.advance.new.source source_is c.advance.new.self (c.args.self.now.clean && c.is_clean.result)
      c.advance.ensures.advanced c.advance.ensures.falls
      (both_true c.args.self.now.clean c.is_clean.result c.is_clean.ensures)));
}
