-- The record at the index, or the end of the log.
use Rattle.std.proofs.Common.{◌≤◌, ◌+◌, ◌∙◌, ap, arith, map, subst, sym, Ok, Some}
use Rattle.std.specs.Option.{option_map}
use Rattle.std.proofs.lemmas.List.{length-map}
use Rattle.std.proofs.lemmas.Option.{slice_get-map, slice_get_within}
use Rattle.mem_op.specs.Limits.{operation_limit}
use Rattle.core_program.proofs.Jumps.{among}
use Rattle.log_record.specs.declared.format.Format.TheVariants.{Two}
use Rattle.log_record.specs.declared.record.Record.{Record}
use Rattle.log_record.specs.Line.{FitsIn}
use Rattle.merge_judge.specs.LaneParts.{KeptLog}
use Rattle.merge_judge.specs.inner.Following.{FollowsOn, IsNextOn}
use Rattle.merge_judge.specs.inner.Given.{kept_at, text_left}
use Rattle.merge_judge.proofs.Slices.{given_all, given_more, nothing_from}
use Rattle.merge_judge.proofs.record_slice.RecordSliceRecordSourceOpenSlice.next.Goals as goal

pub returns-in_default-clause-next : goal.returns-in_default-clause-next
returns-in_default-clause-next g c = λ core cores first answered h.
    let s = c.args.self.now in
    let a = c.log.inside in
    let records = map g.T.Recorded.recorded a.records.now in
    let still = Some (text_left s.core s.cores s.records s.given) in
    let here = subst (λ (k : KeptLog). FollowsOn core cores first still k answered) (sym c.log.view_is) h in
    let past = nothing_from a.records.now a.given (sym c.item_at.ensures.item ∙ c.in_default.is) in
    given_all core cores a.core a.cores first still records a.given answered here (omega (arith, past, c.log.invariant.1, length-map a.records.now g.T.Recorded.recorded))

pub to_record-requires : goal.to_record-requires
to_record-requires g c =
    let a = c.log.inside in
    let there = slice_get-map g.T.Recorded.recorded a.records.now a.given ∙ ap (option_map g.T.Recorded.recorded) (sym c.item_at.ensures.item ∙ c.in-Some.is) in
    among (FitsIn Two) (map g.T.Recorded.recorded a.records.now) a.given (g.T.Recorded.recorded c.in-Some.item) c.log.invariant.0.of_log.fit there

pub returns-clause-next : goal.returns-clause-next
returns-clause-next g c = λ core cores first answered h.
    let s = c.args.self.now in
    let a = c.log.inside in
    let records = map g.T.Recorded.recorded a.records.now in
    let still = Some (text_left s.core s.cores s.records s.given) in
    let here = subst (λ (k : KeptLog). FollowsOn core cores first still k answered) (sym c.log.view_is) h in
    let there = slice_get-map g.T.Recorded.recorded a.records.now a.given ∙ ap (option_map g.T.Recorded.recorded) (sym c.item_at.ensures.item ∙ c.in-Some.is) in
    let fits = among (FitsIn Two) records a.given (g.T.Recorded.recorded c.in-Some.item) c.log.invariant.0.of_log.fit there in
    let few : a.given + 1 ≤ operation_limit = omega (arith, slice_get_within records a.given (g.T.Recorded.recorded c.in-Some.item) there, c.log.invariant.0.of_log.few) in
    subst (λ (r : Record). IsNextOn core cores first answered (Ok (Some r)) still (kept_at a.core a.cores records (a.given + 1))) (sym c.to_record.ensures)
    (given_more core cores a.core a.cores first still records a.given answered here (g.T.Recorded.recorded c.in-Some.item) there fits few)
