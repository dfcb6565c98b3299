-- What is answered and written.
use Rattle.std.proofs.Common.{[], Ok, arith, length, ap, ◌∙◌, refl}
use Rattle.std.proofs.lemmas.Result.{err_from_is_err_and}
use Rattle.merge_judge.proofs.Judged.{end_fails, few_done, look_fails, one_more, no_memory, merged_fault, merged_no, merged_yes, told_by}
use Rattle.merge_judge.proofs.Shown.{shown_none}
use Rattle.merge_judge.proofs.WritingFacts.{appends_none}
use Rattle.merge_judge.proofs.judging.merged.Goals as goal

pub returns-in_err-merge-clause-exact : goal.returns-in_err-merge-clause-exact
returns-in_err-merge-clause-exact g c =
    let p = err_from_is_err_and c.from_residual.result c.from_residual.ensures.1 in
    rw (p.1, p.2) (no_memory g.S.RecordSource.remaining g.S.RecordSource.failed (g.W.ByteSink.contents c.args.order_out.now) c.args.readers.now _)

pub returns-in_err-words-clause-exact : goal.returns-in_err-words-clause-exact
returns-in_err-words-clause-exact g c =
    let p = err_from_is_err_and c.from_residual-in_err-words.result c.from_residual-in_err-words.ensures.1 in
    rw (p.1, p.2) (no_memory g.S.RecordSource.remaining g.S.RecordSource.failed (g.W.ByteSink.contents c.args.order_out.now) c.args.readers.now _)

pub loop-entry-init : goal.loop-entry-init
loop-entry-init g c = record {
  merged = _;
  done = [];
  is_merged = c.in_ok-merge.ensures;
  counted = refl;
  whole = record { words = c.in_ok-words.ensures.words; origins = c.in_ok-words.ensures.origins };
  holds = λ none. c.in_ok-words.ensures;
  first = refl;
  written = [];
  appends = appends_none (g.W.ByteSink.contents c.args.order_out.now);
  order = [];
  lines = c.requires.none;
  shown = shown_none (length c.args.readers.now) _;
  all = λ none clean. refl;
  quiet = refl;
}

pub overflow_add-count : goal.overflow_add-count
overflow_add-count g c =
    let s = c.loop-entry.invariant in
    omega (arith, few_done s.is_merged, s.counted)

pub loop-entry-smaller : goal.loop-entry-smaller
loop-entry-smaller g c =
    let s = c.loop-entry.invariant in
    omega (arith, few_done s.is_merged, s.counted)

pub loop-entry-preserved : goal.loop-entry-preserved
loop-entry-preserved g c =
    let s = c.loop-entry.invariant in
    let l = c.in_ok-look.ensures in
    one_more s c.take_first.new.self c.in-Some.entry c.look.new.fault l.fault c.in-Some.ensures.clean c.in-Some.ensures.taken (c.in-Some.ensures.merged c.args.readers.now s.merged s.done s.is_merged)
    (g.W.ByteSink.contents c.look.new.order_out) (g.W.ByteSink.failed c.look.new.order_out) c.look.new.words.values.items c.look.new.words.sources.items (g.O.Order.kept c.look.new.order) _
    l.whole l.holds l.written refl (l.failures.1 (λ x. cc))

pub returns-in_err-look-clause-exact : goal.returns-in_err-look-clause-exact
returns-in_err-look-clause-exact g c =
    let p = err_from_is_err_and c.from_residual-in_err-look.result c.from_residual-in_err-look.ensures.1 in
    let s = c.loop-entry.invariant in
    let l = c.in_err-look.ensures in
    rw (p.1, p.2) (look_fails s c.take_first.new.self c.in-Some.entry c.look.new.fault l.fault c.in-Some.ensures.clean c.in-Some.ensures.taken (c.in-Some.ensures.merged c.args.readers.now s.merged s.done s.is_merged)
    (g.W.ByteSink.contents c.look.new.order_out) (g.O.Order.kept c.look.new.order) c.in_err-look.field-0.0 (l.unwritten refl) l.written)

pub returns-in_err-fault-clause-exact : goal.returns-in_err-fault-clause-exact
returns-in_err-fault-clause-exact g c =
    let p = err_from_is_err_and c.from_residual-in_err-fault.result c.from_residual-in_err-fault.ensures.1 in
    let s = c.loop-entry.invariant in
    let t = c.in_default.ensures.merged c.args.readers.now s.merged s.done s.is_merged in
    let final = c.final_verdict.ensures.answer c.args.readers.now s.merged s.done t.1 (λ steady. s.first) s.counted in
    rw (p.1, p.2) (merged_fault s t.1 c.in_default.ensures.taken c.in_err-fault.field-0.0 c.in_err-fault.ensures.fault (rw c.in_err-fault.was at final))

pub returns-in-No-clause-exact : goal.returns-in-No-clause-exact
returns-in-No-clause-exact g c =
    let s = c.loop-entry.invariant in
    let t = c.in_default.ensures.merged c.args.readers.now s.merged s.done s.is_merged in
    let final = c.final_verdict.ensures.answer c.args.readers.now s.merged s.done t.1 (λ steady. s.first) s.counted in
    merged_no s t.1 c.in_default.ensures.taken c.in-No.fault (rw (c.in_ok-fault.was ∙ ap (λ v. Ok v) c.in-No.is) at final)

pub returns-in_err-end-in-Yes-clause-exact : goal.returns-in_err-end-in-Yes-clause-exact
returns-in_err-end-in-Yes-clause-exact g c =
    let p = err_from_is_err_and c.from_residual-in_err-end-in-Yes.result c.from_residual-in_err-end-in-Yes.ensures.1 in
    let s = c.loop-entry.invariant in
    let t = c.in_default.ensures.merged c.args.readers.now s.merged s.done s.is_merged in
    let final = c.final_verdict.ensures.answer c.args.readers.now s.merged s.done t.1 (λ steady. s.first) s.counted in
    let is = c.in_ok-fault.was ∙ ap (λ v. Ok v) c.in-Yes.is in
    let yes = c.final_verdict.ensures.yes c.in-Yes.count is in
    rw (p.1, p.2) (end_fails s t.1 c.in_default.ensures.taken c.in-Yes.count (rw is at final) yes.1 yes.0 c.in_default.ensures.clean (g.W.ByteSink.contents c.end.new.out) c.in_err-end-in-Yes.field-0.0 c.in_err-end-in-Yes.ensures.written)

pub returns-in_ok-end-in-Yes-clause-exact : goal.returns-in_ok-end-in-Yes-clause-exact
returns-in_ok-end-in-Yes-clause-exact g c =
    let s = c.loop-entry.invariant in
    let t = c.in_default.ensures.merged c.args.readers.now s.merged s.done s.is_merged in
    let final = c.final_verdict.ensures.answer c.args.readers.now s.merged s.done t.1 (λ steady. s.first) s.counted in
    let is = c.in_ok-fault.was ∙ ap (λ v. Ok v) c.in-Yes.is in
    let yes = c.final_verdict.ensures.yes c.in-Yes.count is in
    merged_yes s t.1 c.in_default.ensures.taken c.in-Yes.count (rw is at final) yes.1 yes.0 c.in_default.ensures.clean (g.W.ByteSink.contents c.end.new.out) c.in_ok-end-in-Yes.ensures.written

pub returns-in_err-look-clause-failures : goal.returns-in_err-look-clause-failures
returns-in_err-look-clause-failures g c =
    let p = err_from_is_err_and c.from_residual-in_err-look.result c.from_residual-in_err-look.ensures.1 in
    told_by c.in_err-look.field-0.0 c.from_residual-in_err-look.result p.0 p.1 p.2 _ _ _ c.loop-entry.invariant.quiet c.in_err-look.ensures.failures

pub returns-in_err-end-in-Yes-clause-failures : goal.returns-in_err-end-in-Yes-clause-failures
returns-in_err-end-in-Yes-clause-failures g c =
    let p = err_from_is_err_and c.from_residual-in_err-end-in-Yes.result c.from_residual-in_err-end-in-Yes.ensures.1 in
    told_by c.in_err-end-in-Yes.field-0.0 c.from_residual-in_err-end-in-Yes.result p.0 p.1 p.2 _ _ _ c.loop-entry.invariant.quiet c.in_err-end-in-Yes.ensures.failures

pub final_verdict-requires-clause-ended : goal.final_verdict-requires-clause-ended
final_verdict-requires-clause-ended g c =
    let s = c.loop-entry.invariant in
    (c.in_default.ensures.merged c.args.readers.now s.merged s.done s.is_merged).0
