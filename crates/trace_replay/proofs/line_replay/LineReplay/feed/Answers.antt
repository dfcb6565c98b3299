use Rattle.std.proofs.Common.{[], ◌∷◌, ◌++◌, refl, sym, ap, subst, ◌∙◌, append_assoc, append-nil}
use Rattle.std.proofs.lemmas.Result.{err_from_is_err_and}
use Rattle.trace.proofs.Feeding.{cut_fault, cut_line}
use Rattle.trace_replay.specs.inner.Feeding.{IsStopOf, WasFed}
use Rattle.trace_replay.proofs.Feeding.{fed_line, fed_more, settled}
use Rattle.trace_replay.proofs.line_replay.LineReplay.feed.Goals as goal

pub loop-part-init : goal.loop-part-init
loop-part-init c = λ bytes fed. ([], refl, subst (WasFed _ _) (sym (append-nil bytes)) fed)

pub returns-in_err-end : goal.returns-in_err-end
returns-in_err-end c = λ bytes fed.
    let p = err_from_is_err_and c.from_residual.result c.from_residual.ensures.1 in
    let t = c.loop-part.invariant bytes fed in
    let found = c.in-Some.ensures.found in
    rw (p.1, p.2) (λ more.
    subst (λ b. IsStopOf b c.in_err-end.field-0.0)
    (cut_fault bytes t.0 c.in-Some.part.now c.in-Some.behind.now c.args.piece.now more (t.1 ∙ ap (λ r. t.0 ++ r) found.1))
    (settled _ _ c.in-Some.part.now (bytes ++ t.0) c.in_err-end.field-0.0 t.2 found.0 (c.in_err-end.ensures t.2.said t.2.stands) (c.in-Some.behind.now ++ more)))

pub loop-part-preserved : goal.loop-part-preserved
loop-part-preserved c = λ bytes fed.
    let t = c.loop-part.invariant bytes fed in
    let found = c.in-Some.ensures.found in
    let line = c.in_ok-end.ensures t.2.said t.2.stands in (
      t.0 ++ (c.in-Some.part.now ++ 10 ∷ []),
      cut_line t.0 c.in-Some.part.now c.in-Some.behind.now c.args.piece.now c.loop-part.rest.now t.1 found.1,
      subst (WasFed c.end.new.self c.end.new.begun.items) (append_assoc bytes t.0 (c.in-Some.part.now ++ 10 ∷ []))
          (fed_line c.loop-part.self c.end.new.self c.loop-part.begun.items c.end.new.begun.items c.in-Some.part.now (bytes ++ t.0) t.2 found.0 line.0 line.1),
    )

pub returns : goal.returns
returns c = λ bytes fed.
    let t = c.loop-part.invariant bytes fed in
    let one = c.in_default.ensures.none refl in
    subst (WasFed c.loop-part.self c.extend_from_slice.new.self.items) (append_assoc bytes t.0 c.loop-part.rest.now ∙ ap (λ r. bytes ++ r) (sym t.1))
    (fed_more c.loop-part.self c.loop-part.begun.items c.extend_from_slice.new.self.items c.loop-part.rest.now (bytes ++ t.0) t.2 one c.in_ok-extend_from_slice.ensures.items)
