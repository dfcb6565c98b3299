use Rattle.std.proofs.Common.{[], ◌∷◌, ◌++◌, refl, sym, ap, subst, ◌∙◌, append_assoc, append-nil}
use Rattle.std.proofs.lemmas.Result.{err_from_is_err_and}
use Rattle.trace.specs.Reading.{Reading, WasFed}
use Rattle.trace.specs.Texts.{IsFault}
use Rattle.trace.proofs.Feeding.{fed_line, fed_more, settled, cut_fault, cut_line}
use Rattle.trace.proofs.reader.TraceReader.take.Goals as goal

pub loop-part-init : goal.loop-part-init
loop-part-init c = λ bytes fed. (
  [],
  refl,
  subst (λ (s : Reading). WasFed s (bytes ++ [])) (sym c.self.view_is) (subst (WasFed c.args.self.now) (sym (append-nil bytes)) fed),
)

pub returns-in_err-end_line : goal.returns-in_err-end_line
returns-in_err-end_line c = λ bytes fed.
    let p = err_from_is_err_and c.from_residual.result c.from_residual.ensures.1 in
    let t = c.loop-part.invariant bytes fed in
    let found = c.in-Some.ensures.found in
    rw (p.1, p.2) (λ more.
    subst (λ b. IsFault b c.in_err-end_line.field-0.0)
    (cut_fault bytes t.0 c.in-Some.part.now c.in-Some.behind.now c.args.piece.now more (t.1 ∙ ap (λ r. t.0 ++ r) found.1))
    (settled _ (bytes ++ t.0) c.in-Some.part.now c.in_err-end_line.field-0.0 t.2 found.0 (c.in_err-end_line.ensures t.2.said t.2.stands) (c.in-Some.behind.now ++ more)))

pub loop-part-preserved : goal.loop-part-preserved
loop-part-preserved c = λ bytes fed.
    let t = c.loop-part.invariant bytes fed in
    let found = c.in-Some.ensures.found in
    let line = c.in_ok-end_line.ensures t.2.said t.2.stands in (
      t.0 ++ (c.in-Some.part.now ++ 10 ∷ []),
      cut_line t.0 c.in-Some.part.now c.in-Some.behind.now c.args.piece.now c.loop-part.rest.now t.1 found.1,
      subst (WasFed _) (append_assoc bytes t.0 (c.in-Some.part.now ++ 10 ∷ []))
          (fed_line _ (record { cores = c.end_line.new.trace; count = c.end_line.new.count; begun = c.end_line.new.begun.items; fault = c.loop-part.self-inside.fault })
          (bytes ++ t.0) c.in-Some.part.now t.2 found.0 line.0 line.1 refl),
    )

pub returns : goal.returns
returns c = λ bytes fed.
    let t = c.loop-part.invariant bytes fed in
    let one = c.in_default.ensures.none refl in
    subst (WasFed _) (append_assoc bytes t.0 c.loop-part.rest.now ∙ ap (λ r. bytes ++ r) (sym t.1))
    (fed_more _ (record { cores = c.loop-part.self-inside.trace; count = c.loop-part.self-inside.count; begun = c.extend_from_slice.new.self.items; fault = c.loop-part.self-inside.fault })
    (bytes ++ t.0) c.loop-part.rest.now t.2 one refl refl c.in_ok-extend_from_slice.ensures.items refl)
