use Rattle.std.proofs.Common.{◌≡◌, ◌<◌, ℕ, List, length, vec_len, sym, subst, arith}
use Rattle.std.proofs.lemmas.Bool.Decides.{nat_tests}
use Rattle.std.proofs.lemmas.List.{nil_from_length}
use Rattle.std.proofs.lemmas.Result.{err_from_is_err_and}
use Rattle.trace.specs.Reading.{Reading, WasFed}
use Rattle.trace.specs.Texts.{IsFaultAt}
use Rattle.trace.specs.inner.Taking.{TakesLine}
use Rattle.trace.proofs.Feeding.{ended, ended_with, fault_at_end}
use Rattle.trace.proofs.reader.TraceReader.finish.Goals as goal
use Rattle.trace.proofs.reader.TraceReader.finish.Goals.{then-not-is_empty+in_ok-take_line, else-not-is_empty}

pub returns-in_err-take_line-clause-ends : goal.returns-in_err-take_line-clause-ends
returns-in_err-take_line-clause-ends c = λ bytes fed.
    let p = err_from_is_err_and c.from_residual-in_err-take_line.result c.from_residual-in_err-take_line.ensures.1 in
    let w = subst (λ (s : Reading). WasFed s bytes) (sym c.self.view_is) fed in
    let n : vec_len c.self.inside.begun ≡ length c.self.inside.begun.items = c.self.inside.begun.ok.0 in
    let is_empty = c.is_empty.ensures in
    let isnt = c.if-not-is_empty.true in
    let some : 0 < length c.self.inside.begun.items = grind (arith, nat_tests) in
    rw (p.1, p.2)
    (fault_at_end _ bytes c.in_err-take_line.field-0.0 w some
    (subst (λ (l : List ℕ). IsFaultAt w.said l c.in_err-take_line.field-0.0) c.deref.ensures.value (c.in_err-take_line.ensures w.said w.stands)))

pub returns-clause-ends : goal.returns-clause-ends
returns-clause-ends c = λ bytes fed.
    let s = subst (λ (s : Reading). WasFed s bytes) (sym c.self.view_is) fed in
    let n : vec_len c.self.inside.begun ≡ length c.self.inside.begun.items = c.self.inside.begun.ok.0 in
    let is_empty = c.is_empty.ensures in
    elim c.if-not-is_empty.branch [
      | then-not-is_empty+in_ok-take_line w ↦ (
          let isnt = w.if-not-is_empty.true in
          let some : 0 < length c.self.inside.begun.items = grind (arith, nat_tests) in
          rw w.trace-is (ended_with _ bytes w.take_line.new.trace w.take_line.new.count s some
          (subst (λ (l : List ℕ). TakesLine s.said l w.take_line.new.trace w.take_line.new.count) w.deref.ensures.value (w.in_ok-take_line.ensures s.said s.stands))))
      | else-not-is_empty w ↦ (
          let is = w.if-not-is_empty.false in
          let none : length c.self.inside.begun.items ≡ 0 = grind (arith, nat_tests) in
          rw w.trace-is (ended _ bytes s (nil_from_length c.self.inside.begun.items none)))
    ]
