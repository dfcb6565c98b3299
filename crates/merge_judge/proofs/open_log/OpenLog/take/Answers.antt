-- The bytes that were fed, and those that are left.
use Rattle.std.proofs.Common.{◌-◌, ◌+◌, ◌++◌, ◌≤◌, Ok, take, drop, subst, sym, List, ℕ, arith, length-take}
use Rattle.std.proofs.lemmas.Result.{err_from_is_err_and}
use Rattle.log_file.specs.Answering.{AnswersOne, HasAnswered}
use Rattle.log_file.specs.Feeding.{IsSettled}
use Rattle.merge_judge.specs.LogKept.{opened}
use Rattle.merge_judge.specs.OpenedLog.{OpenedLog}
use Rattle.merge_judge.specs.inner.Following.{TakesOne}
use Rattle.merge_judge.proofs.Following.{one_taken}
use Rattle.merge_judge.proofs.open_log.OpenLog.take.Goals as goal

pub returns-in_err-used-clause-taken : goal.returns-in_err-used-clause-taken
returns-in_err-used-clause-taken c = λ bytes records answered.
    let p = err_from_is_err_and c.from_residual.result c.from_residual.ensures.1 in
    let a = c.self.inside in
    let here : HasAnswered a.reader bytes records = subst (λ (s : OpenedLog). HasAnswered s.reader bytes records) (sym c.self.view_is) answered in
    rw (p.1, p.2, sym c.self.view_is) (subst (λ (xs : List ℕ). IsSettled a.reader.core a.reader.cores (bytes ++ take (a.filled - a.used) (drop a.used xs)) c.in_err-used.field-0.0) c.deref.ensures.value
    (c.in_err-used.ensures.fed bytes records here).1)

pub returns-clause-taken : goal.returns-clause-taken
returns-clause-taken c = λ bytes records answered.
    let a = c.self.inside in
    let used = c.in_ok-used.used in
    let here : HasAnswered a.reader bytes records = subst (λ (s : OpenedLog). HasAnswered s.reader bytes records) (sym c.self.view_is) answered in
    let few : used ≤ a.filled - a.used = omega (arith, c.in_ok-used.ensures.within, length-take (a.filled - a.used) (drop a.used c.deref.result.now)) in
    subst (λ (s : OpenedLog). TakesOne bytes records s (Ok c.in_ok-used.logged) (opened (record { reader = c.feed_one.new.self; piece = a.piece; used = a.used + used; filled = a.filled }))) c.self.view_is (one_taken bytes records a.reader c.feed_one.new.self a.piece.items a.used a.filled c.self.invariant.used used c.in_ok-used.logged few
    (subst (λ (xs : List ℕ). AnswersOne bytes records (take (a.filled - a.used) (drop a.used xs)) (used, c.in_ok-used.logged) c.feed_one.new.self) c.deref.ensures.value
    (c.in_ok-used.ensures.fed bytes records here)))
