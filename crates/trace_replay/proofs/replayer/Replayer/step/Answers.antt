use Rattle.std.proofs.Common.{◌≡◌, ◌<◌, slice_index, arith, refl}
use Rattle.std.proofs.lemmas.Result.{err_from_is_err_and}
use Rattle.trace_replay.specs.declared.replayer.Replayer.{Replayer}
use Rattle.trace_replay.proofs.States.{told_id, stands_kept, stands_next, with_index, wrong_next}
use Rattle.trace_replay.proofs.replayer.Replayer.step.Goals as goal

pub returns-in-Some-clause-performed : goal.returns-in-Some-clause-performed
returns-in-Some-clause-performed c = λ steps stands.
    wrong_next c.args.self.now steps c.args.core c.args.access.now _ c.in-Some.wrong stands
    (told_id c.args.self.now steps c.args.core c.get-place.result c.args.access.now stands (omega (arith, c.get-place.ensures.in_range)) c.get-place.ensures.value)
    c.in-Some.ensures

pub returns-clause-performed : goal.returns-clause-performed
returns-clause-performed c = λ steps stands.
    let r : Replayer = c.args.self.now in
    let low : c.args.core < 64 = omega (arith, c.get-place.ensures.in_range) in
    let at : c.get-place.result ≡ c.args.core = c.get-place.ensures.value in
    stands_next r _ steps c.args.core c.args.access.now stands low c.in_default.ensures
    (with_index c.args.core (slice_index r.counts c.get-place.result)) (told_id r steps c.args.core c.get-place.result c.args.access.now stands low at)
    c.in_ok-perform.ensures.stored c.get-place.result c.saturating_add.result at c.saturating_add.ensures refl c.saturating_add-self.ensures

pub returns-in_err-perform-clause-kept : goal.returns-in_err-perform-clause-kept
returns-in_err-perform-clause-kept c = λ steps stands.
    let p = err_from_is_err_and c.from_residual.result c.from_residual.ensures.1 in
    rw p.1 (stands_kept c.args.self.now _ steps stands refl c.in_err-perform.ensures.kept refl)
