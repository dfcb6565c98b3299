use Rattle.std.proofs.Common.{◌≡◌, ◌≢◌, ◌<◌, ◌==◌, ℕ, Bool, true, false, List, [], length, arith, ap, subst}
use Rattle.std.proofs.lemmas.Bool.Decides.{nat_tests}
use Rattle.std.proofs.lemmas.List.{nil_from_length}
use Rattle.std.proofs.lemmas.Result.{err_from_is_err_and}
use Rattle.trace_replay.specs.declared.line_replay.LineReplay.{LineReplay}
use Rattle.trace_replay.proofs.Feeding.{Counts, ended, ended_with, stop_at_end}
use Rattle.trace_replay.proofs.line_replay.LineReplay.finish.Goals as goal
use Rattle.trace_replay.proofs.line_replay.LineReplay.finish.Goals.{then-not-is_empty+in_ok-take, else-not-is_empty}

some_bytes : (begun : List ℕ) → 0 < length begun → begun ≢ []
some_bytes begun some e = omega (arith, some, ap length e)

some_if : (b : Bool) (n : ℕ) → b ≡ (n == 0) → b ≡ false → 0 < n
some_if b n is isnt = grind (arith, nat_tests)

none_if : (b : Bool) (n : ℕ) → b ≡ (n == 0) → b ≡ true → n ≡ 0
none_if b n is so = grind (arith, nat_tests)

pub returns-in_err-take : goal.returns-in_err-take
returns-in_err-take c = λ bytes fed.
    let p = err_from_is_err_and c.from_residual.result c.from_residual.ensures.1 in
    let some = some_if c.is_empty.result (length c.args.begun.now) c.is_empty.ensures c.if-not-is_empty.true in
    rw (p.1, p.2) (stop_at_end c.args.self c.args.begun.now bytes c.in_err-take.field-0.0 fed (some_bytes c.args.begun.now some) (c.in_err-take.ensures fed.said fed.stands))

pub returns : goal.returns
returns c = λ bytes fed. elim c.if-not-is_empty.branch [
  | then-not-is_empty+in_ok-take w ↦ (
      let some = some_if c.is_empty.result (length c.args.begun.now) c.is_empty.ensures w.if-not-is_empty.true in
      ended_with c.args.self w.take.new.self c.args.begun.now bytes c.count.result fed (some_bytes c.args.begun.now some) (w.in_ok-take.ensures fed.said fed.stands)
      (subst (λ (l : LineReplay). Counts l.replayer c.count.result) w.self-is c.count.ensures))
  | else-not-is_empty w ↦ (
      let zero = none_if c.is_empty.result (length c.args.begun.now) c.is_empty.ensures w.if-not-is_empty.false in
      ended c.args.self c.args.begun.now bytes c.count.result fed (nil_from_length c.args.begun.now zero)
      (subst (λ (l : LineReplay). Counts l.replayer c.count.result) w.self-is c.count.ensures))
]
