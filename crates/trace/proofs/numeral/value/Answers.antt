use Rattle.std.proofs.Common.{◌≡◌, ◌<◌, ◌+◌, ◌*◌, ◌≤◌, ◌^◌, get_or, arith, ap, sym, ◌∙◌, inl, inr}
use Rattle.std.proofs.lemmas.Bool.{cases_lt}
use Rattle.decimal_text.specs.Reading.{front_now}
use Rattle.trace.specs.Grammar.{digit_value}
use Rattle.trace.specs.inner.Reading.{fitting, onward}
use Rattle.trace.proofs.Numerals.{overflows, stops, fits}
use Rattle.trace.proofs.numeral.value.Goals as goal
use Rattle.trace.proofs.numeral.value.Goals.{in_default, in-len1-up+then-digit-base}

pub returns-in_err-checked_mul : goal.returns-in_err-checked_mul
returns-in_err-checked_mul c =
    let rest = c.loop-rest.rest.now in
    let large : 2 ^ 64 ≤ c.loop-rest.value * c.args.base = elim (cases_lt (c.loop-rest.value * c.args.base) (2 ^ 64)) [ inl lt ↦ absurd (c.in_err-checked_mul.ensures lt) | inr le ↦ le ] in
    let digit : digit_value (get_or rest 0 0) < c.args.base = omega (arith, c.digit_value-digit.ensures.value, c.if-digit-base.false) in
    ap front_now c.from_residual.ensures
    ∙ overflows c.args.base c.loop-rest.value rest c.requires.low (omega (arith, c.in-len1-up.len_at_least)) digit (omega arith)
    ∙ ap fitting c.loop-rest.invariant.1

pub returns-in_err-value : goal.returns-in_err-value
returns-in_err-value c =
    let rest = c.loop-rest.rest.now in
    let product = c.in_ok-checked_mul.ensures.1 in
    let digit : digit_value (get_or rest 0 0) < c.args.base = omega (arith, c.digit_value-digit.ensures.value, c.if-digit-base.false) in
    let large : 2 ^ 64 ≤ c.in_ok-checked_mul.field-0 + c.digit_value-digit.result =
    elim (cases_lt (c.in_ok-checked_mul.field-0 + c.digit_value-digit.result) (2 ^ 64)) [ inl lt ↦ absurd (c.in_err-value.ensures lt) | inr le ↦ le ] in
    ap front_now c.from_residual-in_err-value.ensures
    ∙ overflows c.args.base c.loop-rest.value rest c.requires.low (omega (arith, c.in-len1-up.len_at_least)) digit (omega (arith, c.digit_value-digit.ensures.value, product, large))
    ∙ ap fitting c.loop-rest.invariant.1

pub returns-else-goes_on : goal.returns-else-goes_on
returns-else-goes_on c =
    let rest = c.loop-rest.rest.now in
    let end : onward c.args.base c.loop-rest.value rest ≡ (c.loop-rest.value, rest) = elim c.if-rest-lt1.branch [
      | in_default w ↦ stops c.args.base c.loop-rest.value rest (λ some. absurd (omega (arith, w.in_default.len_below)))
      | in-len1-up+then-digit-base w ↦ stops c.args.base c.loop-rest.value rest (λ some. omega (arith, w.digit_value-digit.ensures.value, w.if-digit-base.true))
    ] in
    fits c.loop-rest.value rest c.loop-rest.invariant.0 (sym c.goes_on.ensures ∙ c.if-goes_on.false) ∙ ap fitting (sym end ∙ c.loop-rest.invariant.1)
