use Rattle.std.proofs.Common.{rules, length, refl, sym, ap, arith}
use Rattle.std.specs.Prelude.{codes}
use Rattle.decimal_text.specs.Numbers.{numeral}
use Rattle.litmus.specs.TestGrammar.{forbid_text, IsOutcome}
use Rattle.litmus.proofs.InFront.{first_of_line, none_of_other, none_without_feed}
use Rattle.litmus.proofs.WordLines.{forbid_no_lf, line_once, line_told}
use Rattle.litmus.proofs.words.read_forbid.Goals as goal
use Rattle.text_lines.specs.Words.{spaced}
use Rattle.text_lines.proofs.SpacedWords.{numbers_are_words, one_more_word, word_shorter}

pub returns-in_default : goal.returns-in_default
returns-in_default c = none_without_feed forbid_text (IsOutcome c.args.count) c.args.text.now (c.in_default.ensures.none refl)

pub returns-in_default-after_text : goal.returns-in_default-after_text
unfolding forbid_text
returns-in_default-after_text c =
    let found = c.in-Some.ensures.found in
    none_of_other forbid_text (IsOutcome c.args.count) (λ values are. forbid_no_lf values) c.args.text.now c.in-Some.line.now c.in-Some.behind.now found.0 found.1
    (λ values are is. c.in_default-after_text.ensures.none refl (spaced numeral values) is)

pub loop-value-smaller : goal.loop-value-smaller
loop-value-smaller c =
    word_shorter numbers_are_words c.loop-value.rest.now c.in-Some-read_spaced.more.now c.in-Some-read_spaced.value (sym c.in-Some-read_spaced.ensures)

pub loop-value-preserved : goal.loop-value-preserved
loop-value-preserved c =
    let more = one_more_word numbers_are_words c.in-Some-after_text.words.now c.loop-value.rest.now c.in-Some-read_spaced.more.now c.loop-value.values.items c.in-Some-read_spaced.value
    c.loop-value.invariant (sym c.in-Some-read_spaced.ensures) in
    rw c.in_ok-push.ensures.items more

pub returns-then-are_values : goal.returns-then-are_values
unfolding forbid_text
returns-then-are_values c =
    let found = c.in-Some.ensures.found in
    let all = c.if-are_values.ensures in
    first_of_line forbid_text (IsOutcome c.args.count) c.args.text.now c.in-Some.line.now c.in-Some.behind.now c.loop-value.values.items found.1 (
      record { one_each = omega (arith, all.1); words = c.loop-value.invariant.each },
      line_told numbers_are_words (codes "forbid") c.in-Some.line.now c.in-Some-after_text.words.now c.loop-value.rest.now c.loop-value.values.items
          c.in-Some-after_text.ensures.found c.loop-value.invariant all.0,
    )

pub returns : goal.returns
unfolding forbid_text
returns c =
    let found = c.in-Some.ensures.found in
    none_of_other forbid_text (IsOutcome c.args.count) (λ values are. forbid_no_lf values) c.args.text.now c.in-Some.line.now c.in-Some.behind.now found.0 found.1 (λ values are is.
    let once = line_once numbers_are_words (codes "forbid") c.in-Some.line.now c.in-Some-after_text.words.now c.loop-value.rest.now c.loop-value.values.items
    c.in-Some-after_text.ensures.found c.loop-value.invariant (search rules) values are.words is in
    c.if-are_values.ensures once.0 (omega (arith, ap length once.1, are.one_each)))
