use Rattle.std.proofs.Common.{rules, ◌≡◌, [], ◌∷◌, ◌++◌, length, Some, None, refl, ap, arith}
use Rattle.std.specs.Prelude.{codes}
use Rattle.litmus.specs.TestGrammar.{show_text, shown_text, AreShown, IsRegister}
use Rattle.litmus.specs.Parts.{ShownParts}
use Rattle.litmus.specs.inner.Reading.{shown_at}
use Rattle.litmus.proofs.WordLines.{line_once, line_told, registers_are_words}
use Rattle.litmus.proofs.words.read_show.Goals as goal
use Rattle.text_lines.specs.Words.{spaced}
use Rattle.text_lines.proofs.SpacedWords.{no_words, one_more_word, word_shorter}

pub returns-in_default : goal.returns-in_default
unfolding show_text
returns-in_default c = λ shown are is. c.in_default.ensures.none refl (spaced shown_text shown) is

pub loop-shown-init : goal.loop-shown-init
loop-shown-init c =
    let none : c.new-shown.result.items ≡ [] = search rules in
    rw none (no_words shown_text (IsRegister c.args.cores) c.in-Some.words.now)

pub loop-shown-smaller : goal.loop-shown-smaller
loop-shown-smaller c =
    let found : (one : ShownParts) × (shown_at c.args.cores c.loop-shown.rest.now ≡ Some (one, c.in-Some-2.behind.now))
    × (c.push_shown.new.shown.items ≡ c.loop-shown.shown.items ++ one ∷ []) = search rules in
    word_shorter (registers_are_words c.args.cores c.requires) c.loop-shown.rest.now c.in-Some-2.behind.now found.0 found.1

pub loop-shown-preserved : goal.loop-shown-preserved
loop-shown-preserved c =
    let found : (one : ShownParts) × (shown_at c.args.cores c.loop-shown.rest.now ≡ Some (one, c.in-Some-2.behind.now))
    × (c.push_shown.new.shown.items ≡ c.loop-shown.shown.items ++ one ∷ []) = search rules in
    let more = one_more_word (registers_are_words c.args.cores c.requires) c.in-Some.words.now c.loop-shown.rest.now c.in-Some-2.behind.now c.loop-shown.shown.items found.0 c.loop-shown.invariant found.1 in
    rw found.2 more

pub returns-then-are_registers : goal.returns-then-are_registers
unfolding show_text
returns-then-are_registers c =
    let none : (shown_at c.args.cores c.loop-shown.rest.now ≡ None) × (c.push_shown.new.shown.items ≡ c.loop-shown.shown.items) = search rules in
    let all = c.if-are_registers.ensures in
    let counted : c.len.result ≡ length c.push_shown.new.shown.items = search arith in
    let text = line_told (registers_are_words c.args.cores c.requires) (codes "show") c.args.line.now c.in-Some.words.now c.loop-shown.rest.now c.loop-shown.shown.items c.in-Some.ensures.found c.loop-shown.invariant all.0 in
    let fits : AreShown c.args.cores c.loop-shown.shown.items =
    record { some = omega (arith, all.1, counted, ap length none.1); few = omega (arith, all.2, counted, ap length none.1); each = c.loop-shown.invariant.each } in
    rw none.1 (fits, text)

pub returns-else-are_registers : goal.returns-else-are_registers
unfolding show_text
returns-else-are_registers c = λ shown are is.
    let none : (shown_at c.args.cores c.loop-shown.rest.now ≡ None) × (c.push_shown.new.shown.items ≡ c.loop-shown.shown.items) = search rules in
    let counted : c.len.result ≡ length c.push_shown.new.shown.items = search arith in
    let once = line_once (registers_are_words c.args.cores c.requires) (codes "show") c.args.line.now c.in-Some.words.now c.loop-shown.rest.now c.loop-shown.shown.items c.in-Some.ensures.found c.loop-shown.invariant none.0 shown are.each is in
    c.if-are_registers.ensures once.0 (omega (arith, are.some, counted, ap length none.1, ap length once.1)) (omega (arith, are.few, counted, ap length none.1, ap length once.1))
