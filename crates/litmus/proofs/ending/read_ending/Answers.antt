use Rattle.std.proofs.Common.{rules, refl, sym, ap, ◌∙◌, arith, length, drop}
use Rattle.std.proofs.lemmas.List.{length-map}
use Rattle.core_program.proofs.SetTexts.{rest_is}
use Rattle.litmus.specs.TestGrammar.{show_text, AreShown}
use Rattle.litmus.specs.declared.litmus_fault.LitmusFault.TheVariants.{BadLitmusLine}
use Rattle.litmus.specs.inner.Ending.{ShowInFront, bytes_after, end_missing, show_missing, word_lists}
use Rattle.litmus.proofs.InFront.{first_of_line, none_of_other, none_without_feed}
use Rattle.litmus.proofs.WordLines.{show_no_lf}
use Rattle.litmus.proofs.ending.read_ending.Goals as goal

pub returns-in_default : goal.returns-in_default
returns-in_default c = show_missing (none_without_feed show_text (AreShown c.args.cores) c.args.text.now (c.in_default.ensures.none refl)) c.wrong_line.ensures

pub returns-in_default-2 : goal.returns-in_default-2
returns-in_default-2 c =
    let found = c.in-Some.ensures.found in
    show_missing (none_of_other show_text (AreShown c.args.cores) (λ shown are. show_no_lf shown) c.args.text.now c.in-Some.first.now c.in-Some.behind.now found.0 found.1 (search rules)) c.wrong_line-in_default-2.ensures

pub returns-in-None : goal.returns-in-None
returns-in-None c =
    let forbids = c.in_ok-forbids.forbids in
    let behind = c.in-Some.behind.now in
    let first : ShowInFront c.args.cores c.in-Some-2.shown.items c.args.text.now behind =
    first_of_line show_text (AreShown c.args.cores) c.args.text.now c.in-Some.first.now behind c.in-Some-2.shown.items c.in-Some.ensures.found.1 (search rules) in
    end_missing c.in-Some-2.shown.items (word_lists forbids.outcomes.items) behind (drop forbids.taken behind) first (search rules)
    (λ rest is. c.in-None.ensures.none refl rest (sym (rest_is behind forbids.taken) ∙ is))
    (ap (λ n. BadLitmusLine n) (omega (arith, length-map forbids.outcomes.items (λ values. values.items))))

pub returns-in-Some-after_text : goal.returns-in-Some-after_text
returns-in-Some-after_text c =
    let forbids = c.in_ok-forbids.forbids in
    let behind = c.in-Some.behind.now in
    let first : ShowInFront c.args.cores c.in-Some-2.shown.items c.args.text.now behind =
    first_of_line show_text (AreShown c.args.cores) c.args.text.now c.in-Some.first.now behind c.in-Some-2.shown.items c.in-Some.ensures.found.1 (search rules) in
    bytes_after c.in-Some-2.shown.items (word_lists forbids.outcomes.items) behind (drop forbids.taken behind) c.in-Some-after_text.field-0.now first (search rules)
    (rest_is behind forbids.taken ∙ c.in-Some-after_text.ensures.found) (λ none. omega (arith, c.in-Some-after_text.len_at_least, ap length none))
    (ap (λ n. BadLitmusLine n) (omega (arith, length-map forbids.outcomes.items (λ values. values.items))))
