-- The first line that is wrong, wherever the reader meets it.
use Rattle.std.proofs.Common.{◌≡◌, ℕ, List, ◌<◌, refl, arith, length, drop}
use Rattle.std.proofs.lemmas.Result.{err_from_is_err_and}
use Rattle.std.proofs.lemmas.List.{length-map}
use Rattle.core_program.specs.declared.sections.Sections.{Sections}
use Rattle.core_program.specs.Sections.{AreSectionsOf, section_lists}
use Rattle.core_program.proofs.SectionsOf.{AfterSections}
use Rattle.core_program.proofs.SetTexts.{after_header, rest_is}
use Rattle.litmus.specs.inner.Ending.{IsEndingFault, IsWrongLine}
use Rattle.litmus.specs.inner.Reading.{head, head_text, HeadParts, IsHead}
use Rattle.litmus.proofs.LineFaults.{bad_header, ending_refused, no_core_line, sections_refused, test_spelled}
use Rattle.litmus.proofs.parsing.read_lines.Goals as goal
use Rattle.text_lines.specs.Items.{ItemInFront}

stands : (h : HeadParts) (text body : List ℕ) (found : Sections) → ItemInFront head_text IsHead h text body → AreSectionsOf h.format h.cores body found
    → AfterSections h.format (head_text h) h.cores text (section_lists found.programs.items) (drop found.taken body) found.line
stands h text body found there are =
    after_header h.format text body (drop found.taken body) (head_text h) h.cores found.line (section_lists found.programs.items) there.1 are.in_front are.line

counted : (found : Sections) → length (section_lists found.programs.items) ≡ length found.programs.items
counted found = length-map found.programs.items (λ section. section.items)

pub returns-in_default : goal.returns-in_default
returns-in_default c = bad_header c.args.text.now (c.in_default.ensures.none refl)

pub returns-in_err-sections : goal.returns-in_err-sections
returns-in_err-sections c =
    let p = err_from_is_err_and c.from_residual-in_err-sections.result c.from_residual-in_err-sections.ensures.1 in
    rw (p.1, p.2) (sections_refused (head c.in-Some.header) c.args.text.now c.in-Some.body.now c.in_err-sections.field-0.0 c.in-Some.ensures.found c.in_err-sections.ensures.refused)

pub returns-then-count-header : goal.returns-then-count-header
returns-then-count-header c =
    let h = head c.in-Some.header in
    let found = c.in_ok-sections.sections in
    let there = c.in-Some.ensures.found in
    let are = c.in_ok-sections.ensures.found in
    let rest = drop found.taken c.in-Some.body.now in
    let less : length (section_lists found.programs.items) < h.cores = omega (arith, counted found, c.if-count-header.true) in
    let begun : length (section_lists found.programs.items) ≡ c.len-count.result = omega (arith, counted found) in
    let wrong : IsWrongLine found.line (length (section_lists found.programs.items)) rest c.wrong_line.result = rw (begun, rest_is c.in-Some.body.now found.taken) c.wrong_line.ensures in
    no_core_line h there.0 c.args.text.now rest found.line (section_lists found.programs.items) (stands h c.args.text.now c.in-Some.body.now found there are) c.wrong_line.result wrong less (are.all less)

pub returns-in_err-ending : goal.returns-in_err-ending
returns-in_err-ending c =
    let p = err_from_is_err_and c.from_residual-in_err-ending.result c.from_residual-in_err-ending.ensures.1 in
    let h = head c.in-Some.header in
    let found = c.in_ok-sections.sections in
    let there = c.in-Some.ensures.found in
    let are = c.in_ok-sections.ensures.found in
    let rest = drop found.taken c.in-Some.body.now in
    let count : length (section_lists found.programs.items) ≡ h.cores = omega (arith, counted found, c.if-count-header.false, are.in_front.within) in
    let fault : IsEndingFault h.cores found.line rest c.in_err-ending.field-0.0 = rw (rest_is c.in-Some.body.now found.taken) c.in_err-ending.ensures in
    rw (p.1, p.2)
    (ending_refused h there.0 c.args.text.now rest found.line (section_lists found.programs.items) (stands h c.args.text.now c.in-Some.body.now found there are) count c.in_err-ending.field-0.0 fault)
