-- The first line that is wrong, wherever the reader meets it.
use Rattle.std.proofs.Common.{ℕ, List, ◌∷◌, ◌++◌, ◌+◌, ◌<◌, refl, sym, ap, ◌∙◌, arith, length, drop}
use Rattle.std.proofs.lemmas.Result.{err_from_is_err_and}
use Rattle.std.proofs.lemmas.List.{length-map, nil_from_length}
use Rattle.core_program.specs.declared.format.ProgramFormat.{ProgramFormat}
use Rattle.core_program.specs.declared.sections.Sections.{Sections}
use Rattle.core_program.specs.Grammar.{end_text, format_number, header_text}
use Rattle.core_program.specs.Sections.{AreSectionsOf, section_lists}
use Rattle.core_program.specs.inner.Sections.{HeaderInFront}
use Rattle.core_program.proofs.Headers.{header_takes, no_header}
use Rattle.core_program.proofs.SectionsOf.{AfterSections}
use Rattle.core_program.proofs.SetTexts.{after_header, bad_header, more_behind, no_core_line, no_last_line, rest_is, sections_refused, spelled}
use Rattle.core_program.proofs.set_text.read_set.Goals as goal

stands : (format : ProgramFormat) (text body : List ℕ) (cores : ℕ) (found : Sections) → HeaderInFront format cores text body → AreSectionsOf format cores body found
    → AfterSections format (header_text (format_number format) cores) cores text (section_lists found.programs.items) (drop found.taken body) found.line
stands format text body cores found there are =
    after_header format text body (drop found.taken body) (header_text (format_number format) cores) cores found.line (section_lists found.programs.items) there.2 are.in_front are.line

pub returns-in_default : goal.returns-in_default
returns-in_default c = bad_header c.args.text.now (no_header c.args.text.now c.in_default.ensures)

pub read_sections-requires : goal.read_sections-requires
read_sections-requires c = (header_takes c.args.text.now (c.in-Some.format, c.in-Some.cores, c.in-Some.body.now) (sym c.in-Some.ensures)).1

pub returns-in_err-sections : goal.returns-in_err-sections
returns-in_err-sections c =
    let p = err_from_is_err_and c.from_residual.result c.from_residual.ensures.1 in
    rw (p.1, p.2) (sections_refused c.in-Some.format c.args.text.now c.in-Some.body.now c.in-Some.cores c.in_err-sections.field-0.0 (header_takes c.args.text.now (c.in-Some.format, c.in-Some.cores, c.in-Some.body.now) (sym c.in-Some.ensures)) c.in_err-sections.ensures.refused)

pub returns-then-len-cores : goal.returns-then-len-cores
returns-then-len-cores c =
    let found = c.in_ok-sections.sections in
    let there = header_takes c.args.text.now (c.in-Some.format, c.in-Some.cores, c.in-Some.body.now) (sym c.in-Some.ensures) in
    let are = c.in_ok-sections.ensures.found in
    let less : length (section_lists found.programs.items) < c.in-Some.cores = omega (arith, length-map found.programs.items (λ section. section.items), c.if-len-cores.true) in
    no_core_line c.in-Some.format c.args.text.now (drop found.taken c.in-Some.body.now) c.in-Some.cores found.line (section_lists found.programs.items) there.0 there.1
    (stands c.in-Some.format c.args.text.now c.in-Some.body.now c.in-Some.cores found there are) less (are.all less)

pub returns-in-None : goal.returns-in-None
returns-in-None c =
    let found = c.in_ok-sections.sections in
    let there = header_takes c.args.text.now (c.in-Some.format, c.in-Some.cores, c.in-Some.body.now) (sym c.in-Some.ensures) in
    let are = c.in_ok-sections.ensures.found in
    no_last_line c.in-Some.format c.args.text.now (drop found.taken c.in-Some.body.now) c.in-Some.cores found.line (section_lists found.programs.items) there.0 there.1
    (stands c.in-Some.format c.args.text.now c.in-Some.body.now c.in-Some.cores found there are)
    (omega (arith, length-map found.programs.items (λ section. section.items), c.if-len-cores.false, are.in_front.within))
    (λ behind is. c.in-None.ensures.none refl behind (sym (rest_is c.in-Some.body.now found.taken) ∙ is))

pub returns-in-Some-after_text : goal.returns-in-Some-after_text
returns-in-Some-after_text c =
    let found = c.in_ok-sections.sections in
    let there = header_takes c.args.text.now (c.in-Some.format, c.in-Some.cores, c.in-Some.body.now) (sym c.in-Some.ensures) in
    let are = c.in_ok-sections.ensures.found in
    more_behind c.in-Some.format c.args.text.now (drop found.taken c.in-Some.body.now) c.in-Some-after_text.field-0.now c.in-Some.cores found.line (found.line + 1)
    (section_lists found.programs.items) there.0 there.1 (stands c.in-Some.format c.args.text.now c.in-Some.body.now c.in-Some.cores found there are)
    (omega (arith, length-map found.programs.items (λ section. section.items), c.if-len-cores.false, are.in_front.within))
    (rest_is c.in-Some.body.now found.taken ∙ c.in-Some-after_text.ensures.found) (omega (arith, c.in-Some-after_text.len_at_least)) refl

pub returns-in-Some-empty : goal.returns-in-Some-empty
returns-in-Some-empty c =
    let found = c.in_ok-sections.sections in
    let there = header_takes c.args.text.now (c.in-Some.format, c.in-Some.cores, c.in-Some.body.now) (sym c.in-Some.ensures) in
    let are = c.in_ok-sections.ensures.found in
    spelled c.in-Some.format c.args.text.now (drop found.taken c.in-Some.body.now) c.in-Some.cores found.line (section_lists found.programs.items) there.0 there.1
    (stands c.in-Some.format c.args.text.now c.in-Some.body.now c.in-Some.cores found there are)
    (omega (arith, length-map found.programs.items (λ section. section.items), c.if-len-cores.false, are.in_front.within))
    (rest_is c.in-Some.body.now found.taken ∙ c.in-Some-empty.ensures.found ∙ ap (λ (xs : List ℕ). end_text ++ 10 ∷ xs) (nil_from_length c.in-Some-empty.field-0.now (omega (arith, c.in-Some-empty.len_below))))
