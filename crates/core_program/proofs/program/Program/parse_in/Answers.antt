use Rattle.std.proofs.Common.{sym, ap, ◌∙◌, arith, ◌++◌, drop}
use Rattle.std.proofs.lemmas.List.{take-append-drop, length-drop}
use Rattle.std.proofs.lemmas.Result.{err_from_is_err_and}
use Rattle.core_program.proofs.ProgramTexts.{bad_line, section_refused}
use Rattle.core_program.proofs.program.Program.parse_in.Goals as goal

pub returns-in_err-section : goal.returns-in_err-section
returns-in_err-section c =
    let p = err_from_is_err_and c.from_residual.result c.from_residual.ensures.1 in
    rw (p.1, p.2) (section_refused c.args.format c.args.text.now c.in_err-section.field-0.0 c.in_err-section.ensures.too_long)

pub returns-then-section-text : goal.returns-then-section-text
returns-then-section-text c =
    let s = c.in_ok-section.section in
    let found = c.in_ok-section.ensures.found in
    let text = c.args.text.now in
    bad_line c.args.format text (drop s.taken text) s.instructions.items _ found.is_section
    (sym (take-append-drop s.taken text) ∙ ap (λ front. front ++ drop s.taken text) found.text) found.all
    (omega (arith, length-drop s.taken text)) (omega arith)
