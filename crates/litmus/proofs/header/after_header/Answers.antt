use Rattle.std.proofs.Common.{refl, sym}
use Rattle.litmus.specs.inner.Reading.{head, head_text, IsHead}
use Rattle.litmus.proofs.Headers.{head_no_lf, head_takes, no_head}
use Rattle.litmus.proofs.InFront.{first_of_line, none_of_other, none_without_feed}
use Rattle.litmus.proofs.header.after_header.Goals as goal

pub returns-in_err-line-clause-none : goal.returns-in_err-line-clause-none
returns-in_err-line-clause-none c = λ _. none_without_feed head_text IsHead c.args.text.now (c.in_err-line.ensures.none refl)

pub returns-in_err-header-clause-none : goal.returns-in_err-header-clause-none
returns-in_err-header-clause-none c = λ _.
    let found = c.in_ok-line.ensures.found in
    none_of_other head_text IsHead head_no_lf c.args.text.now c.in_ok-line.line.now c.in_ok-line.rest.now found.0 found.1 (no_head c.in_ok-line.line.now c.in_err-header.ensures)

pub returns-clause-found : goal.returns-clause-found
returns-clause-found c =
    let found = c.in_ok-line.ensures.found in
    let h = head c.in_ok-header.header in
    first_of_line head_text IsHead c.args.text.now c.in_ok-line.line.now c.in_ok-line.rest.now h found.1 (head_takes c.in_ok-line.line.now h (sym c.in_ok-header.ensures))
