use Rattle.std.proofs.Common.{refl}
use Rattle.refuted_cases.proofs.NameRows.{first_of_line, none_of_other, none_without_feed}
use Rattle.refuted_cases.proofs.names.next_row.Goals as goal

pub returns-in_err-line-clause-none : goal.returns-in_err-line-clause-none
returns-in_err-line-clause-none c = λ _. none_without_feed c.args.text.now (c.in_err-line.ensures.none refl)

pub returns-in_err-addr-clause-none : goal.returns-in_err-addr-clause-none
returns-in_err-addr-clause-none c = λ _.
    let found = c.in_ok-line.ensures.found in
    none_of_other c.args.text.now c.in_ok-line.line.now c.in_ok-line.rest.now found.0 found.1 c.in_err-addr.ensures

pub returns-clause-found : goal.returns-clause-found
returns-clause-found c =
    let found = c.in_ok-line.ensures.found in
    first_of_line c.args.text.now c.in_ok-line.line.now c.in_ok-line.rest.now (c.in_ok-addr.addr, c.in_ok-addr.name.now) found.1 c.in_ok-addr.ensures
