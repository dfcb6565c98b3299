use Rattle.std.proofs.Common.{rules, ◌≡◌, ◌<◌, ◌++◌, ◌∷◌, arith, subst}
use Rattle.decimal_text.specs.Numbers.{numeral}
use Rattle.mem_op.specs.Limits.{operation_limit}
use Rattle.commands.proofs.OrderLines.{line_is, read_as}
use Rattle.commands.proofs.order_certificate.read_id.Goals as goal

pub returns : goal.returns
returns c =
    let (n, read, is) = c.in_ok-core.ensures.found in
    let (m, read', is') = c.in_ok-read_last.ensures.found in
    let core = c.in_ok-core-3.core in
    let index = c.in_ok-index.index in
    let low : core < 64 = search rules in
    let short : index < operation_limit = search rules in
    let n_is = read_as n core c.in_ok-core.core (search rules) read in
    let m_is = read_as m index c.in_ok-read_last.field-0 (search rules) read' in
    line_is c.args.line.now c.in_ok-core.rest.now (record { core = core; index = index }) (omega (arith, low)) (omega (arith, short))
    (subst (λ k. c.args.line.now ≡ numeral k ++ 46 ∷ c.in_ok-core.rest.now) n_is is) (subst (λ k. c.in_ok-core.rest.now ≡ numeral k) m_is is')
