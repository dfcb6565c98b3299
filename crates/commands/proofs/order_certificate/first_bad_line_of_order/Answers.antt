use Rattle.std.proofs.Common.{rules, ◌≡◌, ℕ, length, subst}
use Rattle.std.specs.Prelude.{IfOk, IsNone}
use Rattle.mem_op.specs.Consistency.{IsSequentialOrder}
use Rattle.merge_judge.specs.OrderText.{end_line}
use Rattle.commands.proofs.OrderLines.{ended}
use Rattle.commands.proofs.order_certificate.first_bad_line_of_order.Goals as goal

pub returns : goal.returns
returns c =
    let cores = c.args.trace.now in
    let ids = c.in_ok-front.front.ids.items in
    let rest = c.in_ok-front.front.rest.now in
    let first = rw (c.in_default.is, c.cores.ensures.value) at c.in_ok-place.ensures.first in
    let order = subst (IsSequentialOrder cores) c.as_slice.ensures.value first.1 in
    let count : c.len.result ≡ length ids = search rules in
    let ends = subst (λ (n : ℕ). IfOk c.bad_end.result (λ bad. IsNone bad → rest ≡ end_line n)) count c.bad_end.ensures in
    ended cores c.args.text.now rest ids c.bad_end.result c.in_ok-front.ensures.begins order ends
