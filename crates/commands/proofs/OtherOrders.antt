-- What an answer to a search for another order says, and the logs that it is made over.
use Rattle.std.proofs.Common.{◌≡◌, ◌∙◌, ◌<◌, ◌≤◌, ◌⊎◌, ap, sym, subst, List, ℕ, inl, inr, arith, get_or, length, vec_len}
use Rattle.std.specs.Prelude.{All}
use Rattle.std.specs.Global.{Vec}
use Rattle.std.proofs.lemmas.List.{get_or-map, length-map}
use Rattle.log_record.specs.Entries.{operations_of, record_lists}
use Rattle.log_record.specs.declared.record.Record.{Record}
use Rattle.mem_op.specs.Consistency.{Operation, IsConsistent}
use Rattle.mem_op.specs.Limits.{operation_limit}
use Rattle.mem_op.specs.declared.id.OpId.{OpId}
use Rattle.refutation.specs.Answers.{IsRight}
use Rattle.refutation.specs.declared.answer.Answer.{Answer}
use Rattle.refutation.specs.declared.answer.Answer.TheVariants as found
use Rattle.verdict.specs.declared.basis.Basis.{Basis}
use Rattle.commands.proofs.SourceNumbers.{order_explains}
use Rattle.commands.specs.Sources.{sourced_operations}
use Rattle.commands.specs.inner.ReadLogs.{AreLogsOf}

-- an order that was found says that there is one
pub found_order : (cores : List (List Operation)) (answer : Answer) (order : Vec OpId) → IsRight cores answer → answer ≡ found.Order order → IsConsistent cores
found_order cores answer order right is = (order.items, subst (IsRight cores) is right)

-- an order of the operations with their sources, or with their words, is one with their words
pub by_words : (logs : List (List Record)) (basis : Basis) (cores : ℕ) → AreLogsOf logs basis cores → IsConsistent (sourced_operations logs) ⊎ IsConsistent (operations_of logs)
    → IsConsistent (operations_of logs)
by_words logs basis cores are (inl (order, is)) =
    let many = are.many in
    let few = are.few in
    (order, order_explains logs order (omega (arith, many, few)) are.short is)
by_words logs basis cores are (inr is) = is

-- ---- the trace of the logs

-- the logs that a verdict stands on are short enough for a trace
pub short_logs : (vs : List (Vec Record)) (logs : List (List Record)) (basis : Basis) (cores : ℕ) → record_lists vs ≡ logs → AreLogsOf logs basis cores → All (λ log. vec_len log ≤ operation_limit) vs
short_logs vs logs basis cores same are k d below =
    let long = length-map vs (λ (log : Vec Record). log.items) in
    let as_many : length (record_lists vs) ≡ length logs = ap length same in
    let there : k < length logs = omega arith in
    let is : get_or logs k d.items ≡ (get_or vs k d).items = ap (λ ls. get_or ls k d.items) (sym same) ∙ get_or-map (λ (log : Vec Record). log.items) vs k d d.items below in
    let few : length (get_or vs k d).items ≤ operation_limit = subst (λ (log : List Record). length log ≤ operation_limit) is (are.short k d.items there) in
    let filled = (get_or vs k d).ok in
    omega (arith, few, filled)
