use Rattle.std.proofs.Common.{◌≡◌, ◌∙◌, ◌≤◌, ◌⊎◌, List, ap, subst, sym, vec_len}
use Rattle.std.specs.Prelude.{All}
use Rattle.std.specs.Global.{Vec}
use Rattle.log_record.specs.Entries.{operations_of, record_lists}
use Rattle.log_record.specs.declared.record.Record.{Record}
use Rattle.mem_op.specs.Consistency.{Operation, IsConsistent}
use Rattle.mem_op.specs.Limits.{operation_limit}
use Rattle.commands.specs.Sources.{sourced_operations}
use Rattle.commands.proofs.OtherOrders.{by_words, short_logs}
use Rattle.commands.proofs.other_order.whether_another.Goals as goal

pub sourced_trace-requires-clause-short : goal.sourced_trace-requires-clause-short
sourced_trace-requires-clause-short g c =
    let (logs, are) = c.requires in
    subst (λ (vs : List (Vec Record)). All (λ log. vec_len log ≤ operation_limit) vs) (sym c.as_slice-logs.ensures.value)
    (short_logs c.in_ok-logs.logs.items logs c.args.basis.now c.args.cores (c.in_ok-logs.ensures logs are) are)

pub trace_of-requires-clause-short : goal.trace_of-requires-clause-short
trace_of-requires-clause-short g c =
    let (logs, are) = c.requires in
    subst (λ (vs : List (Vec Record)). All (λ log. vec_len log ≤ operation_limit) vs) (sym c.as_slice-logs.ensures.value)
    (short_logs c.in_ok-logs.logs.items logs c.args.basis.now c.args.cores (c.in_ok-logs.ensures logs are) are)

pub returns : goal.returns
returns g c = λ logs are.
    let same : record_lists c.in_ok-logs.logs.items ≡ logs = c.in_ok-logs.ensures logs are in
    let by_sources : c.in_ok-sourced.sourced ≡ sourced_operations logs =
    c.in_ok-sourced.ensures ∙ ap (λ (vs : List (Vec Record)). sourced_operations (record_lists vs)) c.as_slice-logs.ensures.value ∙ ap sourced_operations same in
    let by_trace : c.in_ok-trace.trace ≡ operations_of logs =
    c.in_ok-trace.ensures ∙ ap (λ (vs : List (Vec Record)). operations_of (record_lists vs)) c.as_slice-logs.ensures.value ∙ ap operations_of same in
    λ says. by_words logs c.args.basis.now c.args.cores are
    (subst (λ (cores : List (List Operation)). IsConsistent (sourced_operations logs) ⊎ IsConsistent cores) by_trace
    (subst (λ (sourced : List (List Operation)). IsConsistent sourced ⊎ IsConsistent c.in_ok-trace.trace) by_sources (c.in_ok-last.ensures says)))
