use Rattle.std.proofs.Common.{◌≡◌, ◌∙◌, true, false, map, arith, Some, sym, ap, slice_get}
use Rattle.log_record.specs.Entries.{operation_of}
use Rattle.core_program.specs.Running.{answered, is_issued, next_op}
use Rattle.core_check.proofs.ConformingFacts.{conforms_where_none, differs_where_some, few_before, state_after_record, fault_at_record, fault_at_end, no_fault}
use Rattle.core_check.proofs.LoggedFacts.{record_read}
use Rattle.core_check.proofs.conforming.conforms.Goals as goal

pub returns-then-not-is_issued-clause-fault : goal.returns-then-not-is_issued-clause-fault
returns-then-not-is_issued-clause-fault g c =
    let log = g.L.Logged.records_of c.args.log.now in
    let r = c.logged-logged.result.now in
    let here : slice_get log c.loop-i.i ≡ Some r = record_read g.L.Logged.record_of g.L.Logged.records_of g.met.L.Logged.each c.args.log.now c.loop-i.i c.index-log-i.result (omega arith) c.index-log-i.is ∙ ap (λ x. Some x) (sym c.logged-logged.ensures) in
    let other : is_issued (next_op c.args.program.now c.loop-i.state) (operation_of r) ≡ false =
    sym (c.is_issued.ensures ∙ ap (λ o. is_issued o (operation_of r)) c.next_op.ensures.next) ∙ c.if-not-is_issued.true in
    fault_at_record c.args.program.now log c.loop-i.i r c.loop-i.state c.loop-i.invariant.0 (omega (arith, g.met.L.Logged.as_many c.args.log.now)) here other

pub returns-then-not-is_issued-clause-conforms : goal.returns-then-not-is_issued-clause-conforms
returns-then-not-is_issued-clause-conforms g c = conforms_where_none c.args.program.now (map operation_of (g.L.Logged.records_of c.args.log.now)) _ c.instructions.ensures.shape (returns-then-not-is_issued-clause-fault g c)

pub returns-then-not-is_issued-clause-differs : goal.returns-then-not-is_issued-clause-differs
returns-then-not-is_issued-clause-differs g c = differs_where_some c.args.program.now (map operation_of (g.L.Logged.records_of c.args.log.now)) _ c.instructions.ensures.shape (returns-then-not-is_issued-clause-fault g c)

pub returns-then-not-is_issued-clause-few : goal.returns-then-not-is_issued-clause-few
returns-then-not-is_issued-clause-few g c = few_before c.args.program.now (map operation_of (g.L.Logged.records_of c.args.log.now)) _ c.instructions.ensures.shape (returns-then-not-is_issued-clause-fault g c)

pub loop-i-preserved : goal.loop-i-preserved
loop-i-preserved g c =
    let log = g.L.Logged.records_of c.args.log.now in
    let r = c.logged-logged.result.now in
    let here : slice_get log c.loop-i.i ≡ Some r = record_read g.L.Logged.record_of g.L.Logged.records_of g.met.L.Logged.each c.args.log.now c.loop-i.i c.index-log-i.result (omega arith) c.index-log-i.is ∙ ap (λ x. Some x) (sym c.logged-logged.ensures) in
    let same : is_issued (next_op c.args.program.now c.loop-i.state) (operation_of r) ≡ true =
    sym (c.is_issued.ensures ∙ ap (λ o. is_issued o (operation_of r)) c.next_op.ensures.next) ∙ c.if-not-is_issued.false in (
      state_after_record c.args.program.now log c.loop-i.i r c.loop-i.state c.loop-i.invariant.0 here same
          ∙ ap (λ v. Some (answered c.args.program.now v c.loop-i.state)) (sym c.word_answered.ensures)
          ∙ ap (λ s. Some s) (sym c.answer.ensures.state),
      c.answer.ensures.rests,
    )

pub returns-in-Some-clause-fault : goal.returns-in-Some-clause-fault
returns-in-Some-clause-fault g c =
    let many = g.met.L.Logged.as_many c.args.log.now in
    ap (λ n. Some n) (sym many)
    ∙ fault_at_end c.args.program.now (g.L.Logged.records_of c.args.log.now) c.loop-i.i c.in-Some.field-0 c.loop-i.state c.loop-i.invariant.0 (omega (arith, many)) (sym c.in-Some.ensures.next)

pub returns-in-Some-clause-conforms : goal.returns-in-Some-clause-conforms
returns-in-Some-clause-conforms g c = conforms_where_none c.args.program.now (map operation_of (g.L.Logged.records_of c.args.log.now)) _ c.instructions.ensures.shape (returns-in-Some-clause-fault g c)

pub returns-in-Some-clause-differs : goal.returns-in-Some-clause-differs
returns-in-Some-clause-differs g c = differs_where_some c.args.program.now (map operation_of (g.L.Logged.records_of c.args.log.now)) _ c.instructions.ensures.shape (returns-in-Some-clause-fault g c)

pub returns-in-Some-clause-few : goal.returns-in-Some-clause-few
returns-in-Some-clause-few g c = few_before c.args.program.now (map operation_of (g.L.Logged.records_of c.args.log.now)) _ c.instructions.ensures.shape (returns-in-Some-clause-fault g c)

pub returns-in-None-clause-fault : goal.returns-in-None-clause-fault
returns-in-None-clause-fault g c = no_fault c.args.program.now (g.L.Logged.records_of c.args.log.now) c.loop-i.i c.loop-i.state c.loop-i.invariant.0 (omega (arith, g.met.L.Logged.as_many c.args.log.now)) (sym c.in-None.ensures.next)

pub returns-in-None-clause-conforms : goal.returns-in-None-clause-conforms
returns-in-None-clause-conforms g c = conforms_where_none c.args.program.now (map operation_of (g.L.Logged.records_of c.args.log.now)) _ c.instructions.ensures.shape (returns-in-None-clause-fault g c)
