use Rattle.std.proofs.Common.{rules, ◌≡◌, ◌∙◌, ap, List, IsSome, None}
use Rattle.std.specs.Prelude.{is_some}
use Rattle.log_record.specs.declared.record.Record.{Record}
use Rattle.verdict.specs.CoreFaultsOf.{given}
use Rattle.verdict.specs.Bases.{IsExaminationOf}
use Rattle.verdict.specs.declared.answer.Verdict.TheVariants.{No}
use Rattle.verdict.specs.declared.basis.Basis.TheVariants.{Index, Logs}
use Rattle.explain.specs.WrongReads.{of_id}
use Rattle.explain.specs.inner.CoreFault.{IsCoreFault}
use Rattle.explain.proofs.Examining.{fault_of_index, fault_of_logs, on_ok}
use Rattle.explain.proofs.explaining.explain.Goals as goal

pub returns-in-None-clause-explained : goal.returns-in-None-clause-explained
returns-in-None-clause-explained c logs is =
    let says : c.args.examined.now.verdict ≡ No c.in-No-Index.fault = search rules in
    let on : c.args.examined.now.basis ≡ Index c.in-No-Index.index = search rules in
    let id : c.in-No-Index.fault.id ≡ c.fault.inside.id = search rules in
    let none : of_id c.in-No-Index.index c.in-No-Index.fault.id ≡ None =
    ap (of_id c.in-No-Index.index) id ∙ c.in_ok-found-in-No-Index.ensures.none (ap is_some c.in-None.is) in
    absurd (fault_of_index (given c.args.programs) logs c.in-No-Index.index c.in-No-Index.fault c.args.examined.now says on is none)

pub returns-in-No-Logs-clause-explained : goal.returns-in-No-Logs-clause-explained
returns-in-No-Logs-clause-explained c =
    let says : c.args.examined.now.verdict ≡ No c.in-No-Logs.fault = search rules in
    let on : c.args.examined.now.basis ≡ Logs c.in-No-Logs.set = search rules in
    on_ok c.log_fault.result
    (λ why. IsCoreFault (given c.args.programs) c.in-No-Logs.set c.in-No-Logs.fault → IsSome why)
    (λ why. (logs : List (List Record)) → IsExaminationOf (given c.args.programs) logs c.args.examined.now → IsSome why)
    (λ why told logs is. told (fault_of_logs (given c.args.programs) logs c.in-No-Logs.set c.in-No-Logs.fault c.args.examined.now says on is))
    c.log_fault.ensures.explained
