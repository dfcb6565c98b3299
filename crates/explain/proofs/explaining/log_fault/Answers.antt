-- The entries that the set lends are those of the core's log.
use Rattle.std.proofs.Common.{rules, ◌≡◌, ◌∙◌, ap, sym, arith, None, Some}
use Rattle.std.specs.Prelude.{is_some, slice_get}
use Rattle.std.proofs.lemmas.List.{length-map}
use Rattle.log_record.specs.declared.record.Entry.{Entry}
use Rattle.verdict.specs.CoreFaultsOf.{given}
use Rattle.verdict.specs.declared.rule.Rule.TheVariants.{CoreOrder, Program}
use Rattle.verdict.proofs.EntryLogs.{entries_of, log_found, no_log_found}
use Rattle.explain.specs.LogFaults.{IsDepartureBy, IsFall}
use Rattle.explain.specs.inner.CoreLog.{records_of}
use Rattle.explain.proofs.CoreFaulted.{has_program, no_log, of_order, of_program}
use Rattle.explain.proofs.CoreLogs.{whole_log}
use Rattle.explain.proofs.explaining.log_fault.Goals as goal

pub returns-in_default-clause-explained : goal.returns-in_default-clause-explained
returns-in_default-clause-explained c fault =
    let none : None ≡ entries_of c.args.set.now c.args.fault.now.id.core = search rules in
    absurd (no_log (given c.args.programs) c.args.set.now c.args.fault.now (sym (no_log_found c.args.set.now c.args.fault.now.id.core none)) fault)

pub fall-requires : goal.fall-requires
fall-requires c =
    let there : Some c.in-Some.log.now ≡ entries_of c.args.set.now c.fault.inside.id.core = search rules in
    whole_log c.args.set.now c.fault.inside.id.core c.in-Some.log.now there

pub departure-requires : goal.departure-requires
departure-requires c =
    let there : Some c.in-Some.log.now ≡ entries_of c.args.set.now c.fault.inside.id.core = search rules in
    whole_log c.args.set.now c.fault.inside.id.core c.in-Some.log.now there

pub returns-in-Some-2-clause-found : goal.returns-in-Some-2-clause-found
returns-in-Some-2-clause-found c =
    let there : Some c.in-Some.log.now ≡ entries_of c.args.set.now c.args.fault.now.id.core = search rules in
    let rule : c.args.fault.now.rule ≡ CoreOrder = search rules in
    let fall : IsFall (records_of c.in-Some.log.now) c.args.fault.now.id c.in-Some-2.found = search rules in
    (rule, (records_of c.in-Some.log.now, sym (log_found c.args.set.now c.args.fault.now.id.core c.in-Some.log.now there), fall))

pub returns-in-None-clause-explained : goal.returns-in-None-clause-explained
returns-in-None-clause-explained c fault =
    let found : Some c.in-Some.log.now ≡ entries_of c.args.set.now c.args.fault.now.id.core = search rules in
    let there : slice_get c.args.set.now c.args.fault.now.id.core ≡ Some (records_of c.in-Some.log.now) = sym (log_found c.args.set.now c.args.fault.now.id.core c.in-Some.log.now found) in
    let place = of_order (given c.args.programs) c.args.set.now c.args.fault.now (records_of c.in-Some.log.now) there (search rules) fault in
    let index : c.args.fault.now.id.index ≡ c.fault.inside.id.index = search rules in
    let wrong = c.in_ok-found-in-CoreOrder.ensures.explained (omega (arith, place.later)) (omega (arith, place.inside, length-map c.in-Some.log.now (λ (e : Entry). e.logged))) in
    sym (ap is_some c.in-None.is) ∙ wrong

pub returns-in-Some-3-clause-found : goal.returns-in-Some-3-clause-found
returns-in-Some-3-clause-found c =
    let there : Some c.in-Some.log.now ≡ entries_of c.args.set.now c.args.fault.now.id.core = search rules in
    let rule : c.args.fault.now.rule ≡ Program = search rules in
    let departure : IsDepartureBy (given c.args.programs) (records_of c.in-Some.log.now) c.args.fault.now.id c.in-Some-3.found = search rules in
    (rule, (records_of c.in-Some.log.now, sym (log_found c.args.set.now c.args.fault.now.id.core c.in-Some.log.now there), departure))

pub returns-in-None-2-clause-explained : goal.returns-in-None-2-clause-explained
returns-in-None-2-clause-explained c fault =
    let found : Some c.in-Some.log.now ≡ entries_of c.args.set.now c.args.fault.now.id.core = search rules in
    let there : slice_get c.args.set.now c.args.fault.now.id.core ≡ Some (records_of c.in-Some.log.now) = sym (log_found c.args.set.now c.args.fault.now.id.core c.in-Some.log.now found) in
    let place = of_program (given c.args.programs) c.args.set.now c.args.fault.now (records_of c.in-Some.log.now) there (search rules) fault in
    let core : c.fault.inside.id.core ≡ c.args.fault.now.id.core = search rules in
    let index : c.args.fault.now.id.index ≡ c.fault.inside.id.index = search rules in
    let program = has_program (given c.args.programs) c.fault.inside.id.core c.args.fault.now.id.core place.program core place.there in
    let wrong = c.in_ok-found-in-Program.ensures.explained program (omega (arith, place.inside, length-map c.in-Some.log.now (λ (e : Entry). e.logged))) in
    sym (ap is_some c.in-None-2.is) ∙ wrong
