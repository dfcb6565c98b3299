-- What is told of the units and slices is told of what is left.
use Rattle.std.proofs.Common.{refl, inr}
use Rattle.audit.specs.Runs.{IsRunFault}
use Rattle.audit.proofs.Refuted.{no_whole_run}
use Rattle.audit.proofs.accepting.accept_run.Goals as goal

pub returns-in-Some-clause-short : goal.returns-in-Some-clause-short
returns-in-Some-clause-short c = λ h. rw (← c.deref.ensures.value) (c.in-Some.ensures.reports.may.short h)

pub returns-in-Err-clause-refused : goal.returns-in-Err-clause-refused
returns-in-Err-clause-refused c =
    let programs = c.args.programs.now.programs in
    let g = c.args.config.now in
    let us = c.args.units.items in
    let ss = c.args.slices.items in
    let why : IsRunFault programs g us ss c.in-Err.fault = rw (← c.deref-2.ensures.value, ← c.deref-3.ensures.value) c.in-Err.ensures in
    inr (rw (← c.deref.ensures.value) c.in_default.ensures, (refl, why), no_whole_run programs g us ss c.in-Err.fault why)
