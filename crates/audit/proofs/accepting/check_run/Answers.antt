use Rattle.std.proofs.Common.{◌≡◌, length, rules}
use Rattle.audit.specs.Runs.{AllEnded, AllNumbered}
use Rattle.audit.proofs.Refuted.{run_or_why}
use Rattle.audit.proofs.accepting.check_run.Goals as goal

pub returns : goal.returns
returns c =
    let programs = c.args.programs.now.programs in
    let g = c.args.config.now in
    let us = c.args.units.now in
    let ss = c.args.slices.now in
    let cores : length us ≡ length programs = search rules in
    let count : length ss ≡ g.slices = search rules in
    let ended : AllEnded programs g us = search rules in
    let numbered : AllNumbered g ss = search rules in
    run_or_why programs g us ss cores count ended numbered c.audit.result c.audit.ensures
