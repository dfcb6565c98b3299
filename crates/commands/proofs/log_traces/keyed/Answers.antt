use Rattle.std.proofs.Common.{rules, ◌≡◌, subst}
use Rattle.flat_replay.specs.Accesses.{operation_lists}
use Rattle.trace.specs.Growing.{IsRefusalOfAll}
use Rattle.trace.specs.declared.refusal.TraceFull.TheVariants.{TooMany}
use Rattle.commands.proofs.log_traces.keyed.Goals as goal

pub unreachable-requires : goal.unreachable-requires
unreachable-requires c =
    let is : c.in-Err-TooMany.field-0 ≡ TooMany = search rules in
    let many = subst (IsRefusalOfAll (operation_lists c.args.cores.items)) is c.in-Err-TooMany.ensures.refused in
    many c.requires.size
