-- So many operations are those of a trace.
use Rattle.std.proofs.Common.{arith, subst, sym}
use Rattle.flat_replay.specs.Accesses.{operation_lists}
use Rattle.trace.specs.Growing.{IsOfSize, IsRefusalOfAll}
use Rattle.trace.specs.declared.refusal.TraceFull.TheVariants.{TooMany}
use Rattle.tardis_c.specs.Accesses.{trace_of}
use Rattle.tardis_c.specs.Parts.{parts_of}
use Rattle.tardis_c.proofs.Cut.{parts_many}
use Rattle.tardis_c.proofs.Found.{size_of}
use Rattle.tardis_c.proofs.searching.trace_of.Goals as goal

pub unreachable-requires : goal.unreachable-requires
unreachable-requires c =
    let parts = parts_of c.args.operations.now c.args.ends.now in
    let cores = operation_lists c.in_ok-cores.cores.items in
    let size : IsOfSize (trace_of parts) = size_of parts (omega (arith, parts_many 0 c.args.operations.now c.args.ends.now, c.requires.cores.1)) c.requires.parts in
    let refused : IsRefusalOfAll cores TooMany = subst (IsRefusalOfAll cores) c.in-Err-TooMany.field-0-is c.in-Err-TooMany.ensures.refused in
    refused (subst IsOfSize (sym c.in_ok-cores.ensures) size)
