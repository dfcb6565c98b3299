-- One more core, or the first whose operations are none.
use Rattle.std.proofs.Common.{rules, ◌≡◌, ◌<◌, ◌≤◌, subst, sym, refl, length, slice_index_or, take}
use Rattle.std.specs.Prelude.{All, slice_range}
use Rattle.std.proofs.lemmas.List.Elements.{All-push}
use Rattle.tardis_c.specs.Faults.{AreOperations}
use Rattle.tardis_c.specs.declared.operations_fault.OperationsFault.TheVariants.{OutOfMemory}
use Rattle.tardis_c.specs.Parts.{parts_of}
use Rattle.tardis_c.proofs.Cut.{ends_within}
use Rattle.tardis_c.proofs.Parts.{all_parts, first_fault, next_part, not_memory}
use Rattle.tardis_c.proofs.operations.check_parts.Goals as goal

pub offset_bounds-operations-from : goal.offset_bounds-operations-from
offset_bounds-operations-from g c =
    let from_within : c.loop-core.from ≤ length c.args.operations.now = ends_within c.loop-core.from (length c.args.operations.now) _ c.loop-core.invariant.left in
    search rules

pub slice_bounds-check_part-end : goal.slice_bounds-check_part-end
slice_bounds-check_part-end g c =
    let ends = c.args.ends.now in
    let within : c.loop-core.core < length ends = search rules in
    let next = next_part c.args.operations.now ends c.loop-core.core c.loop-core.from (slice_index_or ends c.loop-core.core 0) within refl c.loop-core.invariant.left c.loop-core.invariant.rest in
    let begins : c.loop-core.from ≤ slice_index_or ends c.loop-core.core 0 = next.begins in
    let ended : slice_index_or ends c.loop-core.core 0 ≤ length c.args.operations.now = next.ended in
    search rules

pub returns-in-Err-clause-memory : goal.returns-in-Err-clause-memory
returns-in-Err-clause-memory g c =
    λ is. (let same : c.in-Err.fault ≡ OutOfMemory = cc in not_memory g.T.InNumbers.in_range c.loop-core.core _ c.in-Err.fault c.in-Err.ensures same)

pub returns-in-Err-clause-parts : goal.returns-in-Err-clause-parts
returns-in-Err-clause-parts g c =
    let ends = c.args.ends.now in
    let end = slice_index_or ends c.loop-core.core 0 in
    let within : c.loop-core.core < length ends = search rules in
    let next = next_part c.args.operations.now ends c.loop-core.core c.loop-core.from end within refl c.loop-core.invariant.left c.loop-core.invariant.rest in
    first_fault g.T.InNumbers.in_range (parts_of c.args.operations.now ends) c.loop-core.core (slice_range c.args.operations.now c.loop-core.from end) c.in-Err.fault c.loop-core.invariant.all next.there c.in-Err.ensures

pub loop-core-preserved : goal.loop-core-preserved
loop-core-preserved g c =
    let ends = c.args.ends.now in
    let end = slice_index_or ends c.loop-core.core 0 in
    let within : c.loop-core.core < length ends = search rules in
    let next = next_part c.args.operations.now ends c.loop-core.core c.loop-core.from end within refl c.loop-core.invariant.left c.loop-core.invariant.rest in
    let parts = parts_of c.args.operations.now ends in
    record {
      left = next.left;
      rest = next.rest;
      all = subst (All (AreOperations g.T.InNumbers.in_range)) (sym next.taken) (All-push (AreOperations g.T.InNumbers.in_range) (take c.loop-core.core parts) (slice_range c.args.operations.now c.loop-core.from end) c.loop-core.invariant.all c.in-Ok.ensures);
    }

pub returns-clause-parts : goal.returns-clause-parts
returns-clause-parts g c =
    let ended : c.loop-core.core ≡ length c.args.ends.now = search rules in
    subst (All (AreOperations g.T.InNumbers.in_range)) (all_parts c.args.operations.now c.args.ends.now c.loop-core.core ended) c.loop-core.invariant.all
