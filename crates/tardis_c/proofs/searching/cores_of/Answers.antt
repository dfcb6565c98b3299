-- Each part lies within the buffer.
use Rattle.std.proofs.Common.{rules, ◌<◌, ◌≤◌, ◌+◌, ◌∷◌, subst, drop, length, ℕ, List, slice_index_or}
use Rattle.std.proofs.lemmas.List.{drop_more}
use Rattle.tardis_c.specs.Parts.{AreEndsFrom}
use Rattle.tardis_c.proofs.Cut.{ends_within}
use Rattle.tardis_c.proofs.searching.cores_of.Goals as goal

pub offset_bounds-operations-from : goal.offset_bounds-operations-from
offset_bounds-operations-from c =
    let from_within : c.loop-end.from ≤ length c.args.operations.now = ends_within c.loop-end.from (length c.args.operations.now) _ c.loop-end.invariant.left in
    search rules

pub slice_bounds-operations_of-end : goal.slice_bounds-operations_of-end
slice_bounds-operations_of-end c =
    let at = c.loop-end.end-index in
    let ends = c.args.ends.now in
    let many = length c.args.operations.now in
    let within : at < length ends = search rules in
    let left : AreEndsFrom c.loop-end.from many (slice_index_or ends at 0 ∷ drop (at + 1) ends) =
    subst (λ (es : List ℕ). AreEndsFrom c.loop-end.from many es) (drop_more ends at 0 within) c.loop-end.invariant.left in
    let begins : c.loop-end.from ≤ slice_index_or ends at 0 = left.0 in
    let ended : slice_index_or ends at 0 ≤ many = ends_within (slice_index_or ends at 0) many (drop (at + 1) ends) left.1 in
    search rules
