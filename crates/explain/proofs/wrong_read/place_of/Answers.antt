use Rattle.std.proofs.Common.{◌≡◌, ◌∙◌, sym, true, arith}
use Rattle.mem_op.specs.Consistency.{is_same_id}
use Rattle.explain.proofs.Finding.{found_here}
use Rattle.explain.proofs.wrong_read.place_of.Goals as goal

pub returns-then-has_id-clause-found : goal.returns-then-has_id-clause-found
returns-then-has_id-clause-found c =
    let passes : is_same_id c.index-entries-place.result.id c.args.id ≡ true = sym c.has_id.ensures ∙ c.if-has_id.true in
    (omega arith, found_here (λ e. is_same_id e.id c.args.id) c.args.entries.now c.loop-place.place c.index-entries-place.result c.loop-place.invariant (omega arith) c.index-entries-place.is passes)
