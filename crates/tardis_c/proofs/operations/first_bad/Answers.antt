-- One more operation, or the first that is none.
use Rattle.std.proofs.Common.{rules, ◌≡◌, ◌<◌, length, subst, sym}
use Rattle.std.specs.Prelude.{false, true}
use Rattle.tardis_c.proofs.Parts.{first_bad_there, more_good}
use Rattle.tardis_c.proofs.operations.first_bad.Goals as goal

pub loop-index-preserved : goal.loop-index-preserved
loop-index-preserved g c =
    let one = g.T.InNumbers.in_range in
    let within : c.loop-index.index < length c.args.operations.now = search rules in
    let yes : c.is_in_range.result ≡ true = search rules in
    let read = c.index-operations-index in
    more_good one c.args.operations.now c.loop-index.index read.result within c.loop-index.invariant (subst one read.is (c.is_in_range.ensures.0 yes))

pub returns-then-not-is_in_range : goal.returns-then-not-is_in_range
returns-then-not-is_in_range g c =
    let one = g.T.InNumbers.in_range in
    let within : c.loop-index.index < length c.args.operations.now = search rules in
    let no : c.is_in_range.result ≡ false = search rules in
    let read = c.index-operations-index in
    first_bad_there one c.args.operations.now c.loop-index.index read.result within c.loop-index.invariant
    (λ is. (let yes : c.is_in_range.result ≡ true = c.is_in_range.ensures.1 (subst one (sym read.is) is) in cc))
