use Rattle.std.proofs.Common.{◌≡◌, ◌<◌, None, Some, length, rules}
use Rattle.manager_slice.specs.Limits.{entry_limit}
use Rattle.private_cache.specs.Answers.{recall_answer}
use Rattle.private_cache.specs.Steps.{after_recall, line_at}
use Rattle.private_cache.specs.Table.{recalled}
use Rattle.core_unit.specs.Parts.{UnitParts}
use Rattle.core_unit.proofs.Recalling.{kept_recall}
use Rattle.core_unit.proofs.unit.CoreUnit.recall.Goals as goal

pub invariant_of-self-2 : goal.invariant_of-self-2
invariant_of-self-2 c =
    let was : UnitParts = record { core = c.self.inside.core; program = c.self.inside.program; config = c.self.inside.config; state = c.self.inside.state; pts = c.self.inside.pts; r = c.self.inside.r; cache = c.self.inside.cache; hand = c.self.inside.hand; transcript = c.self.inside.transcript.entries; log = c.self.inside.log.items } in
    let room : length was.transcript < entry_limit = c.in_default.ensures.fits in
    let free : was.hand ≡ None = search rules in
    let recall = c.args.recall.now in
    let back = recalled recall was.config.lease (line_at was.cache recall.addr) in
    let asked : Some c.in-Some.message ≡ recall_answer recall back = search rules in
    let cached : c.recall.new.self ≡ after_recall was.cache recall back = search rules in
    rw (c.push.ensures, c.in_default.ensures.entries)
    (kept_recall was c.self.invariant room free recall c.in-Some.message c.recall.new.self asked cached)
