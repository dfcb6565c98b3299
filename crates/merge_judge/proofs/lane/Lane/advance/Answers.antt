-- One record further, or the end of the log.
use Rattle.std.proofs.Common.{◌≡◌, Some, subst, sym}
use Rattle.merge_judge.specs.inner.Lanes.{IsLaneAt}
use Rattle.merge_judge.specs.LaneParts.{LaneParts}
use Rattle.merge_judge.proofs.LaneFacts.{further}
use Rattle.merge_judge.proofs.lane.Lane.advance.Goals as goal

pub returns-clause-advanced : goal.returns-clause-advanced
returns-clause-advanced g c = λ core cores before merged front front_is at.
    let rem = g.S.RecordSource.remaining in
    let failed = g.S.RecordSource.failed in
    let a = c.self.inside in
    let was : LaneParts = record { log = g.L.Reading.kept a.log; front = a.front; merged = a.merged; falls = a.falls; fault = a.fault } in
    further rem failed core cores before c.args.source.now c.read-next.new.source (g.L.Reading.kept c.read-next.new.log) c.read-next.result.0 c.read-next.result.1 c.read-next.ensures.read c.read-next.ensures.quiet was merged front c.first_to_fall-self-inside.result
    (subst (λ (l : LaneParts). l.front ≡ Some front) (sym c.self.view_is) front_is)
    (subst (λ (l : LaneParts). IsLaneAt rem failed core cores before c.args.source.now l merged) (sym c.self.view_is) at) (c.read-next.ensures.stage core cores) c.first_to_fall-self-inside.ensures
