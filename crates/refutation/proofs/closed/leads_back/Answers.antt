use Rattle.std.proofs.Common.{◌≡◌, true, false, arith, ◌∙◌, sym}
use Rattle.refutation.specs.States.{next_of}
use Rattle.refutation.specs.inner.Seen.{IsAmong}
use Rattle.refutation.proofs.Firsts.{cores-all}
use Rattle.refutation.proofs.NextOnes.{ones-skip, ones-told, LeadsInto, leads-more}
use Rattle.refutation.proofs.closed.leads_back.Goals as goal
use Rattle.refutation.proofs.closed.leads_back.Goals.{in-Some+else-may_go, else-may_go-via-then-may_go+in_ok-leads_into+else-not-branch, else-may_go-via-else-may_go, in_default}

pub loop-core-preserved : goal.loop-core-preserved
loop-core-preserved c =
    let cores = c.args.trace.now in
    let state = c.args.state.now in
    let InSet = IsAmong c.args.seen.now.keys in
    elim c.match-next_operation.branch [
      | in-Some+else-may_go w ↦ (
          let told = rw (w.in-Some.is, c.next.ensures) at c.next_operation.ensures in
          let more = leads-more cores c.args.facts.now c.args.addresses.now InSet state w.in-Some.found.0 w.in-Some.found.1 c.loop-core.invariant told.0 told.1 in
          rw w.is_left-is (elim w.else-may_go.branch [
            | else-may_go-via-then-may_go+in_ok-leads_into+else-not-branch v ↦ more (λ goes. sym v.in_ok-leads_into.ensures ∙ v.if-not-branch.false)
            | else-may_go-via-else-may_go v ↦ more (λ goes. absurd (let wrong : true ≡ false = sym goes ∙ sym w.may_go.ensures ∙ v.if-may_go.false in cc))
          ]))
      | in_default w ↦ rw w.is_left-is (ones-skip cores (next_of state) (LeadsInto cores c.args.facts.now c.args.addresses.now InSet state) c.loop-core.invariant
          (rw (w.in_default.is, c.next.ensures) at c.next_operation.ensures))
    ]

pub returns : goal.returns
returns c =
    ones-told c.args.trace.now (next_of c.args.state.now) (LeadsInto c.args.trace.now c.args.facts.now c.args.addresses.now (IsAmong c.args.seen.now.keys) c.args.state.now) c.loop-core.is_left c.loop-core.core
    (cores-all c.cores-core-end.result.now c.loop-core.core c.cores-core-end.ensures.value (omega arith)) c.loop-core.invariant (λ some each. record { left = some; back = each }) (λ leads. leads.left)
