-- The span up to a cut, and the one up to the last address.
use Rattle.std.proofs.Common.{◌+◌}
use Rattle.address_check.proofs.ByAddress.{HaveBelow, have_more, have_all}
use Rattle.address_check.proofs.Window.{addresses_rise}
use Rattle.address_check.proofs.index.AddressIndex.spans.Goals as goal
use Rattle.address_check.proofs.index.AddressIndex.spans.Goals.{in-Some-get+in_ok-push, in_default-get}

pub loop-number-preserved : goal.loop-number-preserved
loop-number-preserved c = elim c.match-get.branch [
  | in-Some-get+in_ok-push w ↦ rw (w.start-is, w.spans-is, w.in_ok-push.ensures.items) (have_more c.loop-number.spans.items c.loop-number.start w.get-end.result c.loop-number.invariant)
  | in_default-get w ↦ rw (w.start-is, w.spans-is) c.loop-number.invariant
]

pub returns : goal.returns
returns c =
    let es = c.args.self.now in
    let last = c.in-Some.last.now in
    let more : HaveBelow (last.logged.addr + 1) c.push-2.new.self.items = rw (c.in_ok-push-2.ensures.items, c.get-end-2.ensures.value) (have_more c.loop-number.spans.items c.loop-number.start (last.logged.addr + 1) c.loop-number.invariant) in
    have_all es c.push-2.new.self.items last (addresses_rise es c.all-entries.ensures.ascends) (rw c.all-entries.ensures.value at c.in-Some.ensures.item.1) more
