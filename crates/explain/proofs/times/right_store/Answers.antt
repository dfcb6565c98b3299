-- All of them were looked at.
use Rattle.std.proofs.Common.{◌∙◌, ap, arith, find, reverse}
use Rattle.std.proofs.lemmas.List.{take_all}
use Rattle.address_check.specs.AddressFaults.{is_earlier_store}
use Rattle.explain.proofs.RightStores.{right_is_last}
use Rattle.explain.proofs.times.right_store.Goals as goal

pub returns : goal.returns
returns c =
    c.loop-store.invariant ∙ ap (λ es. find (is_earlier_store c.args.entry.now) (reverse es)) (take_all c.loop-store.store-index c.args.group.now (omega arith))
    ∙ right_is_last c.args.group.now c.args.entry.now c.requires
