use Rattle.std.proofs.Common.{length, refl, sym, ◌∙◌}
use Rattle.std.proofs.lemmas.Option.{slice_get_read}
use Rattle.refutation.proofs.LastStores.{lasts-same, lasts-more}
use Rattle.refutation.proofs.indexed.lasts_of.Goals.{then-is_store_to+in_ok-insert, else-is_store_to}
use Rattle.refutation.proofs.indexed.lasts_of.Goals as goal

pub loop-index-preserved : goal.loop-index-preserved
loop-index-preserved c =
    let operations = c.args.operations.now in
    let y = c.index-operations-index.result in
    let here = slice_get_read operations (length operations) c.loop-index.index y refl c.loop-index-test.true c.index-operations-index.is in
    elim c.if-is_store_to.branch [
      | then-is_store_to+in_ok-insert w ↦
          rw w.lasts-is (lasts-more operations c.loop-index.index y here c.loop-index.lasts w.insert.new.self c.loop-index.invariant
          (rw (c.addr-addr.ensures, w.word_left.ensures) at w.in_ok-insert.ensures.updates.0))
      | else-is_store_to w ↦
          rw w.lasts-is (lasts-same operations c.loop-index.index y here c.loop-index.lasts c.loop-index.invariant
          (rw c.addr-addr.ensures at (sym c.is_store_to.ensures ∙ w.if-is_store_to.false)))
    ]
