use Rattle.std.proofs.Common.{◌∙◌, sym}
use Rattle.trace_replay.proofs.Stores.{kept}
use Rattle.trace_replay.proofs.stores_by_word.StoresByWord.keep.Goals as goal

pub returns-in_ok-insert : goal.returns-in_ok-insert
returns-in_ok-insert c =
    kept c.args.access.now c.args.self.now.stores c.insert.new.self c.args.id c.addr-addr.result c.word_left.result c.addr-addr.ensures c.word_left.ensures
    (sym c.is_store_to.ensures ∙ c.if-is_store_to.true) c.in_ok-insert.ensures.updates
