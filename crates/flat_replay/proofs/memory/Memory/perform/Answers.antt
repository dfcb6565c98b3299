use Rattle.std.proofs.Common.{◌∙◌, sym}
use Rattle.flat_replay.proofs.Memories.{put_at}
use Rattle.flat_replay.proofs.memory.Memory.perform.Goals as goal

pub returns-in_ok-insert-clause-stored : goal.returns-in_ok-insert-clause-stored
returns-in_ok-insert-clause-stored g c =
    put_at c.args.access.now c.args.self.now.stores c.insert.new.self c.args.id c.addr-addr.result c.word_left.result c.addr-addr.ensures c.word_left.ensures
    (sym c.is_store_to.ensures ∙ c.if-is_store_to.true) c.in_ok-insert.ensures.updates
