-- What contracts see of an inbox.
use Rattle.std.specs.Prelude.{ℕ}
use Rattle.crossbeam_queue.specs.Passes.{queue_capacity}
use Rattle.inbox.specs.declared.recalls.Inbox.{Inbox}

-- how many recalls may wait in it at once
abbrev pub capacity_of : Inbox → ℕ
capacity_of inbox = queue_capacity inbox.queue
