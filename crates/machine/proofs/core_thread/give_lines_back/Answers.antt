use Rattle.machine.proofs.Giving.{falls}
use Rattle.machine.proofs.core_thread.give_lines_back.Goals as goal

pub loop-addr-smaller : goal.loop-addr-smaller
loop-addr-smaller g c =
    falls c.loop-addr.unit c.evict.new.self c.exchange.new.unit c.in-Some.addr c.in-Ok-Gave.message c.in_ok-exchange-in-Ok-Gave.field-0
    (rw c.in-Ok-Gave.field-0-is at c.in-Ok-Gave.ensures.outcome) c.in_ok-exchange-in-Ok-Gave.ensures.taken
