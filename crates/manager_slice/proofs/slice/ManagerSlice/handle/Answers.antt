use Rattle.std.proofs.Common.{Ok, rules}
use Rattle.manager_slice.specs.Outcome.{OutcomeLeads, handle_outcome}
use Rattle.manager_slice.specs.Parts.{SliceParts}
use Rattle.manager_slice.specs.Replay.{IsKept}
use Rattle.manager_slice.proofs.Kept.{handled_busy, busy_exactly}
use Rattle.manager_slice.proofs.slice.ManagerSlice.handle.Goals as goal

pub returns-in-Ok-Recalled-clause-table : goal.returns-in-Ok-Recalled-clause-table
returns-in-Ok-Recalled-clause-table c =
    let was : SliceParts = record { number = c.self.inside.number; config = c.self.inside.config; state = c.self.inside.state; history = c.self.inside.history.items } in
    rw (← c.self.view_is) (handled_busy was c.self.invariant c.args.from c.args.message.now c.in-Ok-Recalled.recall (search rules))

pub returns-in_ok-answer-in-Ok-Answered-clause-busy : goal.returns-in_ok-answer-in-Ok-Answered-clause-busy
returns-in_ok-answer-in-Ok-Answered-clause-busy c =
    let kept : IsKept c.args.self.now = rw (← c.self.view_is) c.self.invariant in
    let met : OutcomeLeads (handle_outcome c.args.self.now c.args.from c.args.message.now) (Ok c.in-Ok-Answered.reply) c.args.self.now c.answer.new.self = search rules in
    busy_exactly c.args.self.now kept c.args.from c.args.message.now c.answer.new.self (Ok c.in-Ok-Answered.reply) met
