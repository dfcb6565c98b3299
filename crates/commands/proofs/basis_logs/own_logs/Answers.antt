use Rattle.std.proofs.Common.{rules, ◌≡◌, ◌++◌, ◌∷◌, []}
use Rattle.commands.proofs.OwnLogs.{one_log_more}
use Rattle.commands.proofs.basis_logs.own_logs.Goals as goal

pub loop-core-preserved : goal.loop-core-preserved
loop-core-preserved c =
    let items : c.push.new.self.items ≡ c.loop-core.logs.items ++ c.in_ok-own_log.field-0 ∷ [] = search rules in
    rw items (one_log_more c.args.entries.now c.loop-core.logs.items c.in_ok-own_log.field-0 c.loop-core.core c.loop-core.invariant c.in_ok-own_log.ensures)
