use Rattle.std.proofs.Common.{rules, ◌≡◌, ◌++◌, ◌∷◌, [], arith, get_or}
use Rattle.std.specs.Prelude.{map}
use Rattle.log_record.specs.Entries.{core_entries}
use Rattle.commands.specs.Sources.{numbered}
use Rattle.commands.proofs.SourceNumbers.{log_pushed}
use Rattle.commands.proofs.sources.numbered_logs.Goals as goal

pub loop-c-preserved : goal.loop-c-preserved
loop-c-preserved c =
    let items : c.push.new.self.items ≡ c.loop-c.made.items ++ c.in_ok-numbered_log.field-0 ∷ [] = search rules in
    let here : c.in_ok-numbered_log.field-0.items ≡ map (numbered c.args.worded.now) (core_entries c.loop-c.c 0 (get_or c.args.logs.now c.loop-c.c c.index-logs-c.result).items) =
    grind (arith, c.in_ok-numbered_log.ensures) in
    rw items (log_pushed c.args.worded.now c.args.logs.now c.loop-c.made.items c.in_ok-numbered_log.field-0 c.index-logs-c.result c.loop-c.c (omega arith) c.loop-c.invariant here)
