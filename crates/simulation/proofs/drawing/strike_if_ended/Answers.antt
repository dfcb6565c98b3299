use Rattle.std.proofs.Common.{◌≡◌, rules, false}
use Rattle.std.proofs.lemmas.Fn.{filter_same}
use Rattle.core_machine.specs.Parts.{world}
use Rattle.core_machine.specs.Works.{has_next}
use Rattle.simulation.specs.Drawing.{is_other}
use Rattle.simulation.proofs.drawing.strike_if_ended.Goals as goal

pub returns-then-not-has_next : goal.returns-then-not-has_next
returns-then-not-has_next c =
    let ended : has_next (world c.args.machine.now) c.args.core ≡ false = search rules in
    rw ended (filter_same _ (is_other c.args.core) _ (λ x b f' k. search rules) _ _ c.retain.ensures.filtered)
