use Rattle.std.proofs.Common.{rules, ◌≡◌, ℕ, subst}
use Rattle.tardis_core.specs.Rounds.{IsFinished}
use Rattle.simulation.specs.Finishing.{no_core, one_more}
use Rattle.simulation.proofs.finishing.finish_all.Goals as goal

pub loop-number-init : goal.loop-number-init
loop-number-init c = no_core

pub loop-number-preserved : goal.loop-number-preserved
loop-number-preserved c =
    let number : c.at.result ≡ c.loop-number.number = search rules in
    one_more c.loop-number.number c.loop-number.machine c.finish.new.machine c.loop-number.invariant
    (subst (λ (n : ℕ). IsFinished n c.loop-number.machine c.finish.new.machine) number c.in_ok-finish.ensures.finish)
