use Rattle.std.proofs.Common.{rules, ◌≡◌, ◌∙◌, ◌<◌, ◌≤◌, ℕ, refl, sym, subst, Err, arith}
use Rattle.std.specs.Prelude.{Option}
use Rattle.rand_pcg.specs.Lcg.{Lcg}
use Rattle.simulation.specs.Drawing.{Leads, draws_of, generator_of, no_round, one_more, no_memory, undisturbed}
use Rattle.simulation.specs.declared.fault.SimulationFault.TheVariants.{Core, OutOfMemory}
use Rattle.simulation.proofs.Disturbed.{disturbed_left, disturbed_patience}
use Rattle.simulation.proofs.Drawn.{drawn_fault}
use Rattle.simulation.proofs.Draws.{patience_ends}
use Rattle.simulation.proofs.Left.{left_behind}
use Rattle.simulation.proofs.drawing.draw_out.Goals as goal

pub returns-in_err-left : goal.returns-in_err-left
returns-in_err-left c =
    let is : c.from_residual.result ≡ Err OutOfMemory = search rules in
    rw is (no_memory refl refl)

pub loop-generator-init : goal.loop-generator-init
loop-generator-init c = record {
  leads =
      subst (λ (g : Lcg). Leads (draws_of c.args.seed c.args.stress) c.args.machine.now (record { generator = g; stress = c.generator_of-between.result; waits = _ }) c.args.machine.now) (sym c.seed_from_u64-generator.ensures)
      (subst (λ (b : Option Lcg). Leads (draws_of c.args.seed c.args.stress) c.args.machine.now (record { generator = generator_of c.args.seed; stress = b; waits = _ }) c.args.machine.now) (sym c.generator_of-between.ensures) no_round);
  left = c.in_ok-left.ensures;
  long = refl;
}

pub disturb-requires-clause-all : goal.disturb-requires-clause-all
disturb-requires-clause-all c = c.as_slice-cores.ensures.value ∙ c.loop-generator.invariant.left

pub returns-in_err-disturb : goal.returns-in_err-disturb
returns-in_err-disturb c =
    let is : c.from_residual-in_err-disturb.result ≡ Err c.in_err-disturb.field-0.0 = search rules in
    rw is (undisturbed _ c.loop-generator.machine c.loop-generator.invariant.leads c.in_err-disturb.ensures.did)

pub returns-in_err-drawn_round : goal.returns-in_err-drawn_round
returns-in_err-drawn_round c =
    let is : c.from_residual-in_err-drawn_round.result ≡ Err (Core c.in_err-drawn_round.field-0.0) = search rules in
    let did = c.in_ok-disturb.ensures.did in
    let same = disturbed_left c.loop-generator.between c.loop-generator.machine c.disturb.new.machine did in
    let among = c.as_slice-cores.ensures.value ∙ c.loop-generator.invariant.left ∙ sym same in
    let picked = rw among at c.pick-core.ensures.core in
    rw is (drawn_fault c.args.seed c.args.stress c.args.machine.now _ c.loop-generator.machine c.pick-core.result c.disturb.new.machine c.drawn_round.new.machine
    c.in_err-drawn_round.field-0.0 c.loop-generator.invariant.leads did picked c.in_err-drawn_round.ensures.fault)

less_yet : (a b c : ℕ) → a < b → b ≤ c → a < c
less_yet a b c less kept = omega (arith, less, kept)

pub loop-generator-smaller : goal.loop-generator-smaller
loop-generator-smaller c =
    let did = c.in_ok-drawn_round.ensures in
    let kept = disturbed_patience c.loop-generator.between c.loop-generator.machine c.disturb.new.machine c.loop-generator.waits c.in_ok-disturb.ensures.did in
    let less = patience_ends c.disturb.new.machine c.loop-generator.waits c.pick-core.result c.drawn_round.new.machine c.loop-generator.invariant.long
    (search arith) did.round did.few in
    rw did.waits (less_yet _ _ _ less kept)

pub loop-generator-preserved : goal.loop-generator-preserved
loop-generator-preserved c =
    let did = c.in_ok-drawn_round.ensures in
    let disturbed = c.in_ok-disturb.ensures.did in
    let same = disturbed_left c.loop-generator.between c.loop-generator.machine c.disturb.new.machine disturbed in
    let left = c.loop-generator.invariant.left ∙ sym same in
    let picked = rw (c.as_slice-cores.ensures.value ∙ left) at c.pick-core.ensures.core in
    record {
      leads = rw (c.pick-core.ensures.moves, c.disturb.ensures.moves, did.waits) (one_more _ c.loop-generator.machine c.pick-core.result c.disturb.new.machine c.drawn_round.new.machine
          c.loop-generator.invariant.leads disturbed (record { drawn = picked; round = did.round }) did.few);
      left = c.strike_if_ended.ensures ∙ rw left (sym (left_behind c.pick-core.result c.disturb.new.machine c.drawn_round.new.machine did.round));
      long = search rules;
    }
