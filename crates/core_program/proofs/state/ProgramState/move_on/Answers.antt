use Rattle.std.proofs.Common.{◌≡◌, ◌<◌, ◌≤◌, ◌+◌, length, arith, sym, ◌∙◌, ap, subst, slice_get, Some, false}
use Rattle.std.proofs.lemmas.Option.{slice_get_within}
use Rattle.core_program.specs.Running.{after, at_rest}
use Rattle.core_program.specs.Shape.{touches_memory}
use Rattle.core_program.proofs.Rests.{at_rest-moves, ended-rests, leads_on, leads_inside, silent}
use Rattle.core_program.proofs.state.ProgramState.move_on.Goals as goal

pub perform-requires : goal.perform-requires
perform-requires c =
    let short : length c.args.program.now ≤ 4096 = c.instruction.ensures.shape.short in
    let within : c.loop-instruction.self.position ≤ length c.args.program.now = c.loop-instruction.invariant.1 in
    omega (arith, short, within)

pub loop-instruction-smaller : goal.loop-instruction-smaller
loop-instruction-smaller c =
    let i = c.in-Some.instruction.now in
    let s = c.loop-instruction.self in
    let on : s.position + 1 ≤ (after i 0 s).position = leads_on i 0 s in
    let here : s.position < length c.args.program.now = slice_get_within c.args.program.now s.position i (sym c.in-Some.ensures.next) in
    let further : s.position + 1 ≤ c.perform.new.self.position = subst (λ t. s.position + 1 ≤ t.position) (sym c.perform.ensures) on in
    omega (arith, here, further)

pub loop-instruction-preserved : goal.loop-instruction-preserved
loop-instruction-preserved c =
    let p = c.args.program.now in
    let i = c.in-Some.instruction.now in
    let s = c.loop-instruction.self in
    let next : slice_get p s.position ≡ Some i = sym c.in-Some.ensures.next in
    let quiet : touches_memory i ≡ false = sym c.touches_memory.ensures ∙ c.if-touches_memory.false in (
      ap (at_rest p) c.perform.ensures ∙ sym (at_rest-moves p s i next (silent i s quiet)) ∙ c.loop-instruction.invariant.0,
      subst (λ t. t.position ≤ length p) (sym c.perform.ensures) (leads_inside p i 0 s c.instruction.ensures.shape next),
    )

pub returns-clause-rests : goal.returns-clause-rests
returns-clause-rests c = ended-rests c.args.program.now c.loop-instruction.self c.loop-instruction.invariant.1 c.in_default.ensures.next
