use Rattle.std.proofs.Common.{None, ◌≡◌, ◌++◌, ◌∷◌, [], ◌<◌, length, sym, ap, subst, arith, rules}
use Rattle.manager_slice.specs.Limits.{entry_limit}
use Rattle.core_program.specs.Running.{IsAtRest}
use Rattle.core_program.specs.State.{State}
use Rattle.core_unit.specs.Core.{tries}
use Rattle.core_unit.specs.Kept.{IsKept}
use Rattle.core_unit.specs.Outcomes.{performed}
use Rattle.core_unit.specs.Parts.{UnitParts, core_of}
use Rattle.core_unit.specs.declared.entry.CoreEntry.TheVariants as entry
use Rattle.core_unit.proofs.Found.{some_and}
use Rattle.core_unit.proofs.Keeping.{kept_performed}
use Rattle.core_unit.proofs.unit.CoreUnit.perform.Goals as goal

pub invariant_of-self-2 : goal.invariant_of-self-2
invariant_of-self-2 c =
    let was : UnitParts = record { core = c.self.inside.core; program = c.self.inside.program; config = c.self.inside.config; state = c.self.inside.state; pts = c.self.inside.pts; r = c.self.inside.r; cache = c.self.inside.cache; hand = c.self.inside.hand; transcript = c.self.inside.transcript.entries; log = c.self.inside.log.items } in
    let room : length was.transcript < entry_limit = omega (arith, c.in_ok-check_room.ensures) in
    let free = rw (← c.self.view_is) at c.requires.free in
    let next = rw (← c.self.view_is) at c.requires.next in
    let hits = rw (← c.self.view_is) at c.requires.hits in
    let found = some_and (tries was.core (core_of was None) c.args.op.now) _ hits in
    let q : UnitParts = record (performed was c.args.op.now found.0) { transcript = was.transcript ++ entry.Performed ∷ [] } in
    let r : UnitParts = record { core = c.self.inside.core; program = c.self.inside.program; config = c.self.inside.config; state = c.answer.new.self; pts = c.in_ok-pts_after.pts_after; r = c.in_ok-pts_after.r_after; cache = c.perform_at.new.cache; hand = c.self.inside.hand; transcript = c.push_performed.new.self.entries; log = c.push_reserved.new.self.items } in
    let same : r ≡ q = search rules in
    let rests = subst (λ (state : State). IsAtRest was.program state) {x = r.state} (ap (λ (p : UnitParts). p.state) {x = r} {y = q} same) c.answer.ensures.rests in
    let kept = kept_performed was c.self.invariant room free c.args.op.now found.0 next found.1 rests in
    subst IsKept {x = q} (sym {a = r} {b = q} same) kept

pub returns-clause-outcome : goal.returns-clause-outcome
returns-clause-outcome c =
    let found = some_and (tries c.args.self.now.core (core_of c.args.self.now None) c.args.op.now) _ c.requires.hits in
    rw found.1 (search rules)
