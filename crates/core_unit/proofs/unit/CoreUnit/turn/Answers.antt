use Rattle.std.proofs.Common.{◌≡◌, ◌∙◌, Some, None, sym, subst, rules}
use Rattle.core_unit.specs.Core.{next_of, tries}
use Rattle.core_unit.specs.Outcomes.{OutcomeLeads, UnitOutcome}
use Rattle.core_unit.specs.Parts.{UnitParts, core_of}
use Rattle.core_unit.proofs.Looks.{look_hits}
use Rattle.core_unit.proofs.Turns.{hit_acts, missed, turn_of_miss}
use Rattle.core_unit.proofs.unit.CoreUnit.turn.Goals as goal

pub perform-requires-clause-hits : goal.perform-requires-clause-hits
perform-requires-clause-hits c =
    let p : UnitParts = c.args.self.now in
    let told = rw c.in-Ok-Hit.is at c.look.ensures in
    look_hits (core_of p None) c.in-Some.op (tries p.core (core_of p None) c.in-Some.op) c.in-Ok-Hit.value c.in-Ok-Hit.source c.in-Ok-Hit.stamp c.in-Ok-Hit.rank c.record_of-made.result
    (sym (rw c.in-Ok-Hit.is at c.in-Ok-Hit.field-0-is) ∙ told.0) told.1 c.record_of-made.ensures

pub returns-in-Ok-Hit-clause-barred : goal.returns-in-Ok-Hit-clause-barred
returns-in-Ok-Hit-clause-barred c =
    let p : UnitParts = c.args.self.now in
    let told = rw c.in-Ok-Hit.is at c.look.ensures in
    λ e. absurd (hit_acts p c.perform.new.self c.in-Some.op (tries p.core (core_of p None) c.in-Some.op) c.in-Ok-Hit.value c.in-Ok-Hit.source c.in-Ok-Hit.stamp c.in-Ok-Hit.rank c.perform.result (sym (rw c.in-Ok-Hit.is at c.in-Ok-Hit.field-0-is) ∙ told.0) c.perform.ensures.outcome e)

pub returns-in-Ok-Miss-clause-outcome : goal.returns-in-Ok-Miss-clause-outcome
returns-in-Ok-Miss-clause-outcome c =
    let p : UnitParts = c.args.self.now in
    let free : p.hand ≡ None = search rules in
    let next : next_of (core_of p None) ≡ Some c.in-Some.op = search rules in
    let told = rw c.in-Ok-Miss.is at c.look.ensures in
    let misses = missed (core_of p None) c.in-Some.op (tries p.core (core_of p None) c.in-Some.op) c.in-Ok-Miss.request (sym (rw c.in-Ok-Miss.is at c.in-Ok-Miss.field-0-is) ∙ told.0) in
    subst (λ (o : UnitOutcome). OutcomeLeads o c.ask.result p c.ask.new.self) (sym (turn_of_miss p c.in-Some.op free next misses)) c.ask.ensures.outcome
