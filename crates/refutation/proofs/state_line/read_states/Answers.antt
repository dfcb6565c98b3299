use Rattle.std.proofs.Common.{◌≡◌, sym, ◌∙◌, ap, ◌==◌, true, length}
use Rattle.std.proofs.lemmas.Bool.{eqb-true, eq-eqb}
use Rattle.std.proofs.lemmas.List.{nil_from_length}
use Rattle.refutation.proofs.StateTexts.{states-more, set-once, no-addresses}
use Rattle.refutation.proofs.StepLines.{states-told, states-none}
use Rattle.refutation.proofs.state_line.read_states.Goals as goal

pub loop-states-preserved : goal.loop-states-preserved
loop-states-preserved c =
    let there = rw c.in-Some-2.is at c.in_ok-state.ensures in
    rw c.in_ok-push.ensures.items (states-more _ _ c.in-Some-2.behind.now _ c.in-Some-2.state c.loop-states.invariant there)

pub returns-in_default : goal.returns-in_default
returns-in_default c =
    let none = rw c.in_default.is at c.in_ok-addresses.ensures in
    states-none c.args.fields.now (λ b t fits is. no-addresses c.args.fields.now b t none fits.0 is)

pub returns-then-not-is_empty : goal.returns-then-not-is_empty
returns-then-not-is_empty c = states-none c.args.fields.now (λ b t fits is.
    let rest = c.loop-states.rest.now in
    let last = rw c.in_default-2.is at c.in_ok-state.ensures in
    let all = set-once _ b _ rest _ t (rw c.in-Some.is at c.in_ok-addresses.ensures) c.loop-states.invariant last fits is in
    let empty : (length rest == 0) ≡ true = eq-eqb (length rest) 0 (ap length all.2) in
    let a = c.if-not-is_empty.true in
    let b = c.is_empty.ensures in
    absurd cc)

pub returns : goal.returns
returns c =
    let rest = c.loop-states.rest.now in
    let none = nil_from_length rest (eqb-true (length rest) 0 (sym c.is_empty.ensures ∙ c.if-not-is_empty.false)) in
    rw c.new-set.ensures (states-told c.args.fields.now _ _ rest _ (rw c.in-Some.is at c.in_ok-addresses.ensures) c.loop-states.invariant none)
