-- What stands at an id among the entries of its log, by the state that the records before it lead to.
use Rattle.std.proofs.Common.{rules, ◌≡◌, ◌∙◌, ◌+◌, ap, refl, sym, map, take, slice_get}
use Rattle.std.specs.Prelude.{IfSome}
use Rattle.std.specs.List.{take-map}
use Rattle.core_program.specs.Answers.{line_in_set}
use Rattle.core_program.specs.Running.{next_op, state_after}
use Rattle.core_program.specs.State.{State, reg}
use Rattle.log_record.specs.declared.record.Entry.{Entry}
use Rattle.log_record.specs.Entries.{operation_of}
use Rattle.explain.specs.LogFaults.{IsStateAt}
use Rattle.explain.specs.Windows.{window}
use Rattle.explain.specs.inner.CoreLog.{records_of}
use Rattle.explain.proofs.departure.departure_from.Goals as goal

pub returns : goal.returns
returns c = record {
  program = c.args.program.now;
  there = c.requires.there;
  id_is = refl;
  found = c.found_at.ensures ∙ ap (slice_get c.args.log.now) index ∙ ap (λ xs. slice_get xs c.args.id.index) c.requires.whole;
  rows = rows ∙ ap (λ xs. window xs c.args.id.index) c.requires.whole;
  due = λ state at. c.due.ensures.op ∙ ap (next_op c.args.program.now) (led state at);
  instruction = λ state at. c.due.ensures.instruction ∙ ap (λ s. slice_get c.args.program.now s.position) (led state at);
  line = line;
  registers = λ state at n l. c.registers.ensures n l ∙ ap (λ s. reg s n) (led state at);
}
  where
    index : c.get-index.result ≡ c.args.id.index
    index = search rules

    rows : c.in_ok-entries_around.field-0.items ≡ window c.args.log.now c.args.id.index
    rows = search rules

    core : c.id-2.inside.core ≡ c.args.id.core
    core = search rules

    led : (state : State) → IsStateAt c.args.program.now (records_of c.args.log.now) c.args.id.index state → c.state_after-state.result ≡ state
    led state at = c.state_after-state.ensures.follows state (ap (λ rs. state_after c.args.program.now (map operation_of rs)) (before index) ∙ at)
      where
        before : c.get-index.result ≡ c.args.id.index → records_of (take c.get-index.result c.args.log.now) ≡ take c.args.id.index (records_of c.args.log.now)
        before is = sym (take-map (λ (e : Entry). e.logged) c.get-index.result c.args.log.now) ∙ ap (λ n. take n (records_of c.args.log.now)) is

    line : (state : State) → IsStateAt c.args.program.now (records_of c.args.log.now) c.args.id.index state
        → IfSome c.due.result (λ due. due.line ≡ line_in_set c.args.programs.now.programs c.args.id.core (state.position + 1))
    line state at = rw (← led state at, ← core) c.due.ensures.line
