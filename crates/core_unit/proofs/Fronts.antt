-- The log of a replay is a front of its program's operations.
use Rattle.std.proofs.Common.{◌≡◌, ◌≢◌, ◌<◌, ℕ, List, [], ◌∷◌, length, map, take, refl, sym, ap, subst, ◌∙◌, arith}
use Rattle.std.specs.Prelude.{Option, Some, None, IsSome, option_map}
use Rattle.std.proofs.lemmas.List.{map-append, length-map, take_all}
use Rattle.std.proofs.lemmas.Option.{slice_get_past}
use Rattle.mem_op.specs.declared.id.Op.{Op}
use Rattle.mem_op.specs.declared.id.Op.TheVariants as op
use Rattle.lease_rule.specs.ConfigParts.{ConfigParts}
use Rattle.log_record.specs.Entries.{operation_of}
use Rattle.core_program.specs.Conforming.{program_fault}
use Rattle.core_program.specs.Running.{IsAtRest, answered, next_op, op_of, state_after}
use Rattle.core_program.specs.Shape.{IsProgram}
use Rattle.core_program.proofs.Faults.{differs-fault}
use Rattle.core_program.proofs.Runs.{state_after-reaches, state_after-snoc}
use Rattle.private_cache.specs.Table.{Hit}
use Rattle.core_unit.specs.Core.{Core, new_core, next_of, record_of, after_hit}
use Rattle.core_unit.proofs.Looks.{record_answer}
use Rattle.core_unit.specs.Kept.{Replays}
use Rattle.core_unit.specs.Laws.{IsFront, performed_by}
use Rattle.core_unit.specs.Parts.{UnitParts}
use Rattle.core_unit.specs.Replay.{CoreLeads, CoreStep, performs, drops, gives, gets, is_taken, bumps}
use Rattle.core_unit.specs.declared.entry.CoreEntry.{CoreEntry}

-- the operations of the log lead to where the core is in its program
abbrev pub Ran : Core → Type 0
Ran u = state_after u.program (map operation_of u.log) ≡ Some u.state

record_op : (x : Op) (hit : Hit) → op_of (operation_of (record_of x hit)) ≡ x
record_op (op.Load a) hit = refl
record_op (op.Store a value) hit = refl
record_op (op.Swap a value) hit = refl

-- after one more operation
pub ran_on : (g : ConfigParts) (u : Core) (x : Op) (hit : Hit) → next_of u ≡ Some x → Ran u → Ran (after_hit g u x hit)
ran_on g u x hit next ran =
    ap (state_after u.program) (map-append operation_of u.log (record_of x hit ∷ []))
    ∙ (state_after-snoc u.program (map operation_of u.log) (operation_of (record_of x hit)) u.state ran (next ∙ ap (λ y. Some y) (sym (record_op x hit)))
    ∙ ap (λ w. Some (answered u.program w u.state)) (record_answer x hit))

step_ran : (g : ConfigParts) (c : ℕ) (u : Core) (e : CoreEntry) (v : Core) → CoreStep g c u e v → Ran u → Ran v
step_ran g c u e v (performs x hit free next hits) ran = ran_on g u x hit next ran
step_ran g c u e v (drops a l free at) ran = ran
step_ran g c u e v (gives kind a modified l asked free at) ran = ran
step_ran g c u e v (gets x reply held free next misses place kind fills) ran = ran
step_ran g c u e v (is_taken kind a l same) ran = ran
step_ran g c u e v (bumps free) ran = ran

leads_ran : (g : ConfigParts) (c : ℕ) (u : Core) (es : List CoreEntry) (v : Core) → CoreLeads g c u es v → Ran u → Ran v
leads_ran g c u [] v h ran = subst (λ (x : Core). Ran x) (sym h) ran
leads_ran g c u (e ∷ es) v h ran = leads_ran g c h.0 es v h.2 (step_ran g c u e h.0 h.1 ran)

-- where the program goes on, the log ends before it
ends_before : (p : UnitParts) → IsAtRest p.program p.state → Ran (record (new_core p.program) { state = p.state; log = p.log }) → p.state.position < length p.program
    → program_fault p.program (performed_by p) ≡ Some (length p.log)
ends_before p rests ran left =
    differs-fault p.program (performed_by p) (length p.log) (record {
      within = omega (arith, length-map p.log operation_of);
      next = next_op p.program p.state;
      issues = record {
        state = p.state;
        reached = state_after-reaches p.program (take (length p.log) (performed_by p)) p.state (ap (state_after p.program) all ∙ ran);
        rests = rests;
        next_is = refl;
      };
      differs = λ e. some (next_op p.program p.state) (rests.waits left) (e ∙ ap (option_map op_of) (slice_get_past (performed_by p) (length p.log) (omega (arith, length-map p.log operation_of))));
    })
  where
    all : take (length p.log) (performed_by p) ≡ performed_by p
    all = take_all (length p.log) (performed_by p) (omega (arith, length-map p.log operation_of))

    some : (o : Option Op) → IsSome o → o ≢ None
    some None h e = cc
    some (Some x) h e = cc

pub is_front : (p : UnitParts) → IsProgram p.program → IsAtRest p.program p.state → Replays p → IsFront p
is_front p program rests replays =
    let ran = leads_ran p.config p.core (new_core p.program) p.transcript _ replays.replay refl in
    let reaches = state_after-reaches p.program (performed_by p) p.state ran in
    record {
      reaches = reaches;
      whole = λ ended. (p.state, reaches, ended);
      proper = ends_before p rests ran;
    }
