-- Along a sequential order of operations that conform, the flat machine performs them.
use Rattle.std.specs.Prelude.{◌≡◌, ℕ, zero, suc, ◌<◌, if◌then◌else◌, List, [], ◌∷◌, ◌++◌, refl, None, Some, option_map, slice_get, slice_set, map, length}
use Rattle.std.specs.List.{filter_map, cons_option, AllZip}
use Rattle.std.proofs.Common.{sym, ◌∙◌, ap, subst, inl, inr, arith, get_or}
use Rattle.std.proofs.lemmas.Bool.{cases_eq, eq-eqb, ne_eqb}
use Rattle.std.proofs.lemmas.Bool.Decides.{nat_tests}
use Rattle.std.proofs.lemmas.List.{append-nil, append_assoc, map-append}
use Rattle.std.proofs.lemmas.List.FromFn.{fill_by_all}
use Rattle.std.proofs.lemmas.Option.{get_or_from_slice_get, slice_get-get_or, slice_get-map, slice_get_past, slice_get_within}
use Rattle.std.proofs.lemmas.Slice.Zip.{AllZip-long}
use Rattle.mem_op.specs.declared.id.OpId.{OpId}
use Rattle.mem_op.specs.Consistency.{Operation, Stored, operation_at, IsConsistent, GivesFlatAnswers, last_value}
use Rattle.line_stamps.specs.Ordered.{In}
use Rattle.line_stamps.proofs.Ordered.{In-append_right, In-map}
use Rattle.core_program.specs.declared.instruction.Instruction.{Instruction}
use Rattle.core_program.specs.State.{State, start}
use Rattle.core_program.specs.Meaning.{Path}
use Rattle.core_program.specs.Conforming.{Conforms}
use Rattle.flat_replay.specs.Accesses.{own_operations}
use Rattle.flat_replay.specs.Memory.{IsAnsweredBy, after}
use Rattle.flat_replay.proofs.Flat.{after_is, flat_at_middle}
use Rattle.flat_replay.proofs.Turns.{indices, InTurn, number_of, at_core, index_below, in_turn}
use Rattle.verdict.specs.FlatMachine.{Flat, flat_start, FlatRun, starts, performs, performed_by, HasEnded, IsWhole, RunsFlat}
use Rattle.verdict.proofs.Lists.{set_here, set_elsewhere}
use Rattle.verdict.proofs.Paths.{Halves, halves}

-- ---- the operations of an order

abbrev op_of : List (List Operation) → OpId → Operation
op_of cores id = get_or (own_operations cores id.core) id.index (Stored 0 0)

-- the operations of ids, each with its core
abbrev pairs : List (List Operation) → List OpId → List (ℕ × Operation)
pairs cores ids = map (λ id. (id.core, op_of cores id)) ids

abbrev operations : List (ℕ × Operation) → List Operation
operations done = map (λ p. p.1) done

operations_are : (cores : List (List Operation)) (ids : List OpId) → ((id : OpId) → In id ids → id.index < number_of cores id.core) → operations (pairs cores ids) ≡ filter_map (operation_at cores) ids
operations_are cores [] there = refl
operations_are cores (id ∷ ids) there =
    ap (λ ops. op_of cores id ∷ ops) (operations_are cores ids (λ x p. there x (inr p)))
    ∙ ap (λ o. cons_option o (filter_map (operation_at cores) ids)) (sym (at_core cores id ∙ slice_get-get_or (own_operations cores id.core) id.index (Stored 0 0) (there id (inl refl))))

by_indices : (cores : List (List Operation)) (core : ℕ) (ids : List OpId) → performed_by core (pairs cores ids) ≡ map (λ i. get_or (own_operations cores core) i (Stored 0 0)) (indices core ids)
by_indices cores core [] = refl
by_indices cores core (id ∷ ids) = let later = by_indices cores core ids in grind (arith, nat_tests)

-- ids in turn have just the operations of each core
of_each : (cores : List (List Operation)) (order : List OpId) → InTurn (number_of cores) order → (core : ℕ) → performed_by core (pairs cores order) ≡ own_operations cores core
of_each cores order turn core =
    let at = λ (i : ℕ). get_or (own_operations cores core) i (Stored 0 0) in
    by_indices cores core order ∙ ap (map at) (turn core) ∙ sym (fill_by_all at (own_operations cores core) (number_of cores core) (Stored 0 0) refl (λ k l. refl))

-- ---- the programs

each_conforms : (programs : List (List Instruction)) (cores : List (List Operation)) (core : ℕ) → AllZip Conforms programs cores → core < length programs → Conforms (get_or programs core []) (own_operations cores core)
each_conforms [] cores core h l = absurd (omega arith)
each_conforms (p ∷ ps) [] core h l = absurd h
each_conforms (p ∷ ps) (ops ∷ cores) zero h l = h.0
each_conforms (p ∷ ps) (ops ∷ cores) (suc core) h l = each_conforms ps cores core h.1 (omega arith)

-- a core with an operation is there
core_there : (cores : List (List Operation)) (core index : ℕ) → index < number_of cores core → core < length cores
core_there cores core index l = grind (arith, slice_get_past)

-- ---- the run

module _ (programs : List (List Instruction)) (all : List (ℕ × Operation)) (flat_answers : GivesFlatAnswers (operations all)) (has_program : (p : ℕ × Operation) → In p all → p.0 < length programs) where
  abbrev program_of : ℕ → List Instruction
  program_of core = get_or programs core []

  -- a core whose path to the end of its program performs these operations
  record Waits (states : List State) (core : ℕ) (ops : List Operation) : Type 0 where
    state : State
    at : slice_get states core ≡ Some state
    last : State
    path : Path (program_of core) state ops last
    ended : last.position ≡ length (program_of core)

  abbrev AllWait : List State → List (ℕ × Operation) → Type 0
  AllWait states rest = (core : ℕ) → core < length programs → Waits states core (performed_by core rest)

  -- the run goes on by one operation after another
  walk : (rest : List (ℕ × Operation)) (run : List ℕ) (done : List (ℕ × Operation)) (flat : Flat) → done ++ rest ≡ all → FlatRun programs run done flat → ((addr : ℕ) → flat.memory addr ≡ last_value addr (operations done)) → AllWait flat.states rest
      → (run : List ℕ) × (flat : Flat) × FlatRun programs run all flat × IsWhole programs flat
  walk [] run done flat split leads memory wait = (
    run,
    flat,
    subst (λ ps. FlatRun programs run ps flat) (sym (append-nil done) ∙ split) leads,
    λ core program given. (let w = wait core (slice_get_within programs core program given) in
        (w.state, w.at, subst (λ q. HasEnded q w.state) (get_or_from_slice_get programs core program [] given) (w.last, w.path, w.ended))),
  )
  walk (p ∷ rest) run done flat split leads memory wait =
      walk rest (run ++ p.0 ∷ []) (done ++ p ∷ []) (record { memory = after p.1 flat.memory; states = slice_set flat.states p.0 halved.middle }) (append_assoc done (p ∷ []) rest ∙ split)
      (performs run done flat p.0 (program_of p.0) waiting.state halved.middle p.1 leads (slice_get-get_or programs p.0 [] there) waiting.at halved.before answered)
      (λ addr. after_is p.1 flat.memory (operations done) addr (memory addr) ∙ ap (last_value addr) (sym (map-append (λ (q : ℕ × Operation). q.1) done (p ∷ [])))) wait_on
    where
      there : p.0 < length programs
      there = has_program p (subst (In p) split (In-append_right p done (p ∷ rest) (inl refl)))

      waiting : Waits flat.states p.0 (performed_by p.0 (p ∷ rest))
      waiting = wait p.0 there

      halved : Halves (program_of p.0) waiting.state p.1 (performed_by p.0 rest) waiting.last
      halved = halves (program_of p.0) waiting.state (performed_by p.0 (p ∷ rest)) waiting.last waiting.path p.1 (performed_by p.0 rest)
          (ap (λ b. cons_option (if b then Some p.1 else None) (performed_by p.0 rest)) (eq-eqb p.0 p.0 refl))

      answered : IsAnsweredBy flat.memory p.1
      answered = subst (λ (m : ℕ → ℕ). IsAnsweredBy m p.1) (sym (λ i addr. memory addr i))
          (flat_at_middle (operations done) p.1 (operations rest) (subst GivesFlatAnswers (ap operations (sym split) ∙ map-append (λ (q : ℕ × Operation). q.1) done (p ∷ rest)) flat_answers))

      wait_on : AllWait (slice_set flat.states p.0 halved.middle) rest
      wait_on core l = elim (cases_eq core p.0) [
        | inl same ↦ subst (λ c. Waits (slice_set flat.states p.0 halved.middle) c (performed_by c rest)) (sym same) (record {
          state = halved.middle;
          at = set_here flat.states p.0 halved.middle (slice_get_within flat.states p.0 waiting.state waiting.at);
          last = waiting.last;
          path = halved.behind;
          ended = waiting.ended;
        })
        | inr other ↦ (let w = wait core l in
            record {
              state = w.state;
              at = set_elsewhere flat.states p.0 core halved.middle other ∙ w.at;
              last = w.last;
              path = subst (λ ops. Path (program_of core) w.state ops w.last) (ap (λ b. cons_option (if b then Some p.1 else None) (performed_by core rest)) (ne_eqb p.0 core (λ e. other (sym e)))) w.path;
              ended = w.ended;
            })
      ]

pub runs_flat : (programs : List (List Instruction)) (cores : List (List Operation)) → AllZip Conforms programs cores → IsConsistent cores → RunsFlat programs cores
runs_flat programs cores conform (order, sequential) = (
  ran.0,
  record { done = pairs cores order; flat = ran.1; leads = ran.2; whole = ran.3; each = of_each cores order turn },
)
  where
    turn : InTurn (number_of cores) order
    turn = in_turn cores order sequential.serial sequential.program

    there : (id : OpId) → In id order → id.index < number_of cores id.core
    there id p = index_below (number_of cores) order id turn p

    has_program : (p : ℕ × Operation) → In p (pairs cores order) → p.0 < length programs
    has_program p h =
        let from = In-map (λ (id : OpId). (id.core, op_of cores id)) p order h in
        let l = core_there cores from.0.core from.0.index (there from.0 from.1) in
        let many = AllZip-long Conforms programs cores conform in
        let core_is : from.0.core ≡ p.0 = ap (λ (q : ℕ × Operation). q.0) from.2 in
        omega arith

    ran : (run : List ℕ) × (flat : Flat) × FlatRun programs run (pairs cores order) flat × IsWhole programs flat
    ran = walk programs (pairs cores order) (subst GivesFlatAnswers (sym (operations_are cores order there)) sequential.flat) has_program
        (pairs cores order) [] [] (flat_start programs) refl starts (λ addr. refl) (λ core l.
        let conforms = subst (Conforms (get_or programs core [])) (sym (of_each cores order turn core)) (each_conforms programs cores core conform l) in
        record {
          state = start;
          at = slice_get-map (λ (p : List Instruction). start) programs core ∙ ap (option_map (λ (p : List Instruction). start)) (slice_get-get_or programs core [] l);
          last = conforms.0;
          path = conforms.1;
          ended = conforms.2;
        })
