-- What a core unit keeps through its steps.
use Rattle.std.proofs.Common.{◌≡◌, ℕ, ◌+◌, ◌<◌, ◌≤◌, Bool, true, false, List, [], ◌∷◌, ◌++◌, length, length-append, refl, sym, ap, subst, ◌∙◌, arith}
use Rattle.manager_slice.specs.Limits.{entry_limit}
use Rattle.std.specs.Prelude.{Option, Some, None}
use Rattle.mem_op.specs.declared.id.Op.{Op}
use Rattle.mem_op.specs.declared.id.Op.TheVariants as op
use Rattle.line_stamps.specs.declared.line.Line.{Line}
use Rattle.line_stamps.specs.declared.message.Message.{Message}
use Rattle.line_stamps.specs.declared.message.Message.TheVariants.{ShReq, ExReq, WbRep, FlushRep}
use Rattle.line_stamps.specs.declared.message.Recall.{Recall}
use Rattle.line_stamps.specs.declared.message.RecallKind.{RecallKind}
use Rattle.line_stamps.specs.declared.message.RecallKind.TheVariants.{WriteBack, Flush}
use Rattle.line_stamps.specs.declared.message.Reply.{Reply}
use Rattle.line_stamps.specs.declared.message.Reply.TheVariants.{Taken}
use Rattle.log_record.specs.declared.record.Record.{Record}
use Rattle.core_program.specs.Running.{IsAtRest}
use Rattle.core_program.specs.State.{State}
use Rattle.private_cache.specs.Answers.{give_back}
use Rattle.private_cache.specs.CacheParts.{CacheParts}
use Rattle.private_cache.specs.Steps.{line_at, used, kept, without, after_recall, fill_line}
use Rattle.private_cache.specs.Table.{Hit, filled, given}
use Rattle.private_cache.specs.declared.held.Held.{Held}
use Rattle.private_cache.specs.declared.held.Held.TheVariants.{Shared, Exclusive}
use Rattle.manager_slice.proofs.Leads.{Leads-push}
use Rattle.line_stamps.specs.Messages.{addr_of}
use Rattle.manager_slice.specs.Messages.{is_request}
use Rattle.core_unit.specs.Core.{Core, next_of, op_addr, tries, next_request, has_place, fits}
use Rattle.core_unit.specs.Kept.{IsAsked, HandFits, IsKept}
use Rattle.core_unit.specs.Outcomes.{performed, without_hand}
use Rattle.core_unit.specs.Parts.{UnitParts, core_of, give_back_in, replayed}
use Rattle.core_unit.specs.Replay.{CoreStep, performs, drops, gives, gets, is_taken, bumps}
use Rattle.core_unit.specs.declared.entry.CoreEntry.{CoreEntry}
use Rattle.core_unit.specs.declared.entry.CoreEntry.TheVariants as entry

-- the message of an operation asks for its line
pub request_addr : (u : Core) (x : Op) → addr_of (next_request u x) ≡ op_addr x
request_addr u (op.Load a) = refl
request_addr u (op.Store a value) = refl
request_addr u (op.Swap a value) = refl

-- a request isn't a give-back
pub no_give_back : (m : Message) → is_request m ≡ true → give_back_in (Some m) ≡ None
no_give_back (ShReq a copy pts) e = refl
no_give_back (ExReq a copy) e = refl
no_give_back (WbRep a l) e = absurd (cc)
no_give_back (FlushRep a l) e = absurd (cc)

pub asked_request : (u : Core) (x : Op) → is_request (next_request u x) ≡ true
asked_request u (op.Load a) = refl
asked_request u (op.Store a value) = refl
asked_request u (op.Swap a value) = refl

pub fits_request : (m : Message) (reply : Reply) → fits m reply ≡ true → is_request m ≡ true
fits_request (ShReq a copy pts) reply e = refl
fits_request (ExReq a copy) reply e = refl
fits_request (WbRep a l) reply e = absurd (cc)
fits_request (FlushRep a l) reply e = absurd (cc)

-- a request in hand is asked for
pub asked_in : (p : UnitParts) (m : Message) (u : Core) → HandFits p.config p.core u (Some m) → is_request m ≡ true → IsAsked p.config p.core u m
asked_in p (ShReq a copy pts) u h e = h
asked_in p (ExReq a copy) u h e = h
asked_in p (WbRep a l) u h e = absurd (cc)
asked_in p (FlushRep a l) u h e = absurd (cc)

-- a reply that fills a line fits it
pub fill_filled : (cache : CacheParts) (a : ℕ) (reply : Reply) (held : Held) → fill_line cache a reply ≡ Some held → filled (line_at cache a) reply ≡ Some held
fill_filled cache a reply held e = grind (arith, e)

module _ (p : UnitParts) (k : IsKept p) (room : length p.transcript < entry_limit) where
  -- one more entry, with the unit that it leads to
  kept_by : (e : CoreEntry) (state : State) (pts r : ℕ) (cache : CacheParts) (hand : Option Message) (log : List Record)
      → let q : UnitParts = record { core = p.core; program = p.program; config = p.config; state = state; pts = pts; r = r; cache = cache; hand = hand; transcript = p.transcript ++ e ∷ []; log = log } in
      CoreStep p.config p.core (replayed p) e (replayed q) → HandFits p.config p.core (core_of q None) hand → IsAtRest p.program state
      → cache.capacity ≡ p.config.cache_lines → length log ≤ length p.transcript + 1 → IsKept q
  kept_by e state pts r cache hand log step fits rests capacity logged =
      let longer = length-append p.transcript (e ∷ []) in
      record {
        replays = record { replay = Leads-push (CoreStep p.config p.core) _ p.transcript (replayed p) e _ k.replays.replay step; hand = fits };
        rests = rests;
        capacity = capacity;
        short = omega (arith, longer);
        logged = omega (arith, longer);
      }

  -- no message is in hand
  module _ (free : p.hand ≡ None) where
    none_replayed : (replayed p).hand ≡ None
    none_replayed = ap give_back_in free

    free_fits : (u : Core) → HandFits p.config p.core u p.hand
    free_fits u = subst (λ (hand : Option Message). HandFits p.config p.core u hand) (sym free) tt

    pub kept_performed : (x : Op) (hit : Hit) → next_of (core_of p None) ≡ Some x → tries p.core (core_of p None) x ≡ Some hit
        → IsAtRest p.program (performed p x hit).state
        → IsKept (record (performed p x hit) { transcript = p.transcript ++ entry.Performed ∷ [] })
    kept_performed x hit next hits rests =
        let q = performed p x hit in
        kept_by entry.Performed q.state q.pts q.r q.cache p.hand q.log (performs x hit none_replayed next hits) (free_fits _) rests k.capacity
        (omega (arith, k.logged, length-append {A = Record} p.log))

    pub kept_dropped : (a : ℕ) (l : Line) → line_at p.cache a ≡ Some (Shared l)
        → IsKept (record p { cache = without p.cache a; transcript = p.transcript ++ entry.Dropped a ∷ [] })
    kept_dropped a l there =
        kept_by (entry.Dropped a) p.state p.pts p.r (without p.cache a) p.hand p.log (drops a l none_replayed there) (free_fits _) k.rests k.capacity
        (omega (arith, k.logged))

    pub kept_flushed : (a : ℕ) (modified : Bool) (l : Line) → line_at p.cache a ≡ Some (Exclusive modified l)
        → IsKept (record p { cache = without p.cache a; hand = Some (FlushRep a l); transcript = p.transcript ++ entry.Gave (FlushRep a l) ∷ [] })
    kept_flushed a modified l there =
        kept_by (entry.Gave (FlushRep a l)) p.state p.pts p.r (without p.cache a) (Some (FlushRep a l)) p.log
        (gives Flush a modified l 0 none_replayed there) tt k.rests k.capacity (omega (arith, k.logged))

    kept_recalled : (kind : RecallKind) (rts a owner : ℕ) (modified : Bool) (l : Line) → line_at p.cache a ≡ Some (Exclusive modified l)
        → let recall : Recall = record { rts = rts; addr = a; owner = owner; kind = kind } in
        let back = given kind l rts p.config.lease in
        let m = give_back kind a back in
        IsKept (record p { cache = after_recall p.cache recall (Some back); hand = Some m; transcript = p.transcript ++ entry.Gave m ∷ [] })
    kept_recalled Flush rts a owner modified l there = kept_flushed a modified l there
    kept_recalled WriteBack rts a owner modified l there =
        let back = given WriteBack l rts p.config.lease in
        kept_by (entry.Gave (WbRep a back)) p.state p.pts p.r (kept p.cache a (Shared back)) (Some (WbRep a back)) p.log
        (gives WriteBack a modified l rts none_replayed there) tt k.rests k.capacity (omega (arith, k.logged))

    pub kept_given : (recall : Recall) (modified : Bool) (l : Line) → line_at p.cache recall.addr ≡ Some (Exclusive modified l)
        → let back = given recall.kind l recall.rts p.config.lease in
        let m = give_back recall.kind recall.addr back in
        IsKept (record p { cache = after_recall p.cache recall (Some back); hand = Some m; transcript = p.transcript ++ entry.Gave m ∷ [] })
    kept_given recall modified l there = kept_recalled recall.kind recall.rts recall.addr recall.owner modified l there

    pub kept_bumped : IsKept (record p { pts = p.pts + 1; r = 0; transcript = p.transcript ++ entry.Bumped ∷ [] })
    kept_bumped =
        kept_by entry.Bumped p.state (p.pts + 1) 0 p.cache p.hand p.log (bumps none_replayed) (free_fits _) k.rests k.capacity (omega (arith, k.logged))

  -- this message is in hand
  module _ (m : Message) (held_in : p.hand ≡ Some m) where
    -- and gives a line back
    pub kept_given_up : is_request m ≡ false → IsKept (record (without_hand p) { transcript = p.transcript ++ entry.Got m Taken ∷ [] })
    kept_given_up e = by_message m held_in e
      where
        given_up : (kind : RecallKind) (a : ℕ) (l : Line) → give_back_in p.hand ≡ Some (give_back kind a l)
            → IsKept (record (without_hand p) { transcript = p.transcript ++ entry.Got (give_back kind a l) Taken ∷ [] })
        given_up kind a l same =
            kept_by (entry.Got (give_back kind a l) Taken) p.state p.pts p.r p.cache None p.log (is_taken kind a l same) tt k.rests k.capacity (omega (arith, k.logged))

        by_message : (x : Message) → p.hand ≡ Some x → is_request x ≡ false → IsKept (record (without_hand p) { transcript = p.transcript ++ entry.Got x Taken ∷ [] })
        by_message (ShReq a copy pts) h e = absurd (cc)
        by_message (ExReq a copy) h e = absurd (cc)
        by_message (WbRep a l) h e = given_up WriteBack a l (ap give_back_in h)
        by_message (FlushRep a l) h e = given_up Flush a l (ap give_back_in h)

    -- and this reply of its kind fills its line
    pub kept_taken : (reply : Reply) (held : Held) → fits m reply ≡ true → fill_line p.cache (addr_of m) reply ≡ Some held
        → IsKept (record (without_hand p) { cache = used p.cache (addr_of m) held; transcript = p.transcript ++ entry.Got m reply ∷ [] })
    kept_taken reply held kind fills =
        let request = fits_request m reply kind in
        let asked = asked_in p m u (subst (λ (hand : Option Message). HandFits p.config p.core u hand) held_in k.replays.hand) request in
        by_message asked.op m asked.is_request asked.next asked.misses asked.place (ap give_back_in held_in ∙ no_give_back m request) kind
        (fill_filled p.cache (addr_of m) reply held fills)
      where
        u : Core
        u = core_of p None

        Filled : Message → Type 0
        Filled y =
            fits y reply ≡ true → filled (line_at p.cache (addr_of y)) reply ≡ Some held
            → IsKept (record (without_hand p) { cache = used p.cache (addr_of y) held; transcript = p.transcript ++ entry.Got y reply ∷ [] })

        by_op : (x : Op) → next_of u ≡ Some x → tries p.core u x ≡ None → has_place p.config u (op_addr x) ≡ true → (replayed p).hand ≡ None → Filled (next_request u x)
        by_op (op.Load a) next misses place empty kind fills =
            kept_by (entry.Got (next_request u (op.Load a)) reply) p.state p.pts p.r (used p.cache a held) None p.log
            (gets (op.Load a) reply held empty next misses place kind fills) tt k.rests k.capacity (omega (arith, k.logged))
        by_op (op.Store a value) next misses place empty kind fills =
            kept_by (entry.Got (next_request u (op.Store a value)) reply) p.state p.pts p.r (used p.cache a held) None p.log
            (gets (op.Store a value) reply held empty next misses place kind fills) tt k.rests k.capacity (omega (arith, k.logged))
        by_op (op.Swap a value) next misses place empty kind fills =
            kept_by (entry.Got (next_request u (op.Swap a value)) reply) p.state p.pts p.r (used p.cache a held) None p.log
            (gets (op.Swap a value) reply held empty next misses place kind fills) tt k.rests k.capacity (omega (arith, k.logged))

        by_message : (x : Op) (y : Message) → y ≡ next_request u x → next_of u ≡ Some x → tries p.core u x ≡ None → has_place p.config u (op_addr x) ≡ true
            → (replayed p).hand ≡ None → Filled y
        by_message x y e next misses place empty = subst Filled (sym e) (by_op x next misses place empty)
