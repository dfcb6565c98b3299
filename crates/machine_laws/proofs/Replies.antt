-- Over every run a reply that is kept fits the message in hand, and a give-back comes from the owner.
use Rattle.std.proofs.Common.{◌≡◌, ap, sym, subst, ◌∙◌, ℕ, ◌≤◌, inl, inr, Bool, true, false, List, refl, arith}
use Rattle.std.specs.Prelude.{Option, Some, None, ◌==◌, if◌then◌else◌, unwrap_or, slice_get, slice_set}
use Rattle.std.specs.FinMap as map
use Rattle.mem_op.specs.declared.id.Op.{Op}
use Rattle.mem_op.specs.declared.id.Op.TheVariants as op
use Rattle.line_stamps.specs.declared.line.Line.{Line}
use Rattle.line_stamps.specs.declared.message.Message.{Message}
use Rattle.line_stamps.specs.declared.message.Message.TheVariants.{ShReq, ExReq, WbRep, FlushRep}
use Rattle.line_stamps.specs.declared.message.RecallKind.{RecallKind}
use Rattle.line_stamps.specs.declared.message.RecallKind.TheVariants.{WriteBack, Flush}
use Rattle.line_stamps.specs.declared.message.Reply.{Reply}
use Rattle.line_stamps.specs.declared.message.Reply.TheVariants.{ShRep, ExRep, RenewRep, UpgradeRep}
use Rattle.line_stamps.specs.Messages.{addr_of}
use Rattle.lease_rule.specs.ConfigParts.{ConfigParts}
use Rattle.lease_rule.specs.Lease.{renewed_rts}
use Rattle.core_program.specs.declared.instruction.Instruction.{Instruction}
use Rattle.private_cache.specs.Answers.{give_back}
use Rattle.private_cache.specs.Table.{with_rts, given}
use Rattle.private_cache.specs.declared.held.Held.{Held}
use Rattle.private_cache.specs.declared.held.Held.TheVariants.{Shared, Exclusive}
use Rattle.manager_slice.specs.Messages.{is_request}
use Rattle.manager_slice.specs.Table.{Slice, met_line, share_reply, own_reply, Serves, takes_written_back, takes_flushed, shares, gives, Handles, makes_room, is_busy}
use Rattle.manager_slice.specs.Table as slice
use Rattle.manager_slice.specs.declared.managed.HistoryEntry.{HistoryEntry}
use Rattle.manager_slice.specs.declared.managed.ManagedLine.{ManagedLine}
use Rattle.manager_slice.specs.declared.managed.ManagedLine.TheVariants as managed
use Rattle.core_unit.specs.Core.{Core, op_addr, request, next_request, has_place, has_given, fits}
use Rattle.core_unit.specs.declared.outcome.Outcome.{Outcome}
use Rattle.core_machine.specs.Machine.{World, with_core, with_slice, slice_number, CoreLeads, turn_hits, turn_drops, turn_gives, turn_asks, turn_ends, takes, takes_nothing, takes_busy, recall_gives, evict_drops, evict_gives, increments, Leads, by_core, serves, spills, no_effect, Run, start, next, opening}
use Rattle.core_machine.specs.declared.event.Event.{Event}
use Rattle.core_machine.proofs.Placed.{set_here}
use Rattle.verdict.proofs.Lists.{set_elsewhere}
use Rattle.machine_laws.specs.Settled.{settled}
use Rattle.machine_laws.specs.Hands.{HandTells, ReplyFits, no_message, unserved, busy, taken, fills, RepliesFit}
use Rattle.machine_laws.specs.Laws.{IsReachedFrom}
use Rattle.machine_laws.proofs.Stamps.{which}
use Rattle.machine_laws.proofs.Refining.{IsRequest, request_not_own, request_lease, share_arrives, own_arrives, own_entry, give_addr, give_unserved}
use Rattle.machine_laws.proofs.Keeping.{Keeps, same_core, leads_keeps, spill_keeps, busy_request}
use Rattle.machine_laws.proofs.Opening.{new_at, opening_keeps}

free_kept : (g : ConfigParts) (u : Core) → u.hand ≡ None → ReplyFits g u → u.kept ≡ None
free_kept g u e (no_message h k) = k
free_kept g u e (unserved m h k p) = absurd cc
free_kept g u e (busy m x h k i) = absurd cc
free_kept g u e (taken m h k i) = absurd cc
free_kept g u e (fills m x held h k f p i) = absurd cc

-- a request that isn't served has place for its line
asking_place : (g : ConfigParts) (u : Core) (m : Message) → u.hand ≡ Some m → u.kept ≡ None → ReplyFits g u → is_request m ≡ true → has_place g u (addr_of m) ≡ true
asking_place g u m e n (no_message h k) i = absurd cc
asking_place g u m e n (unserved m' h k p) i =
    let same : Some m' ≡ Some m = sym h ∙ e in
    let one : m' ≡ m = cc in
    subst (λ (m : Message). has_place g u (addr_of m) ≡ true) one (p (rw one i))
asking_place g u m e n (busy m' x h k j) i = absurd cc
asking_place g u m e n (taken m' h k j) i = absurd cc
asking_place g u m e n (fills m' x held h k f p j) i = absurd cc

core_ready : (g : ConfigParts) (w : World) (c : ℕ) (u v : Core) → slice_get w.cores c ≡ Some u → RepliesFit g w → ReplyFits g v → RepliesFit g (with_core w c v)
core_ready g w c u v e all r d x ex = elim (which d c) [
  | inl i ↦ subst (ReplyFits g) (same_core v x (sym (set_here w.cores c u v e) ∙ subst (λ (n : ℕ). slice_get (slice_set w.cores c v) n ≡ Some x) i ex)) r
  | inr n ↦ all d x (sym (set_elsewhere w.cores c d v n) ∙ ex)
]

request_addr : (x : Op) (pts : ℕ) (h : Option Held) → addr_of (request x pts h) ≡ op_addr x
request_addr (op.Load a) pts h = refl
request_addr (op.Store a v) pts h = refl
request_addr (op.Swap a v) pts h = refl

share_fits : (a : ℕ) (copy : Option ℕ) (pts : ℕ) (l : Line) → fits (ShReq a copy pts) (share_reply copy l) ≡ true
share_fits a None pts l = refl
share_fits a (Some w) pts l = both (w == l.stamps.wts)
  where
    both : (b : Bool) → fits (ShReq a (Some w) pts) (if b then RenewRep l.stamps.rts else ShRep l) ≡ true
    both true = refl
    both false = refl

pub own_fits : (a : ℕ) (copy : Option ℕ) (l : Line) → fits (ExReq a copy) (own_reply copy l) ≡ true
own_fits a None l = refl
own_fits a (Some w) l = both (w == l.stamps.wts)
  where
    both : (b : Bool) → fits (ExReq a (Some w)) (if b then UpgradeRep l.stamps.rts else ExRep l) ≡ true
    both true = refl
    both false = refl

serve_ready : (g : ConfigParts) (w : World) (c : ℕ) (u : Core) (m : Message) (x : Reply) (s t : Slice) → slice_get w.cores c ≡ Some u → u.hand ≡ Some m → u.kept ≡ None → slice_get w.slices (slice_number g (addr_of m)) ≡ Some s → Serves g s c m x t → Keeps g w → ReplyFits g u
    → ReplyFits g (record u { kept = Some x })
serve_ready g w c u m x s t at hand kept es (takes_written_back a l there) k r = taken (WbRep a l) hand refl refl
serve_ready g w c u m x s t at hand kept es (takes_flushed a l there) k r = taken (FlushRep a l) hand refl refl
serve_ready g w c u m x s t at hand kept es (shares a copy pts l met room) k r =
    let same : HandTells u.hand u.lines = k.hands c u at in
    let q : IsRequest g w c u (ShReq a copy pts) a s l = record { core = at; hand = hand; kept = kept; addr = refl; ask = refl; slice = es; common = met } in
    let lease : l.stamps.wts ≤ l.stamps.rts = request_lease g w c u (ShReq a copy pts) a s l q k.stamps in
    let t : ℕ = renewed_rts l.stamps pts g.lease in
    let z = share_arrives (map.get u.lines a) copy l t (request_not_own g w c u (ShReq a copy pts) a s l q k.owners) (rw hand at same) (omega arith) in
    fills (ShReq a copy pts) _ (Shared z.0) hand refl (share_fits a copy pts (with_rts l t)) (asking_place g u (ShReq a copy pts) hand kept r refl) z.1
serve_ready g w c u m x s t at hand kept es (gives a copy l met room) k r =
    let same : HandTells u.hand u.lines = k.hands c u at in
    let q : IsRequest g w c u (ExReq a copy) a s l = record { core = at; hand = hand; kept = kept; addr = refl; ask = refl; slice = es; common = met } in
    let lease : l.stamps.wts ≤ l.stamps.rts = request_lease g w c u (ExReq a copy) a s l q k.stamps in
    let z = own_arrives (map.get u.lines a) copy l (request_not_own g w c u (ExReq a copy) a s l q k.owners) (rw hand at same) lease in
    fills (ExReq a copy) _ (Exclusive false z.0) hand refl (own_fits a copy l) (asking_place g u (ExReq a copy) hand kept r refl) z.1

given_ready : (g : ConfigParts) (u : Core) (kind : RecallKind) (a : ℕ) (l : Line) → ReplyFits g (has_given u kind a l)
given_ready g u WriteBack a l = unserved (WbRep a l) refl refl (λ i. absurd cc)
given_ready g u Flush a l = unserved (FlushRep a l) refl refl (λ i. absurd cc)

alone_ready : (g : ConfigParts) (c : ℕ) (u : Core) (e : Event) (o : Outcome) (v : Core) → CoreLeads g c u e o v → ReplyFits g u → ReplyFits g v
alone_ready g c u e o v (turn_hits x hit free issued hits) r = no_message free (free_kept g u free r)
alone_ready g c u e o v (turn_drops x b l free issued misses place there) r = no_message free (free_kept g u free r)
alone_ready g c u e o v (turn_gives x b m l free issued misses place there) r = given_ready g u Flush b l
alone_ready g c u e o v (turn_asks x free issued misses place) r =
    unserved (next_request u x) refl refl (λ i. rw (request_addr x u.pts (map.get u.lines (op_addr x))) place)
alone_ready g c u e o v (turn_ends free issued) r = r
alone_ready g c u e o v (takes m x held hand kept fit place fill) r = no_message refl refl
alone_ready g c u e o v (takes_nothing m hand kept gives_back) r = no_message refl refl
alone_ready g c u e o v (takes_busy m x hand kept asks) r = no_message refl refl
alone_ready g c u e o v (recall_gives x m l free there) r = given_ready g u x.kind x.addr (given x.kind l x.rts g.lease)
alone_ready g c u e o v (evict_drops b l free there) r = no_message free (free_kept g u free r)
alone_ready g c u e o v (evict_gives b m l free there) r = given_ready g u Flush b l
alone_ready g c u e o v (increments free) r = no_message free (free_kept g u free r)

handle_ready : (g : ConfigParts) (w : World) (c : ℕ) (u : Core) (m : Message) (x : Reply) (entries : List HistoryEntry) (s t : Slice) → slice_get w.cores c ≡ Some u → u.hand ≡ Some m → u.kept ≡ None → slice_get w.slices (slice_number g (addr_of m)) ≡ Some s → Handles g s c m x entries t → Keeps g w → ReplyFits g u
    → ReplyFits g (record u { kept = Some x })
handle_ready g w c u m x entries s t at hand kept es (slice.serves r t' step) k f = serve_ready g w c u m x s t at hand kept es step k f
handle_ready g w c u m x entries s t at hand kept es (makes_room b r between t' none much gone step) k f =
    serve_ready g (with_slice g w (addr_of m) between) c u m x between t at hand kept (set_here w.slices (slice_number g (addr_of m)) s between es) step (spill_keeps g w (addr_of m) b s between es gone k) f
handle_ready g w c u m x entries s t at hand kept es (is_busy recall is) k f = busy m recall hand refl (busy_request g s m recall is)

pub leads_ready : (g : ConfigParts) (w : World) (e : Event) (o : Outcome) (t : World) → Leads g w e o t → Keeps g w → RepliesFit g w → RepliesFit g t
leads_ready g w e o t (by_core c e' o' u v at step) k r = core_ready g w c u v at r (alone_ready g c u e' o' v step (r c u at))
leads_ready g w e o t (serves c u m x entries s s' at hand kept es step) k r = core_ready g w c u (record u { kept = Some x }) at r (handle_ready g w c u m x entries s s' at hand kept es step k (r c u at))
leads_ready g w e o t (spills a s s' es gone) k r = r
leads_ready g w e o t (no_effect e' barred) k r = r

run_ready : (g : ConfigParts) (w : World) (events : List Event) (t : World) → Run g w events t → Keeps g w → RepliesFit g w → Keeps g t × RepliesFit g t
run_ready g w events t start k r = (k, r)
run_ready g w events t (next es e o between t' run step) k r =
    let z = run_ready g w es between run k r in
    (leads_keeps g between e o t' step z.0, leads_ready g between e o t' step z.0 z.1)

opening_ready : (g : ConfigParts) (programs : List (List Instruction)) → RepliesFit g (opening programs g.slices)
opening_ready g programs c u e = let z = new_at programs c u e in no_message (rw z.1 refl) (rw z.1 refl)

pub reached_ready : (programs : List (List Instruction)) (g : ConfigParts) (w : World) → IsReachedFrom programs g w → Keeps g w × RepliesFit g w
reached_ready programs g w r = run_ready g (opening programs g.slices) r.0 w r.1 (opening_keeps g programs) (opening_ready g programs)

-- a give-back that isn't served comes from the owner
pub owner_gives : (g : ConfigParts) (w : World) → Keeps g w → (c : ℕ) (u : Core) (kind : RecallKind) (a : ℕ) (l : Line) (s : Slice) → slice_get w.cores c ≡ Some u → u.hand ≡ Some (give_back kind a l) → u.kept ≡ None → slice_get w.slices (slice_number g a) ≡ Some s
    → map.get s.lines a ≡ Some (managed.Exclusive c)
owner_gives g w k c u kind a l s at hand kept es = from_lines (map.get s.lines a) _ met
  where
    entry : (settled g w).entry c a ≡ Some (Exclusive false l)
    entry = rw (at, hand, kept) (own_entry (give_back kind a l) None a (map.get u.lines a) (sym (give_addr kind a l)) ∙ give_unserved kind a l (map.get u.lines a))

    met : met_line s a ≡ managed.Exclusive c
    met = rw es at (k.owners.owner c a false l entry)

    from_lines : (o : Option ManagedLine) (l : Line) → unwrap_or o (managed.Shared l) ≡ managed.Exclusive c → o ≡ Some (managed.Exclusive c)
    from_lines None l e = absurd cc
    from_lines (Some m) l e = ap Some e
