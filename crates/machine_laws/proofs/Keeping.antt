-- What every event of the core machine keeps.
use Rattle.std.proofs.Common.{◌≡◌, sym, subst, ◌∙◌, ℕ, inl, inr, true, List, refl, arith}
use Rattle.std.specs.Prelude.{Some, None, slice_get, slice_set}
use Rattle.std.specs.FinMap as map
use Rattle.std.proofs.lemmas.List.{set-set}
use Rattle.mem_op.specs.declared.id.Op.{Op}
use Rattle.mem_op.specs.declared.id.Op.TheVariants as op
use Rattle.line_stamps.specs.RecallParts.{RecallParts}
use Rattle.line_stamps.specs.declared.line.Line.{Line}
use Rattle.line_stamps.specs.declared.message.Message.{Message}
use Rattle.line_stamps.specs.declared.message.Message.TheVariants.{ShReq, ExReq}
use Rattle.line_stamps.specs.declared.message.RecallKind.{RecallKind}
use Rattle.line_stamps.specs.declared.message.RecallKind.TheVariants.{WriteBack, Flush}
use Rattle.line_stamps.specs.declared.message.Reply.{Reply}
use Rattle.line_stamps.specs.declared.message.Reply.TheVariants.{Taken, Busy}
use Rattle.line_stamps.specs.Messages.{addr_of}
use Rattle.lease_rule.specs.ConfigParts.{ConfigParts}
use Rattle.lease_rule.specs.Lease.{renewed_rts}
use Rattle.private_cache.specs.Answers.{give_back}
use Rattle.private_cache.specs.CacheParts.{Lines}
use Rattle.private_cache.specs.Table.{given, left}
use Rattle.manager_slice.specs.Messages.{is_request}
use Rattle.manager_slice.specs.Table.{Slice, Evicts, Serves, takes_written_back, takes_flushed, shares, gives, IsBusy, owned_to_read, owned_to_write, full, Handles, makes_room, is_busy}
use Rattle.manager_slice.specs.Table as slice
use Rattle.manager_slice.specs.declared.managed.HistoryEntry.{HistoryEntry}
use Rattle.core_unit.specs.Core.{Core, op_addr, record_of, next_request, request, after_hit, has_dropped, has_given, has_asked, has_taken, has_let_go, has_bumped}
use Rattle.core_unit.specs.declared.outcome.Outcome.{Outcome}
use Rattle.core_machine.specs.Machine.{World, with_core, with_slice, slice_number, CoreLeads, turn_hits, turn_drops, turn_gives, turn_asks, turn_ends, takes, takes_nothing, takes_busy, recall_gives, evict_drops, evict_gives, increments, Leads, by_core, serves, spills, no_effect, Run, start, next}
use Rattle.core_machine.specs.declared.event.Event.{Event}
use Rattle.core_machine.proofs.Placed.{set_again}
use Rattle.core_machine.proofs.Placed.{set_here}
use Rattle.verdict.proofs.Lists.{set_elsewhere}
use Rattle.machine_laws.specs.Stamps.{HasStamps}
use Rattle.machine_laws.specs.Versions.{HasVersions}
use Rattle.machine_laws.specs.Settled.{Settled, settled, view}
use Rattle.machine_laws.specs.Hands.{AgreeOnOwners, HandTells, HandsTell}
use Rattle.machine_laws.proofs.Stamps.{which, quiet_stamps}
use Rattle.machine_laws.proofs.Versions.{quiet_versions}
use Rattle.machine_laws.proofs.Moves.{Move, move_owns}
use Rattle.machine_laws.proofs.Quiet.{move_quiet, move_sources, spill_owns, spill_quiet, spill_sources}
use Rattle.machine_laws.proofs.Operations.{hit_owns, hit_stamps, hit_versions}
use Rattle.machine_laws.proofs.Maps.{get-put_same}
use Rattle.machine_laws.proofs.Refining.{drop_move, give_move, ask_move, busy_move, empty_move, take_move, bump_move, give_back_move, IsRequest, share_move, own_move, request_is, filled_taken, filled_busy}
use Rattle.machine_laws.proofs.Hits.{hit_operation, hit_is_hit, spill_move}

pub record Keeps (g : ConfigParts) (w : World) : Type 0 where
  pub hands : HandsTell w
  pub owners : AgreeOnOwners (settled g w)
  pub stamps : HasStamps (view (settled g w))
  pub versions : HasVersions (view (settled g w))

moves : (g : ConfigParts) (w t : World) → Move (settled g w) (settled g t) → HandsTell t → Keeps g w → Keeps g t
moves g w t m fits k =
    let x : Settled = settled g w in
    let y : Settled = settled g t in
    let quiet = move_quiet x y m k.owners k.stamps in
    record {
      hands = fits;
      owners = move_owns x y m k.owners;
      stamps = quiet_stamps (view x) (view y) quiet k.stamps;
      versions = quiet_versions (view x) (view y) quiet (move_sources x y m k.owners k.stamps k.versions) k.versions;
    }

pub same_core : (u v : Core) → Some u ≡ Some v → u ≡ v
same_core u v e = cc

core_fits : (g : ConfigParts) (w : World) (c : ℕ) (u v : Core) → slice_get w.cores c ≡ Some u → Keeps g w → HandTells v.hand v.lines → HandsTell (with_core w c v)
core_fits g w c u v e k f d x ex = elim (which d c) [
  | inl i ↦ subst (λ (z : Core). HandTells z.hand z.lines) (same_core v x (sym (set_here w.cores c u v e) ∙ subst (λ (n : ℕ). slice_get (slice_set w.cores c v) n ≡ Some x) i ex)) f
  | inr n ↦ k.hands d x (sym (set_elsewhere w.cores c d v n) ∙ ex)
]

request_fits : (x : Op) (pts : ℕ) (m : Lines) → HandTells (Some (request x pts (map.get m (op_addr x)))) m
request_fits (op.Load a) pts m = refl
request_fits (op.Store a v) pts m = refl
request_fits (op.Swap a v) pts m = refl

given_fits : (kind : RecallKind) (a : ℕ) (l : Line) (m : Lines) → map.get m a ≡ left kind l → HandTells (Some (give_back kind a l)) m
given_fits WriteBack a l m e = e
given_fits Flush a l m e = e

free_fits : (u : Core) → u.hand ≡ None → (m : Lines) → HandTells u.hand m
free_fits u e m = rw e tt

-- ---- a core's events

core_keeps : (g : ConfigParts) (w : World) (c : ℕ) (u : Core) (e : Event) (o : Outcome) (v : Core) → slice_get w.cores c ≡ Some u → CoreLeads g c u e o v → Keeps g w → Keeps g (with_core w c v)
core_keeps g w c u e o v at (turn_hits x hit free issued hits) k =
    let s = hit_operation g w c u x hit at free in
    let t = hit_is_hit g w c u x hit at free hits in
    let a : Settled = settled g w in
    let b : Settled = settled g (with_core w c (after_hit g u x hit)) in
    record {
      hands = core_fits g w c u (after_hit g u x hit) at k (free_fits u free (after_hit g u x hit).lines);
      owners = hit_owns a b c (op_addr x) (record_of x hit) s t k.owners;
      stamps = hit_stamps a b c (op_addr x) (record_of x hit) s t k.owners k.stamps;
      versions = hit_versions a b c (op_addr x) (record_of x hit) s t k.owners k.stamps k.versions;
    }
core_keeps g w c u e o v at (turn_drops x b l free issued misses place there) k =
    moves g w _ (drop_move g w c u b l at free there) (core_fits g w c u (has_dropped u b) at k (free_fits u free _)) k
core_keeps g w c u e o v at (turn_gives x b m l free issued misses place there) k =
    moves g w _ (give_move g w c u Flush b m l 0 at free there) (core_fits g w c u (has_given u Flush b l) at k (get-put_same u.lines b (left Flush l))) k
core_keeps g w c u e o v at (turn_asks x free issued misses place) k =
    moves g w _ (ask_move g w c u (next_request u x) at free (request_is x u.pts (map.get u.lines (op_addr x)))) (core_fits g w c u (has_asked u (next_request u x)) at k (request_fits x u.pts u.lines)) k
core_keeps g w c u e o v at (turn_ends free issued) k =
    subst (λ (z : List Core). Keeps g (record { cores = z; slices = w.slices })) (sym (set_again w.cores c u at)) k
core_keeps g w c u e o v at (takes m x held hand kept fit place fills) k =
    moves g w _ (take_move g w c u m x held at hand kept fills) (core_fits g w c u (has_taken u (addr_of m) held) at k tt) k
core_keeps g w c u e o v at (takes_nothing m hand kept gives_back) k =
    moves g w _ (empty_move g w c u m Taken at hand kept filled_taken) (core_fits g w c u (has_let_go u) at k tt) k
core_keeps g w c u e o v at (takes_busy m x hand kept asks) k =
    moves g w _ (empty_move g w c u m (Busy x) at hand kept (λ h. filled_busy h x)) (core_fits g w c u (has_let_go u) at k tt) k
core_keeps g w c u e o v at (recall_gives x m l free there) k =
    let l' : Line = given x.kind l x.rts g.lease in
    moves g w _ (give_move g w c u x.kind x.addr m l x.rts at free there) (core_fits g w c u (has_given u x.kind x.addr l') at k (given_fits x.kind x.addr l' _ (get-put_same u.lines x.addr (left x.kind l')))) k
core_keeps g w c u e o v at (evict_drops b l free there) k =
    moves g w _ (drop_move g w c u b l at free there) (core_fits g w c u (has_dropped u b) at k (free_fits u free _)) k
core_keeps g w c u e o v at (evict_gives b m l free there) k =
    moves g w _ (give_move g w c u Flush b m l 0 at free there) (core_fits g w c u (has_given u Flush b l) at k (get-put_same u.lines b (left Flush l))) k
core_keeps g w c u e o v at (increments free) k =
    moves g w _ (bump_move g w c u at) (core_fits g w c u (has_bumped u) at k (k.hands c u at)) k

-- ---- a slice's events

serve_keeps : (g : ConfigParts) (w : World) (c : ℕ) (u : Core) (m : Message) (x : Reply) (s t : Slice) → slice_get w.cores c ≡ Some u → u.hand ≡ Some m → u.kept ≡ None → slice_get w.slices (slice_number g (addr_of m)) ≡ Some s → Serves g s c m x t → Keeps g w
    → Keeps g (with_slice g (with_core w c (record u { kept = Some x })) (addr_of m) t)
serve_keeps g w c u m x s t at hand kept es (takes_written_back a l there) k =
    let fits : HandTells u.hand u.lines = k.hands c u at in
    moves g w _ (give_back_move g w c u WriteBack a l s at hand kept (rw hand at fits) es) (core_fits g w c u (record u { kept = Some Taken }) at k fits) k
serve_keeps g w c u m x s t at hand kept es (takes_flushed a l there) k =
    let fits : HandTells u.hand u.lines = k.hands c u at in
    moves g w _ (give_back_move g w c u Flush a l s at hand kept (rw hand at fits) es) (core_fits g w c u (record u { kept = Some Taken }) at k fits) k
serve_keeps g w c u m x s t at hand kept es (shares a copy pts l met room) k =
    let fits : HandTells u.hand u.lines = k.hands c u at in
    let q : IsRequest g w c u (ShReq a copy pts) a s l = record { core = at; hand = hand; kept = kept; addr = refl; ask = refl; slice = es; common = met } in
    moves g w _ (share_move g w c u (ShReq a copy pts) a copy s l (renewed_rts l.stamps pts g.lease) q (rw hand at fits) (omega arith) k.owners k.stamps) (core_fits g w c u _ at k fits) k
serve_keeps g w c u m x s t at hand kept es (gives a copy l met room) k =
    let fits : HandTells u.hand u.lines = k.hands c u at in
    let q : IsRequest g w c u (ExReq a copy) a s l = record { core = at; hand = hand; kept = kept; addr = refl; ask = refl; slice = es; common = met } in
    moves g w _ (own_move g w c u (ExReq a copy) a copy s l q (rw hand at fits) k.owners k.stamps) (core_fits g w c u _ at k fits) k

pub spill_keeps : (g : ConfigParts) (w : World) (a b : ℕ) (s t : Slice) → slice_get w.slices (slice_number g a) ≡ Some s → Evicts s b t → Keeps g w → Keeps g (with_slice g w a t)
spill_keeps g w a b s t es gone k =
    let x : Settled = settled g w in
    let y : Settled = settled g (with_slice g w a t) in
    let m = spill_move g w a b s t es gone in
    let quiet = spill_quiet x y m k.owners k.stamps in
    record {
      hands = k.hands;
      owners = spill_owns x y m k.owners;
      stamps = quiet_stamps (view x) (view y) quiet k.stamps;
      versions = quiet_versions (view x) (view y) quiet (spill_sources x y m k.stamps k.versions) k.versions;
    }

pub busy_request : (g : ConfigParts) (s : Slice) (m : Message) (x : RecallParts) → IsBusy g s m x → is_request m ≡ true
busy_request g s m x (owned_to_read a copy pts o there) = refl
busy_request g s m x (owned_to_write a copy o there) = refl
busy_request g s m x (full m' b o asks none much not there) = asks

handle_keeps : (g : ConfigParts) (w : World) (c : ℕ) (u : Core) (m : Message) (x : Reply) (entries : List HistoryEntry) (s t : Slice) → slice_get w.cores c ≡ Some u → u.hand ≡ Some m → u.kept ≡ None → slice_get w.slices (slice_number g (addr_of m)) ≡ Some s → Handles g s c m x entries t → Keeps g w
    → Keeps g (with_slice g (with_core w c (record u { kept = Some x })) (addr_of m) t)
handle_keeps g w c u m x entries s t at hand kept es (slice.serves r t' step) k = serve_keeps g w c u m x s t at hand kept es step k
handle_keeps g w c u m x entries s t at hand kept es (makes_room b r between t' none much gone step) k =
    let n : ℕ = slice_number g (addr_of m) in
    let k1 : Keeps g (with_slice g w (addr_of m) between) = spill_keeps g w (addr_of m) b s between es gone k in
    let k2 = serve_keeps g (with_slice g w (addr_of m) between) c u m x between t at hand kept (set_here w.slices n s between es) step k1 in
    subst (λ (z : List Slice). Keeps g (record { cores = slice_set w.cores c (record u { kept = Some x }); slices = z })) (set-set w.slices n between t) k2
handle_keeps g w c u m x entries s t at hand kept es (is_busy recall busy) k =
    subst (λ (z : List Slice). Keeps g (record { cores = slice_set w.cores c (record u { kept = Some (Busy recall) }); slices = z })) (sym (set_again w.slices (slice_number g (addr_of m)) s es))
    (moves g w _ (busy_move g w c u m recall at hand kept (busy_request g s m recall busy)) (core_fits g w c u (record u { kept = Some (Busy recall) }) at k (k.hands c u at)) k)

pub leads_keeps : (g : ConfigParts) (w : World) (e : Event) (o : Outcome) (t : World) → Leads g w e o t → Keeps g w → Keeps g t
leads_keeps g w e o t (by_core c e' o' u v at step) k = core_keeps g w c u e' o' v at step k
leads_keeps g w e o t (serves c u m x entries s s' at hand kept es step) k = handle_keeps g w c u m x entries s s' at hand kept es step k
leads_keeps g w e o t (spills a s s' es gone) k = spill_keeps g w a a s s' es gone k
leads_keeps g w e o t (no_effect e' barred) k = k

pub run_keeps : (g : ConfigParts) (w : World) (events : List Event) (t : World) → Run g w events t → Keeps g w → Keeps g t
run_keeps g w events t start k = k
run_keeps g w events t (next es e o between t' run step) k = leads_keeps g between e o t' step (run_keeps g w es between run k)
