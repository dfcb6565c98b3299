-- A run of the core machine, read off one order of all entries.
use Rattle.std.proofs.Common.{◌≡◌, ℕ, zero, suc, true, false, List, [], ◌∷◌, ◌++◌, refl, sym, ap, subst, ◌∙◌}
use Rattle.std.specs.Prelude.{Some, None, slice_get, slice_set}
use Rattle.std.specs.FinMap as map
use Rattle.lease_rule.specs.ConfigParts.{ConfigParts}
use Rattle.line_stamps.specs.Messages.{addr_of}
use Rattle.line_stamps.specs.declared.message.Message.{Message}
use Rattle.line_stamps.specs.declared.message.Recall.{Recall}
use Rattle.line_stamps.specs.declared.message.RecallKind.TheVariants.{WriteBack, Flush}
use Rattle.line_stamps.specs.declared.message.RecallKind.{RecallKind}
use Rattle.line_stamps.specs.declared.line.Line.{Line}
use Rattle.private_cache.specs.Answers.{give_back}
use Rattle.core_unit.proofs.Keeping.{request_addr, asked_request}
use Rattle.core_machine.proofs.Placed.{set_again}
use Rattle.line_stamps.specs.declared.message.Reply.{Reply}
use Rattle.line_stamps.specs.declared.message.Reply.TheVariants.{Taken}
use Rattle.private_cache.specs.Table.{filled}
use Rattle.manager_slice.specs.Messages.{is_request}
use Rattle.manager_slice.specs.Table.{Slice, Serves, serves as handles}
use Rattle.core_unit.specs.Core.{Core, op_addr, next_request, has_place, has_asked, has_taken, fits}
use Rattle.core_unit.specs.Replay.{CoreStep, performs, drops, gives, gets, is_taken, bumps}
use Rattle.core_unit.specs.declared.entry.CoreEntry.{CoreEntry}
use Rattle.core_unit.specs.declared.entry.CoreEntry.TheVariants.{Got}
use Rattle.core_unit.specs.declared.outcome.Outcome.{Outcome}
use Rattle.core_unit.specs.declared.outcome.Outcome.TheVariants.{Took}
use Rattle.core_machine.specs.Machine.{World, by_core, serves, Run, start, next, with_core, with_slice, slice_number, CoreLeads, turn_hits, turn_asks, takes, takes_nothing, recall_gives, evict_drops, evict_gives, increments}
use Rattle.core_machine.specs.declared.event.Event.{Event}
use Rattle.core_machine.specs.declared.event.Event.TheVariants as event
use Rattle.audit.specs.Merges.{is_own, alone, passes}
use Rattle.audit.specs.Events.{AreEvents}
use Rattle.audit.specs.Events as read

-- ---- one core by itself

-- an entry of its own is one event, which leads to the same state
pub record OwnEvent (g : ConfigParts) (c : ℕ) (u : Core) (e : CoreEntry) (v : Core) : Type 0 where
  pub event : Event
  pub outcome : Outcome
  pub read_off : AreEvents (alone c e) (event ∷ [])
  pub leads : CoreLeads g c u event outcome v
  pub free : v.kept ≡ None

pub own_event : (g : ConfigParts) (c : ℕ) (u : Core) (e : CoreEntry) (v : Core) → is_own e ≡ true → CoreStep g c u e v → u.kept ≡ None → OwnEvent g c u e v
own_event g c u e v own (performs x hit free nexts hits) kept =
    record { event = event.Turn c; outcome = _; read_off = read.performs c; leads = turn_hits x hit free nexts hits; free = kept }
own_event g c u e v own (drops a l free at) kept =
    record { event = event.Evict c a; outcome = _; read_off = read.drops c a; leads = evict_drops a l free at; free = kept }
own_event g c u e v own (gives Flush a modified l asked free at) kept =
    record { event = event.Evict c a; outcome = _; read_off = read.flushes c a l; leads = evict_gives a modified l free at; free = refl }
own_event g c u e v own (gives WriteBack a modified l asked free at) kept =
    let x : Recall = record { rts = asked; addr = a; owner = c; kind = WriteBack } in
    record { event = event.Recall c x; outcome = _; read_off = read.writes_back c a asked _; leads = recall_gives x modified l free at; free = refl }
own_event g c u e v own (gets x reply held free nexts misses place kind fills) kept = absurd cc
own_event g c u e v own (is_taken kind a l same) kept = absurd cc
own_event g c u e v own (bumps free) kept =
    record { event = event.Increment c; outcome = _; read_off = read.bumps c; leads = increments free; free = kept }

-- ---- lists of cores and slices

pub set_found : {X : Type 0} (xs : List X) (i : ℕ) (x y : X) → slice_get xs i ≡ Some x → slice_get (slice_set xs i y) i ≡ Some y
set_found [] i x y e = absurd cc
set_found (z ∷ zs) zero x y e = refl
set_found (z ∷ zs) (suc i) x y e = set_found zs i x y e

set_twice : {X : Type 0} (xs : List X) (i : ℕ) (x y : X) → slice_set (slice_set xs i x) i y ≡ slice_set xs i y
set_twice [] i x y = refl
set_twice (z ∷ zs) zero x y = refl
set_twice (z ∷ zs) (suc i) x y = ap (λ l. z ∷ l) (set_twice zs i x y)

-- ---- a core and a slice

-- core c and the slice of address a were left so
abbrev pub left_so : ConfigParts → World → ℕ → Core → ℕ → Slice → World
left_so g w c v a t = record { cores = slice_set w.cores c v; slices = slice_set w.slices (slice_number g a) t }

-- a service and the taking of its reply are events that lead to the same states
pub record PassEvents (g : ConfigParts) (w : World) (c s : ℕ) (m : Message) (r : Reply) (v : Core) (t : Slice) : Type 0 where
  pub events : List Event
  pub read_off : AreEvents (passes c s m r) events
  pub run : Run g w events (left_so g w c v (addr_of m) t)
  pub free : v.kept ≡ None

module _ (g : ConfigParts) (w : World) (c n : ℕ) (u : Core) (s t : Slice) (there : slice_get w.cores c ≡ Some u) (m : Message) (r : Reply)
    (at : slice_get w.slices (slice_number g (addr_of m)) ≡ Some s) (step : Serves g s c m r t) where
  -- the message in hand is served, and its reply is taken
  served_and_taken : (w1 : World) (u1 v : Core) (es : List Event) → Run g w es w1 → w1.slices ≡ w.slices → w1.cores ≡ slice_set w.cores c u1 → u1.hand ≡ Some m → u1.kept ≡ None
      → CoreLeads g c (record u1 { kept = Some r }) (event.Take c) Took v
      → Run g w ((es ++ event.Serve c ∷ []) ++ event.Take c ∷ []) (left_so g w c v (addr_of m) t)
  served_and_taken w1 u1 v es before same_slices same_cores hand free taking =
      let found : slice_get w1.cores c ≡ Some u1 = ap (λ cores. slice_get cores c) same_cores ∙ set_found w.cores c u u1 there in
      let at1 : slice_get w1.slices (slice_number g (addr_of m)) ≡ Some s = ap (λ slices. slice_get slices (slice_number g (addr_of m))) same_slices ∙ at in
      let u2 : Core = record u1 { kept = Some r } in
      let w2 = with_slice g (with_core w1 c u2) (addr_of m) t in
      let served = next es (event.Serve c) _ w1 w2 before (serves c u1 m r _ s t found hand free at1 (handles r t step)) in
      let found2 : slice_get w2.cores c ≡ Some u2 = set_found w1.cores c u1 u2 found in
      let taken = next (es ++ event.Serve c ∷ []) (event.Take c) Took w2 (with_core w2 c v) served (by_core c (event.Take c) Took u2 v found2 taking) in
      let cores : slice_set (slice_set w1.cores c u2) c v ≡ slice_set w.cores c v =
      set_twice w1.cores c u2 v ∙ (ap (λ cores. slice_set cores c v) same_cores ∙ set_twice w.cores c u1 v) in
      let P : List Core → List Slice → Type 0 = λ cores slices. Run g w ((es ++ event.Serve c ∷ []) ++ event.Take c ∷ [])
      (record { cores = cores; slices = slice_set slices (slice_number g (addr_of m)) t }) in
      let first : P (slice_set w.cores c v) w1.slices = subst (λ (l : List Core). P l w1.slices) cores taken in
      subst (P (slice_set w.cores c v)) same_slices first

  pub pass_events : (e : CoreEntry) (v : Core) → CoreStep g c u e v → e ≡ Got m r → u.kept ≡ None → PassEvents g w c n m r v t
  pass_events e v (performs x hit free nexts hits) is kept = absurd cc
  pass_events e v (drops a l free here) is kept = absurd cc
  pass_events e v (gives kind a modified l asked free here) is kept = absurd cc
  pass_events e v (bumps free) is kept = absurd cc
  pass_events e v (gets x reply held free nexts misses place kind fills) is kept =
      let same : next_request u x ≡ m = cc in
      let replies : reply ≡ r = cc in
      let addr : op_addr x ≡ addr_of m = sym (request_addr u x) ∙ ap addr_of same in
      let asked : Core = has_asked u (next_request u x) in
      let turned = next [] (event.Turn c) _ w (with_core w c asked) start (by_core c _ _ u asked there (turn_asks x free nexts misses place)) in
      let u2 : Core = record asked { kept = Some r } in
      let fit : fits m r ≡ true = subst (λ (y : Reply). fits m y ≡ true) replies (subst (λ (y : Message). fits y reply ≡ true) same kind) in
      let room : has_place g u2 (addr_of m) ≡ true = subst (λ (a : ℕ). has_place g u a ≡ true) addr place in
      let full : filled (map.get u2.lines (addr_of m)) r ≡ Some held =
      subst (λ (y : Reply). filled (map.get u.lines (addr_of m)) y ≡ Some held) replies (subst (λ (a : ℕ). filled (map.get u.lines a) reply ≡ Some held) addr fills) in
      let taking : CoreLeads g c u2 (event.Take c) Took (has_taken u (op_addr x) held) =
      subst (λ (a : ℕ). CoreLeads g c u2 (event.Take c) Took (has_taken u a held)) (sym addr) (takes m r held (ap (λ y. Some y) same) refl fit room full) in
      record {
        events = event.Turn c ∷ event.Serve c ∷ event.Take c ∷ [];
        read_off = read.requests c n m r (ap is_request (sym same) ∙ asked_request u x);
        run = served_and_taken (with_core w c asked) asked _ (event.Turn c ∷ []) turned refl refl (ap (λ y. Some y) same) refl taking;
        free = refl;
      }
  pass_events e v (is_taken kind a l hand) is kept =
      let same : give_back kind a l ≡ m = cc in
      let replies : Taken ≡ r = cc in
      record {
        events = event.Serve c ∷ event.Take c ∷ [];
        read_off = read.gives_back c n m r (ap is_request (sym same) ∙ no_request kind a l);
        run = served_and_taken w u _ [] start refl (sym (set_again w.cores c u there)) (hand ∙ ap (λ y. Some y) same) kept
            (takes_nothing m (hand ∙ ap (λ y. Some y) same) (ap (λ y. Some y) (sym replies)) (ap is_request (sym same) ∙ no_request kind a l));
        free = refl;
      }
    where
      no_request : (kind : RecallKind) (a : ℕ) (l : Line) → is_request (give_back kind a l) ≡ false
      no_request WriteBack a l = refl
      no_request Flush a l = refl
