-- What a unit's outcome says of its core in the machine.
use Rattle.std.proofs.Common.{◌≡◌, ◌≢◌, ℕ, ◌+◌, Bool, true, false, [], ◌∷◌, ◌++◌, length, inl, inr, refl, sym, ap, subst, ◌∙◌}
use Rattle.manager_slice.specs.Limits.{entry_limit}
use Rattle.std.specs.Prelude.{◌⊎◌, ◌||◌, not, nat_lt, if◌then◌else◌, Option, Some, None, is_some, is_none, IsSome, Result, Ok, Err}
use Rattle.std.specs.FinMap as map
use Rattle.mem_op.specs.declared.id.Op.{Op}
use Rattle.line_stamps.specs.declared.fault.StampFault.{StampFault}
use Rattle.line_stamps.specs.declared.line.Line.{Line}
use Rattle.line_stamps.specs.declared.message.Message.{Message}
use Rattle.line_stamps.specs.declared.message.Message.TheVariants.{FlushRep}
use Rattle.line_stamps.specs.declared.message.Recall.{Recall}
use Rattle.line_stamps.specs.declared.message.Reply.{Reply}
use Rattle.private_cache.specs.Answers.{give_back, give_fault, past_limit}
use Rattle.private_cache.specs.CacheParts.{CacheParts, Lines}
use Rattle.private_cache.specs.Steps.{after_recall, line_at, without, has_room, least_recently_used, with_left, is_exclusive}
use Rattle.private_cache.specs.Table.{Hit, given, left, put, recalled}
use Rattle.private_cache.specs.declared.held.Held.{Held}
use Rattle.private_cache.specs.declared.held.Held.TheVariants.{Shared, Exclusive}
use Rattle.core_unit.specs.Core.{next_of, op_addr, next_id, tries, next_request, has_place}
use Rattle.core_unit.specs.Outcomes.{UnitOutcome, Refuses, Steps, OutcomeLeads, recorded, unless_faulty, unless_barred, eviction, miss_outcome, op_outcome, next_outcome, turn_outcome, give_outcome, recall_outcome, evict_outcome, increment_outcome, performed, perform_fault}
use Rattle.core_unit.specs.Parts.{UnitParts, core_of}
use Rattle.core_unit.specs.declared.entry.CoreEntry.{CoreEntry}
use Rattle.core_unit.specs.declared.entry.CoreEntry.TheVariants as entry
use Rattle.core_unit.specs.declared.fault.UnitFault.{UnitFault}
use Rattle.core_unit.specs.declared.fault.UnitFault.TheVariants.{TranscriptFull}
use Rattle.core_unit.specs.declared.outcome.Outcome.{Outcome}
use Rattle.core_unit.specs.declared.outcome.Outcome.TheVariants as outcome
use Rattle.core_machine.specs.Machine.{CoreLeads, turn_hits, turn_drops, turn_gives, turn_asks, turn_ends, recall_gives, evict_drops, evict_gives, increments, bars}
use Rattle.core_machine.specs.SeatParts.{SeatParts}
use Rattle.core_machine.specs.Seats.{SeatLeads, seen}
use Rattle.core_machine.specs.declared.event.Event.{Event}
use Rattle.core_machine.specs.declared.event.Event.TheVariants as event

abbrev pub UnitResult : Type 0
UnitResult = Result Outcome UnitFault

-- ---- the three ways that an event leads on

module _ (e : Event) (s : SeatParts) (r : UnitResult) (t : SeatParts) where
  pub leads_barred : bars e (seen s) ≡ true → r ≡ Ok outcome.NoEffect → t ≡ s → SeatLeads e s r t
  leads_barred b is same = record {
    leads = λ o q other. absurd (other (let p : Ok o ≡ Ok outcome.NoEffect = sym q ∙ is in cc));
    barred = λ q. (b, same);
    bars_it = λ q. is;
  }

  pub leads_refused : bars e (seen s) ≡ false → (fault : UnitFault) → r ≡ Err fault → SeatLeads e s r t
  leads_refused b fault is = record {
    leads = λ o q other. let p : Ok o ≡ Err fault = sym q ∙ is in absurd (cc);
    barred = λ q. let p : Ok outcome.NoEffect ≡ Err fault = sym q ∙ is in absurd (cc);
    bars_it = λ q. let p : true ≡ false = sym q ∙ b in absurd (cc);
  }

  pub leads_on : bars e (seen s) ≡ false → (o : Outcome) → r ≡ Ok o → o ≢ outcome.NoEffect → CoreLeads s.unit.config s.unit.core (seen s) e o (seen t) → SeatLeads e s r t
  leads_on b o is other leads = record {
    leads = λ x q no_effect. let p : o ≡ x = (let both : Ok o ≡ Ok x = sym is ∙ q in cc) in subst (λ (y : Outcome). CoreLeads s.unit.config s.unit.core (seen s) e y (seen t)) p leads;
    barred = λ q. absurd (other (let both : Ok o ≡ Ok outcome.NoEffect = sym is ∙ q in cc));
    bars_it = λ q. let p : true ≡ false = sym q ∙ b in absurd (cc);
  }

-- an entry was made, or the call was refused
pub record WasMade (u : UnitParts) (e : CoreEntry) (o : Outcome) (t : UnitParts) (r : UnitResult) (q : UnitParts) : Type 0 where
  pub is : r ≡ Ok o
  pub new : q ≡ record t { transcript = u.transcript ++ e ∷ [] }

pub made_or_refused : (u : UnitParts) (e : CoreEntry) (fault : Option StampFault) (o : Outcome) (t : UnitParts) (r : UnitResult) (q : UnitParts)
    → OutcomeLeads (recorded u e fault o t) r u q → ((f : UnitFault) × (r ≡ Err f)) ⊎ WasMade u e o t r q
made_or_refused u e fault o t r q = by_room (nat_lt (length u.transcript) entry_limit) fault r
  where
    by_room : (b : Bool) (fault : Option StampFault) (r : UnitResult)
        → OutcomeLeads (if b then unless_faulty fault (Steps o (record t { transcript = u.transcript ++ e ∷ [] })) else Refuses TranscriptFull) r u q
        → ((f : UnitFault) × (r ≡ Err f)) ⊎ WasMade u e o t r q
    by_room false fault r m = inl (TranscriptFull, m.0)
    by_room true (Some f) r m = inl (_, m.0)
    by_room true None (Ok x) m = inr (record { is = ap (λ (y : Outcome). Ok y) m.0; new = m.1 })
    by_room true None (Err f) m = inl (f, refl)

not_both : false ≡ true → ⊥
not_both e = absurd (cc)

-- what an owner keeps stands in its lines
with_left-lines : (cache : CacheParts) (a : ℕ) (o : Option Held) → (with_left cache a o).lines ≡ put cache.lines a o
with_left-lines cache a None = refl
with_left-lines cache a (Some held) = refl

-- ---- the events

module _ (s : SeatParts) (r : UnitResult) (q : UnitParts) (free : s.unit.hand ≡ None → s.kept ≡ None) where
  abbrev pub after : SeatParts
  after = record { unit = q; kept = s.kept }

  same_seat : q ≡ s.unit → after ≡ s
  same_seat e = ap (λ (u : UnitParts). record { unit = u; kept = s.kept }) e

  -- the core comes to what is seen of t
  comes_to : (e : Event) (o : Outcome) (t : UnitParts) → q ≡ t → CoreLeads s.unit.config s.unit.core (seen s) e o (core_of t s.kept)
      → CoreLeads s.unit.config s.unit.core (seen s) e o (seen after)
  comes_to e o t is leads = subst (λ (x : UnitParts). CoreLeads s.unit.config s.unit.core (seen s) e o (core_of x s.kept)) (sym is) leads

  -- an event that a message in hand bars
  unbarred : (e : Event) (o : UnitOutcome) → ((m : Message) → s.unit.hand ≡ Some m → bars e (seen s) ≡ true)
      → (s.unit.hand ≡ None → OutcomeLeads o r s.unit q → SeatLeads e s r after) → OutcomeLeads (unless_barred s.unit s.unit.hand o) r s.unit q → SeatLeads e s r after
  unbarred e o b led = by_hand s.unit.hand refl
    where
      by_hand : (hand : Option Message) → s.unit.hand ≡ hand → OutcomeLeads (unless_barred s.unit hand o) r s.unit q → SeatLeads e s r after
      by_hand (Some m) h met = leads_barred e s r after (b m h) met.0 (same_seat met.1)
      by_hand None h met = led h met

  -- an event that makes an entry
  recorded_leads : (e : Event) → bars e (seen s) ≡ false → (x : CoreEntry) (fault : Option StampFault) (o : Outcome) (t : UnitParts) → o ≢ outcome.NoEffect
      → CoreLeads s.unit.config s.unit.core (seen s) e o (core_of t s.kept)
      → OutcomeLeads (recorded s.unit x fault o t) r s.unit q → SeatLeads e s r after
  recorded_leads e b x fault o t other leads met =
      elim (made_or_refused s.unit x fault o t r q met) [
        | inl f ↦ leads_refused e s r after b f.0 f.1
        | inr w ↦ leads_on e s r after b o w.is other (comes_to e o (record t { transcript = s.unit.transcript ++ x ∷ [] }) w.new leads)
      ]

  -- the same, where no reply was kept
  unserved : (e : Event) (o : Outcome) (t : UnitParts) → s.kept ≡ None → CoreLeads s.unit.config s.unit.core (seen s) e o (core_of t None)
      → CoreLeads s.unit.config s.unit.core (seen s) e o (core_of t s.kept)
  unserved e o t none leads = subst (λ (x : Option Reply). CoreLeads s.unit.config s.unit.core (seen s) e o (core_of t x)) (sym none) leads

  pub leads_increment : OutcomeLeads (increment_outcome s.unit) r s.unit q → SeatLeads (event.Increment s.unit.core) s r after
  leads_increment =
      let e = event.Increment s.unit.core in
      let t = record s.unit { pts = s.unit.pts + 1; r = 0 } in
      unbarred e (recorded s.unit entry.Bumped (past_limit (s.unit.pts + 1) 0) outcome.Bumped t) (λ m h. ap is_some h)
      (λ h. recorded_leads e (ap is_some h) entry.Bumped (past_limit (s.unit.pts + 1) 0) outcome.Bumped t (λ x. cc) (increments h))

  module _ (h : s.unit.hand ≡ None) where
    abbrev dropped : ℕ → UnitParts
    dropped a = record s.unit { cache = without s.unit.cache a }

    abbrev flushed : ℕ → Line → UnitParts
    flushed a l = record s.unit { cache = without s.unit.cache a; hand = Some (FlushRep a l) }

    -- ---- an eviction, by the line

    evict_bars : (a : ℕ) (held : Option Held) → line_at s.unit.cache a ≡ held → bars (event.Evict s.unit.core a) (seen s) ≡ is_none held
    evict_bars a held there = rw (h, there) refl

    evict_leads : (a : ℕ) (held : Option Held) → line_at s.unit.cache a ≡ held → OutcomeLeads (eviction s.unit (λ m. outcome.Gave m) a held) r s.unit q
        → SeatLeads (event.Evict s.unit.core a) s r after
    evict_leads a None there met = leads_barred (event.Evict s.unit.core a) s r after (evict_bars a None there) met.0 (same_seat met.1)
    evict_leads a (Some (Shared l)) there met =
        recorded_leads (event.Evict s.unit.core a) (evict_bars a (Some (Shared l)) there) (entry.Dropped a) None (outcome.Dropped a) (dropped a) (λ x. cc)
        (evict_drops a l h there) met
    evict_leads a (Some (Exclusive modified l)) there met =
        let e = event.Evict s.unit.core a in
        let o = outcome.Gave (FlushRep a l) in
        recorded_leads e (evict_bars a (Some (Exclusive modified l)) there) (entry.Gave (FlushRep a l)) None o (flushed a l) (λ x. cc)
        (unserved e o (flushed a l) (free h) (evict_gives a modified l h there)) met

    -- ---- a recall, by the line

    recall_bars : (x : Recall) (held : Option Held) → line_at s.unit.cache x.addr ≡ held → bars (event.Recall s.unit.core x) (seen s) ≡ not (is_exclusive held)
    recall_bars x held there = rw (h, there) refl

    recall_leads : (x : Recall) (held : Option Held) → line_at s.unit.cache x.addr ≡ held → OutcomeLeads (give_outcome s.unit x (recalled x s.unit.config.lease held)) r s.unit q
        → SeatLeads (event.Recall s.unit.core x) s r after
    recall_leads x None there met = leads_barred (event.Recall s.unit.core x) s r after (recall_bars x None there) met.0 (same_seat met.1)
    recall_leads x (Some (Shared l)) there met = leads_barred (event.Recall s.unit.core x) s r after (recall_bars x (Some (Shared l)) there) met.0 (same_seat met.1)
    recall_leads x (Some (Exclusive modified l)) there met =
        let e = event.Recall s.unit.core x in
        let back = given x.kind l x.rts s.unit.config.lease in
        let m = give_back x.kind x.addr back in
        let t = record s.unit { cache = after_recall s.unit.cache x (Some back); hand = Some m } in
        let same = with_left-lines s.unit.cache x.addr (left x.kind back) in
        recorded_leads e (recall_bars x (Some (Exclusive modified l)) there) (entry.Gave m) (give_fault (Some back)) (outcome.Gave m) t (λ y. cc)
        (unserved e (outcome.Gave m) t (free h)
        (subst (λ (lines : Lines). CoreLeads s.unit.config s.unit.core (seen s) e (outcome.Gave m) (record (seen s) { lines = lines; hand = Some m; kept = None })) (sym same)
        (recall_gives x modified l h there))) met

    -- ---- a turn, by the next operation, its line and the victim

    module _ (capacity : s.unit.cache.capacity ≡ s.unit.config.cache_lines) (effect : r ≡ Ok outcome.NoEffect → IsSome s.unit.hand) where
      place_is : (a : ℕ) → has_room s.unit.cache a ≡ has_place s.unit.config (seen s) a
      place_is a = ap (λ (n : ℕ). nat_lt (map.len s.unit.cache.lines) n || is_some (line_at s.unit.cache a)) capacity

      no_turn_barred : bars (event.Turn s.unit.core) (seen s) ≡ false
      no_turn_barred = ap is_some h

      -- a turn of a core with an empty hand has an effect
      never : r ≡ Ok outcome.NoEffect → ⊥
      never is = let some = effect is in let none : false ≡ true = rw h at some in not_both none

      module _ (op : Op) (next : next_of (seen s) ≡ Some op) where
        victim_leads : tries s.unit.core (seen s) op ≡ None → has_room s.unit.cache (op_addr op) ≡ false → (b : ℕ) (held : Option Held) → line_at s.unit.cache b ≡ held
            → OutcomeLeads (eviction s.unit (λ m. outcome.Sent m) b held) r s.unit q → SeatLeads (event.Turn s.unit.core) s r after
        victim_leads misses full b None there met = absurd (never met.0)
        victim_leads misses full b (Some (Shared l)) there met =
            recorded_leads (event.Turn s.unit.core) no_turn_barred (entry.Dropped b) None (outcome.Dropped b) (dropped b) (λ x. cc)
            (turn_drops op b l h next misses (sym (place_is (op_addr op)) ∙ full) there) met
        victim_leads misses full b (Some (Exclusive modified l)) there met =
            let e = event.Turn s.unit.core in
            let o = outcome.Sent (FlushRep b l) in
            recorded_leads e no_turn_barred (entry.Gave (FlushRep b l)) None o (flushed b l) (λ x. cc)
            (unserved e o (flushed b l) (free h) (turn_gives op b modified l h next misses (sym (place_is (op_addr op)) ∙ full) there)) met

        miss_leads : tries s.unit.core (seen s) op ≡ None → (room : Bool) (oldest : Option ℕ) → has_room s.unit.cache (op_addr op) ≡ room
            → OutcomeLeads (miss_outcome s.unit op room oldest) r s.unit q → SeatLeads (event.Turn s.unit.core) s r after
        miss_leads misses true oldest is met =
            let m = next_request (seen s) op in
            let t = record s.unit { hand = Some m } in
            let e = event.Turn s.unit.core in
            leads_on e s r after no_turn_barred (outcome.Sent m) met.0 (λ x. cc)
            (comes_to e (outcome.Sent m) t met.1
            (unserved e (outcome.Sent m) t (free h) (turn_asks op h next misses (sym (place_is (op_addr op)) ∙ is))))
        miss_leads misses false None is met = absurd (never met.0)
        miss_leads misses false (Some b) is met = victim_leads misses is b (line_at s.unit.cache b) refl met

        op_leads : (hit : Option Hit) → tries s.unit.core (seen s) op ≡ hit → OutcomeLeads (op_outcome s.unit op hit) r s.unit q → SeatLeads (event.Turn s.unit.core) s r after
        op_leads None is met = miss_leads is (has_room s.unit.cache (op_addr op)) (least_recently_used s.unit.cache) refl met
        op_leads (Some hit) is met =
            recorded_leads (event.Turn s.unit.core) no_turn_barred entry.Performed (perform_fault s.unit op hit) (outcome.Performed (next_id s.unit.core (seen s)))
            (performed s.unit op hit) (λ x. cc) (turn_hits op hit h next is) met

      next_leads : (next : Option Op) → next_of (seen s) ≡ next → OutcomeLeads (next_outcome s.unit next) r s.unit q → SeatLeads (event.Turn s.unit.core) s r after
      next_leads None is met =
          leads_on (event.Turn s.unit.core) s r after no_turn_barred outcome.Ended met.0 (λ x. cc)
          (comes_to (event.Turn s.unit.core) outcome.Ended s.unit met.1 (turn_ends h is))
      next_leads (Some op) is met = op_leads op is (tries s.unit.core (seen s) op) refl met

  pub leads_evict : (a : ℕ) → OutcomeLeads (evict_outcome s.unit a) r s.unit q → SeatLeads (event.Evict s.unit.core a) s r after
  leads_evict a =
      unbarred (event.Evict s.unit.core a) (eviction s.unit (λ m. outcome.Gave m) a (line_at s.unit.cache a))
      (λ m h. ap (λ (x : Option Message). is_some x || is_none (line_at s.unit.cache a)) h)
      (λ h. evict_leads h a (line_at s.unit.cache a) refl)

  pub leads_recall : (x : Recall) → OutcomeLeads (recall_outcome s.unit x) r s.unit q → SeatLeads (event.Recall s.unit.core x) s r after
  leads_recall x =
      unbarred (event.Recall s.unit.core x) (give_outcome s.unit x (recalled x s.unit.config.lease (line_at s.unit.cache x.addr)))
      (λ m h. ap (λ (y : Option Message). is_some y || not (is_exclusive (line_at s.unit.cache x.addr))) h)
      (λ h. recall_leads h x (line_at s.unit.cache x.addr) refl)

  pub leads_turn : s.unit.cache.capacity ≡ s.unit.config.cache_lines → (r ≡ Ok outcome.NoEffect → IsSome s.unit.hand) → OutcomeLeads (turn_outcome s.unit) r s.unit q
      → SeatLeads (event.Turn s.unit.core) s r after
  leads_turn capacity effect =
      unbarred (event.Turn s.unit.core) (next_outcome s.unit (next_of (seen s))) (λ m h. ap is_some h)
      (λ h. next_leads h capacity effect (next_of (seen s)) refl)
