-- Each event of a core alone, and each service of a message, is a step of the machine without messages.
use Rattle.std.proofs.Common.{◌≡◌, ◌≢◌, ap, sym, ◌∙◌, ℕ, ◌≤◌, ◌⊎◌, inl, inr, Bool, true, false, cond, eqb, leb, refl, arith}
use Rattle.std.specs.Prelude.{Option, Some, None, slice_get, slice_set}
use Rattle.std.specs.FinMap as map
use Rattle.std.proofs.lemmas.Bool.{eq-eqb}
use Rattle.std.proofs.lemmas.Bool.Decides.{eqb_tells}
use Rattle.mem_op.specs.declared.id.Op.{Op}
use Rattle.mem_op.specs.declared.id.Op.TheVariants as op
use Rattle.line_stamps.specs.declared.line.Line.{Line}
use Rattle.line_stamps.specs.declared.message.Message.{Message}
use Rattle.line_stamps.specs.declared.message.Message.TheVariants.{ShReq, ExReq, WbRep, FlushRep}
use Rattle.line_stamps.specs.declared.message.Recall.{Recall}
use Rattle.line_stamps.specs.declared.message.RecallKind.{RecallKind}
use Rattle.line_stamps.specs.declared.message.RecallKind.TheVariants.{WriteBack, Flush}
use Rattle.line_stamps.specs.declared.message.Reply.{Reply}
use Rattle.line_stamps.specs.declared.message.Reply.TheVariants.{ShRep, ExRep, RenewRep, UpgradeRep, Taken, Busy}
use Rattle.line_stamps.specs.Messages.{addr_of}
use Rattle.lease_rule.specs.ConfigParts.{ConfigParts}
use Rattle.lease_rule.specs.Lease.{write_back_rts}
use Rattle.private_cache.specs.Answers.{give_back}
use Rattle.private_cache.specs.Table.{with_rts, given, left, filled, copy_of}
use Rattle.private_cache.specs.declared.held.Held.{Held}
use Rattle.private_cache.specs.declared.held.Held.TheVariants.{Shared, Exclusive}
use Rattle.manager_slice.specs.Messages.{is_request}
use Rattle.manager_slice.specs.Table.{Slice, met_line, with_managed, share_reply, own_reply}
use Rattle.manager_slice.specs.declared.managed.ManagedLine.{ManagedLine}
use Rattle.manager_slice.specs.declared.managed.ManagedLine.TheVariants as managed
use Rattle.core_unit.specs.Core.{Core, request, has_dropped, has_given, has_asked, has_taken, has_let_go, has_bumped}
use Rattle.core_machine.specs.Machine.{World, with_core, with_slice, slice_number}
use Rattle.core_machine.proofs.Placed.{set_here}
use Rattle.verdict.proofs.Lists.{set_elsewhere}
use Rattle.machine_laws.specs.Stamps.{HasStamps}
use Rattle.machine_laws.specs.Versions.{AtMost}
use Rattle.machine_laws.specs.Settled.{Settled, or_else, unserved, arrived, with_hand, entry_of, entry_at, pts_at, r_at, log_of, managed_at, settled, view}
use Rattle.machine_laws.specs.Hands.{AgreeOnOwners}
use Rattle.machine_laws.proofs.Stamps.{which}
use Rattle.machine_laws.proofs.Moves.{home_common, IsElsewhere, IsServed, whole, renewed, Move, stays, drops, raises, gives, shares, owns}
use Rattle.machine_laws.proofs.Maps.{get-insert_same, get-insert_other, get-remove_same, get-remove_other, get-put_other}

-- another address than the message's
other_entry : (m : Message) (k : Option Reply) (b : ℕ) (e : Option Held) → b ≢ addr_of m → with_hand (Some m) k b e ≡ e
other_entry m k b e n = elim (eqb_tells (addr_of m) b) [
  | inl same ↦ absurd (n (sym same.1))
  | inr differ ↦ rw differ.0 refl
]

pub own_entry : (m : Message) (k : Option Reply) (b : ℕ) (e : Option Held) → b ≡ addr_of m → with_hand (Some m) k b e ≡ arrived k m e
own_entry m k b e i = rw (eq-eqb (addr_of m) b (sym i)) refl

-- what a step of core c leaves of the others
pub core_elsewhere : (g : ConfigParts) (w : World) (c a : ℕ) (u u' : Core) → slice_get w.cores c ≡ Some u → ((b : ℕ) → b ≢ a → entry_of u' b ≡ entry_of u b) → u'.pts ≡ u.pts → u'.r ≡ u.r → u'.log ≡ u.log → IsElsewhere (settled g w) (settled g (with_core w c u')) c a
core_elsewhere g w c a u u' e same pts r log =
    let e' : slice_get (with_core w c u').cores c ≡ Some u' = set_here w.cores c u u' e in
    let others : (d : ℕ) → d ≢ c → slice_get (with_core w c u').cores d ≡ slice_get w.cores d = λ d n. set_elsewhere w.cores c d u' n in
    record {
      cores = λ d b n. ap (λ o. entry_at o b) (others d n);
      addrs = λ b n. rw (e, e') (same b n);
      managed = λ b n. refl;
      pts = λ d. elim (which d c) [ inl i ↦ rw (i, e, e') pts | inr n ↦ ap pts_at (others d n) ];
      r = λ d. elim (which d c) [ inl i ↦ rw (i, e, e') r | inr n ↦ ap r_at (others d n) ];
      log = λ d. elim (which d c) [ inl i ↦ rw (i, e, e') log | inr n ↦ ap log_of (others d n) ];
    }

-- a step of core c after which it has what it had
pub core_stays : (g : ConfigParts) (w : World) (c : ℕ) (u u' : Core) → slice_get w.cores c ≡ Some u → ((b : ℕ) → entry_of u' b ≡ entry_of u b) → AtMost u.pts u.r u'.pts u'.r → u'.log ≡ u.log → Move (settled g w) (settled g (with_core w c u'))
core_stays g w c u u' e same at_most log =
    let e' : slice_get (with_core w c u').cores c ≡ Some u' = set_here w.cores c u u' e in
    let others : (d : ℕ) → d ≢ c → slice_get (with_core w c u').cores d ≡ slice_get w.cores d = λ d n. set_elsewhere w.cores c d u' n in
    stays
    (λ d b. elim (which d c) [ inl i ↦ rw (i, e, e') (same b) | inr n ↦ ap (λ o. entry_at o b) (others d n) ])
    (λ b. refl)
    (λ d. elim (which d c) [ inl i ↦ rw (i, e, e') at_most | inr n ↦ rw (others d n) (record { time = omega arith; tie = λ h. omega arith }) ])
    (λ d. elim (which d c) [ inl i ↦ rw (i, e, e') log | inr n ↦ ap log_of (others d n) ])

pub drop_move : (g : ConfigParts) (w : World) (c : ℕ) (u : Core) (b : ℕ) (l : Line) → slice_get w.cores c ≡ Some u → u.hand ≡ None → map.get u.lines b ≡ Some (Shared l) → Move (settled g w) (settled g (with_core w c (has_dropped u b)))
drop_move g w c u b l e free there =
    let u' : Core = has_dropped u b in
    let e' : slice_get (with_core w c u').cores c ≡ Some u' = set_here w.cores c u u' e in
    drops c b l
    (core_elsewhere g w c b u u' e (λ i n. rw free (get-remove_other u.lines b i n)) refl refl refl)
    (rw (e, free) there)
    (rw (e', free) (get-remove_same u.lines b))
    refl

raised : (kind : RecallKind) (l : Line) (asked lease : ℕ) → (t : ℕ) × (l.stamps.rts ≤ t) × (given kind l asked lease ≡ with_rts l t)
raised WriteBack l asked lease = (write_back_rts l.stamps asked lease, omega arith, refl)
raised Flush l asked lease = (l.stamps.rts, omega arith, refl)

pub give_addr : (kind : RecallKind) (a : ℕ) (l : Line) → addr_of (give_back kind a l) ≡ a
give_addr WriteBack a l = refl
give_addr Flush a l = refl

pub give_unserved : (kind : RecallKind) (a : ℕ) (l : Line) (e : Option Held) → unserved (give_back kind a l) e ≡ Some (Exclusive false l)
give_unserved WriteBack a l e = refl
give_unserved Flush a l e = refl

pub give_move : (g : ConfigParts) (w : World) (c : ℕ) (u : Core) (kind : RecallKind) (a : ℕ) (m : Bool) (l : Line) (asked : ℕ) → slice_get w.cores c ≡ Some u → u.hand ≡ None → map.get u.lines a ≡ Some (Exclusive m l) → Move (settled g w) (settled g (with_core w c (has_given u kind a (given kind l asked g.lease))))
give_move g w c u kind a m l asked e free there =
    let l' : Line = given kind l asked g.lease in
    let u' : Core = has_given u kind a l' in
    let e' : slice_get (with_core w c u').cores c ≡ Some u' = set_here w.cores c u u' e in
    let up = raised kind l asked g.lease in
    raises c a m l up.0
    (core_elsewhere g w c a u u' e (λ i n. rw free (other_entry (give_back kind a l') None i (map.get u'.lines i) (λ j. n (j ∙ give_addr kind a l')) ∙ get-put_other u.lines a i (left kind l') n)) refl refl refl)
    (rw (e, free) there)
    (rw e' (own_entry (give_back kind a l') None a (map.get u'.lines a) (sym (give_addr kind a l')) ∙ give_unserved kind a l' (map.get u'.lines a) ∙ ap (λ (k : Line). Some (Exclusive false k)) up.2))
    up.1
    refl

cond_same : {A : Type 0} (b : Bool) (x : A) → cond b x x ≡ x
cond_same true x = refl
cond_same false x = refl

unserved_request : (m : Message) (e : Option Held) → is_request m ≡ true → unserved m e ≡ e
unserved_request (ShReq a copy pts) e i = refl
unserved_request (ExReq a copy) e i = refl
unserved_request (WbRep a l) e i = absurd cc
unserved_request (FlushRep a l) e i = absurd cc

pub request_is : (x : Op) (pts : ℕ) (h : Option Held) → is_request (request x pts h) ≡ true
request_is (op.Load a) pts h = refl
request_is (op.Store a x) pts h = refl
request_is (op.Swap a x) pts h = refl

pub ask_move : (g : ConfigParts) (w : World) (c : ℕ) (u : Core) (m : Message) → slice_get w.cores c ≡ Some u → u.hand ≡ None → is_request m ≡ true → Move (settled g w) (settled g (with_core w c (has_asked u m)))
ask_move g w c u m e free ask = core_stays g w c u (has_asked u m) e
    (λ b. rw (free, unserved_request m (map.get u.lines b) ask) (cond_same (eqb (addr_of m) b) (map.get u.lines b)))
    (record { time = omega arith; tie = λ h. omega arith }) refl

-- nothing arrives by these replies
pub filled_taken : (e : Option Held) → or_else (filled e Taken) e ≡ e
filled_taken None = refl
filled_taken (Some (Shared k)) = refl
filled_taken (Some (Exclusive m k)) = refl

pub filled_busy : (e : Option Held) (x : Recall) → or_else (filled e (Busy x)) e ≡ e
filled_busy None x = refl
filled_busy (Some (Shared k)) x = refl
filled_busy (Some (Exclusive m k)) x = refl

pub busy_move : (g : ConfigParts) (w : World) (c : ℕ) (u : Core) (m : Message) (x : Recall) → slice_get w.cores c ≡ Some u → u.hand ≡ Some m → u.kept ≡ None → is_request m ≡ true → Move (settled g w) (settled g (with_core w c (record u { kept = Some (Busy x) })))
busy_move g w c u m x e hand none ask = core_stays g w c u (record u { kept = Some (Busy x) }) e
    (λ b. rw (hand, none, unserved_request m (map.get u.lines b) ask, filled_busy (map.get u.lines b) x) refl)
    (record { time = omega arith; tie = λ h. omega arith }) refl

-- a reply that changes no line is taken
pub empty_move : (g : ConfigParts) (w : World) (c : ℕ) (u : Core) (m : Message) (reply : Reply) → slice_get w.cores c ≡ Some u → u.hand ≡ Some m → u.kept ≡ Some reply → ((e : Option Held) → or_else (filled e reply) e ≡ e) → Move (settled g w) (settled g (with_core w c (has_let_go u)))
empty_move g w c u m reply e hand kept none = core_stays g w c u (has_let_go u) e
    (λ b. rw (hand, kept, none (map.get u.lines b)) (sym (cond_same (eqb (addr_of m) b) (map.get u.lines b))))
    (record { time = omega arith; tie = λ h. omega arith }) refl

pub take_move : (g : ConfigParts) (w : World) (c : ℕ) (u : Core) (m : Message) (reply : Reply) (h : Held) → slice_get w.cores c ≡ Some u → u.hand ≡ Some m → u.kept ≡ Some reply → filled (map.get u.lines (addr_of m)) reply ≡ Some h → Move (settled g w) (settled g (with_core w c (has_taken u (addr_of m) h)))
take_move g w c u m reply h e hand kept fill = core_stays g w c u (has_taken u (addr_of m) h) e
    (λ b. elim (which b (addr_of m)) [
      | inl i ↦
          let after : map.get (map.insert u.lines (addr_of m) h) b ≡ Some h = rw i (get-insert_same u.lines (addr_of m) h) in
          let arrives : arrived (Some reply) m (map.get u.lines b) ≡ Some h = rw (i, fill) refl in
          rw (hand, kept) (after ∙ sym (own_entry m (Some reply) b (map.get u.lines b) i ∙ arrives))
      | inr n ↦ rw (hand, kept) (get-insert_other u.lines (addr_of m) b h n ∙ sym (other_entry m (Some reply) b (map.get u.lines b) n))
    ])
    (record { time = omega arith; tie = λ h. omega arith }) refl

pub bump_move : (g : ConfigParts) (w : World) (c : ℕ) (u : Core) → slice_get w.cores c ≡ Some u → Move (settled g w) (settled g (with_core w c (has_bumped u)))
bump_move g w c u e = core_stays g w c u (has_bumped u) e (λ b. refl) (record { time = omega arith; tie = λ h. absurd (omega arith) }) refl

-- what core c and the slice of a do together
pub both_elsewhere : (g : ConfigParts) (w : World) (c a : ℕ) (u u' : Core) (s s' : Slice) → slice_get w.cores c ≡ Some u → slice_get w.slices (slice_number g a) ≡ Some s → ((b : ℕ) → b ≢ a → entry_of u' b ≡ entry_of u b) → u'.pts ≡ u.pts → u'.r ≡ u.r → u'.log ≡ u.log → ((b : ℕ) → b ≢ a → met_line s' b ≡ met_line s b) →
    IsElsewhere (settled g w) (settled g (with_slice g (with_core w c u') a s')) c a
both_elsewhere g w c a u u' s s' e es same pts r log slices =
    let x = core_elsewhere g w c a u u' e same pts r log in
    let es' : slice_get (slice_set w.slices (slice_number g a) s') (slice_number g a) ≡ Some s' = set_here w.slices (slice_number g a) s s' es in
    record {
      cores = x.cores;
      addrs = x.addrs;
      pts = x.pts;
      r = x.r;
      log = x.log;
      managed = λ b n. elim (which (slice_number g b) (slice_number g a)) [
        | inl i ↦ rw (i, es, es') (slices b n)
        | inr d ↦ ap (λ o. managed_at o b) (set_elsewhere w.slices (slice_number g a) (slice_number g b) s' d)
      ];
    }

settled_managed : (g : ConfigParts) (w : World) (c a : ℕ) (u' : Core) (s s' : Slice) → slice_get w.slices (slice_number g a) ≡ Some s → (settled g (with_slice g (with_core w c u') a s')).managed a ≡ met_line s' a
settled_managed g w c a u' s s' es = let es' : slice_get (slice_set w.slices (slice_number g a) s') (slice_number g a) ≡ Some s' = set_here w.slices (slice_number g a) s s' es in rw es' refl

met_same : (s : Slice) (a : ℕ) (m : ManagedLine) → met_line (with_managed s a m) a ≡ m
met_same s a m = rw (get-insert_same s.lines a m) refl

met_other : (s : Slice) (a : ℕ) (m : ManagedLine) (b : ℕ) → b ≢ a → met_line (with_managed s a m) b ≡ met_line s b
met_other s a m b n = rw (get-insert_other s.lines a b m n) refl

serve_entry : (m : Message) (u : Core) (reply : Reply) → u.hand ≡ Some m → (b : ℕ) → b ≢ addr_of m → entry_of (record u { kept = Some reply }) b ≡ entry_of u b
serve_entry m u reply hand b n = rw hand (other_entry m (Some reply) b (map.get u.lines b) n ∙ sym (other_entry m u.kept b (map.get u.lines b) n))

pub give_back_move : (g : ConfigParts) (w : World) (c : ℕ) (u : Core) (kind : RecallKind) (a : ℕ) (l : Line) (s : Slice) → slice_get w.cores c ≡ Some u → u.hand ≡ Some (give_back kind a l) → u.kept ≡ None → map.get u.lines a ≡ left kind l → slice_get w.slices (slice_number g a) ≡ Some s →
    Move (settled g w) (settled g (with_slice g (with_core w c (record u { kept = Some Taken })) a (with_managed s a (managed.Shared l))))
give_back_move g w c u kind a l s e hand kept was es =
    let u' : Core = record u { kept = Some Taken } in
    let s' : Slice = with_managed s a (managed.Shared l) in
    let e' : slice_get (with_core w c u').cores c ≡ Some u' = set_here w.cores c u u' e in
    let before : entry_of u a ≡ Some (Exclusive false l) = rw (hand, kept) (own_entry (give_back kind a l) None a (map.get u.lines a) (sym (give_addr kind a l)) ∙ give_unserved kind a l (map.get u.lines a)) in
    let after : entry_of u' a ≡ left kind l = rw hand (own_entry (give_back kind a l) (Some Taken) a (map.get u.lines a) (sym (give_addr kind a l)) ∙ filled_taken (map.get u.lines a) ∙ was) in
    gives c a false l kind
    (both_elsewhere g w c a u u' s s' e es (λ b n. serve_entry (give_back kind a l) u Taken hand b (λ j. n (j ∙ give_addr kind a l))) refl refl refl (λ b n. met_other s a (managed.Shared l) b n))
    (rw e before) (rw e' after) (settled_managed g w c a u' s s' es ∙ met_same s a (managed.Shared l))

-- what a request's core has once it is answered
pub data IsArrived (e : Option Held) (l : Line) (t : ℕ) : Line → Type 0 where
  line : IsArrived e l t (with_rts l t)
  lease : (k : Line) → e ≡ Some (Shared k) → k.stamps.wts ≡ l.stamps.wts → IsArrived e l t (with_rts k t)

is_shared : (e : Option Held) → ((m : Bool) (l : Line) → e ≢ Some (Exclusive m l)) → (e ≡ None) ⊎ ((k : Line) × (e ≡ Some (Shared k)))
is_shared None n = inl refl
is_shared (Some (Shared k)) n = inr (k, refl)
is_shared (Some (Exclusive m k)) n = absurd (n m k refl)

copy_is : (e : Option Held) (w : ℕ) → ((m : Bool) (l : Line) → e ≢ Some (Exclusive m l)) → copy_of e ≡ Some w → (k : Line) × (e ≡ Some (Shared k)) × (k.stamps.wts ≡ w)
copy_is None w n i = absurd cc
copy_is (Some (Shared k)) w n i = (k, refl, cc)
copy_is (Some (Exclusive m k)) w n i = absurd (n m k refl)

le_leb : (a b : ℕ) → a ≤ b → leb a b ≡ true
le_leb a b h = grind arith

shared_renewed : (e : Option Held) (k l : Line) (t : ℕ) (b : Bool) → b ≡ true → e ≡ Some (Shared k) → k.stamps.wts ≤ t → filled e (cond b (RenewRep t) (ShRep (with_rts l t))) ≡ Some (Shared (with_rts k t))
shared_renewed e k l t b i j le = rw (i, j, le_leb k.stamps.wts t le) refl

shared_upgraded : (e : Option Held) (k l : Line) (b : Bool) → b ≡ true → e ≡ Some (Shared k) → k.stamps.wts ≤ l.stamps.rts → filled e (cond b (UpgradeRep l.stamps.rts) (ExRep l)) ≡ Some (Exclusive false (with_rts k l.stamps.rts))
shared_upgraded e k l b i j le = rw (i, j, le_leb k.stamps.wts l.stamps.rts le) refl

pub share_arrives : (e : Option Held) (copy : Option ℕ) (l : Line) (t : ℕ) → ((m : Bool) (k : Line) → e ≢ Some (Exclusive m k)) → copy ≡ copy_of e → l.stamps.wts ≤ t →
    (k : Line) × (filled e (share_reply copy (with_rts l t)) ≡ Some (Shared k)) × IsArrived e l t k
share_arrives e None l t n same le = elim (is_shared e n) [
  | inl none ↦ (with_rts l t, rw none refl, line)
  | inr some ↦ (with_rts l t, rw some.1 refl, line)
]
share_arrives e (Some w) l t n same le = elim (eqb_tells w l.stamps.wts) [
  | inl eq ↦
      let z = copy_is e w n (sym same) in
      let i : z.0.stamps.wts ≡ l.stamps.wts = z.2 ∙ eq.1 in
      (with_rts z.0 t, shared_renewed e z.0 l t (eqb w l.stamps.wts) eq.0 z.1 (omega (arith, i, le)), lease z.0 z.1 i)
  | inr ne ↦ elim (is_shared e n) [
    | inl none ↦ (with_rts l t, rw (ne.0, none) refl, line)
    | inr some ↦ (with_rts l t, rw (ne.0, some.1) refl, line)
  ]
]

pub own_arrives : (e : Option Held) (copy : Option ℕ) (l : Line) → ((m : Bool) (k : Line) → e ≢ Some (Exclusive m k)) → copy ≡ copy_of e → l.stamps.wts ≤ l.stamps.rts →
    (k : Line) × (filled e (own_reply copy l) ≡ Some (Exclusive false k)) × IsArrived e l l.stamps.rts k
own_arrives e None l n same le = elim (is_shared e n) [
  | inl none ↦ (l, rw none refl, line)
  | inr some ↦ (l, rw some.1 refl, line)
]
own_arrives e (Some w) l n same le = elim (eqb_tells w l.stamps.wts) [
  | inl eq ↦
      let z = copy_is e w n (sym same) in
      let i : z.0.stamps.wts ≡ l.stamps.wts = z.2 ∙ eq.1 in
      (with_rts z.0 l.stamps.rts, shared_upgraded e z.0 l (eqb w l.stamps.wts) eq.0 z.1 (omega (arith, i, le)), lease z.0 z.1 i)
  | inr ne ↦ elim (is_shared e n) [
    | inl none ↦ (l, rw (ne.0, none) refl, line)
    | inr some ↦ (l, rw (ne.0, some.1) refl, line)
  ]
]

arrived_served : (x : Settled) (c a : ℕ) (e : Option Held) (l : Line) (t : ℕ) (k : Line) → x.entry c a ≡ e → IsArrived e l t k → IsServed x c a l t k
arrived_served x c a e l t k i line = whole
arrived_served x c a e l t k i (lease k0 j w) = renewed k0 (i ∙ j) w

-- the request of core c for a, at a slice that has the line l for all
pub record IsRequest (g : ConfigParts) (w : World) (c : ℕ) (u : Core) (m : Message) (a : ℕ) (s : Slice) (l : Line) : Type 0 where
  pub core : slice_get w.cores c ≡ Some u
  pub hand : u.hand ≡ Some m
  pub kept : u.kept ≡ None
  pub addr : addr_of m ≡ a
  pub ask : is_request m ≡ true
  pub slice : slice_get w.slices (slice_number g a) ≡ Some s
  pub common : met_line s a ≡ managed.Shared l

request_managed : (g : ConfigParts) (w : World) (c : ℕ) (u : Core) (m : Message) (a : ℕ) (s : Slice) (l : Line) → IsRequest g w c u m a s l → (settled g w).managed a ≡ managed.Shared l
request_managed g w c u m a s l q = rw q.slice q.common

request_entry : (g : ConfigParts) (w : World) (c : ℕ) (u : Core) (m : Message) (a : ℕ) (s : Slice) (l : Line) → IsRequest g w c u m a s l → (settled g w).entry c a ≡ map.get u.lines a
request_entry g w c u m a s l q = rw (q.core, q.hand, q.kept) (own_entry m None a (map.get u.lines a) (sym q.addr) ∙ unserved_request m (map.get u.lines a) q.ask)

pub request_not_own : (g : ConfigParts) (w : World) (c : ℕ) (u : Core) (m : Message) (a : ℕ) (s : Slice) (l : Line) → IsRequest g w c u m a s l → AgreeOnOwners (settled g w) → (b : Bool) (k : Line) → map.get u.lines a ≢ Some (Exclusive b k)
request_not_own g w c u m a s l q o b k e =
    let i : (settled g w).managed a ≡ managed.Exclusive c = o.owner c a b k (request_entry g w c u m a s l q ∙ e) in
    let j : (settled g w).managed a ≡ managed.Shared l = request_managed g w c u m a s l q in
    cc

request_after : (g : ConfigParts) (w : World) (c : ℕ) (u : Core) (m : Message) (a : ℕ) (s s' : Slice) (l : Line) (reply : Reply) (h : Option Held) → IsRequest g w c u m a s l → or_else (filled (map.get u.lines a) reply) (map.get u.lines a) ≡ h → (settled g (with_slice g (with_core w c (record u { kept = Some reply })) a s')).entry c a ≡ h
request_after g w c u m a s s' l reply h q e =
    let u' : Core = record u { kept = Some reply } in
    let e' : slice_get (with_core w c u').cores c ≡ Some u' = set_here w.cores c u u' q.core in
    rw (e', q.hand) (own_entry m (Some reply) a (map.get u.lines a) (sym q.addr) ∙ e)

request_elsewhere : (g : ConfigParts) (w : World) (c : ℕ) (u : Core) (m : Message) (a : ℕ) (s : Slice) (l : Line) (reply : Reply) (n : ManagedLine) → IsRequest g w c u m a s l → IsElsewhere (settled g w) (settled g (with_slice g (with_core w c (record u { kept = Some reply })) a (with_managed s a n))) c a
request_elsewhere g w c u m a s l reply n q = both_elsewhere g w c a u (record u { kept = Some reply }) s (with_managed s a n) q.core q.slice
    (λ b d. serve_entry m u reply q.hand b (λ i. d (i ∙ q.addr))) refl refl refl (λ b d. met_other s a n b d)

pub request_lease : (g : ConfigParts) (w : World) (c : ℕ) (u : Core) (m : Message) (a : ℕ) (s : Slice) (l : Line) → IsRequest g w c u m a s l → HasStamps (view (settled g w)) → l.stamps.wts ≤ l.stamps.rts
request_lease g w c u m a s l q p = rw (home_common (settled g w) a l (request_managed g w c u m a s l q)) at (p.lease a)

pub share_move : (g : ConfigParts) (w : World) (c : ℕ) (u : Core) (m : Message) (a : ℕ) (copy : Option ℕ) (s : Slice) (l : Line) (t : ℕ) → IsRequest g w c u m a s l → copy ≡ copy_of (map.get u.lines a) → l.stamps.rts ≤ t → AgreeOnOwners (settled g w) → HasStamps (view (settled g w)) →
    Move (settled g w) (settled g (with_slice g (with_core w c (record u { kept = Some (share_reply copy (with_rts l t)) })) a (with_managed s a (managed.Shared (with_rts l t)))))
share_move g w c u m a copy s l t q same le o p =
    let reply : Reply = share_reply copy (with_rts l t) in
    let n : ManagedLine = managed.Shared (with_rts l t) in
    let lease : l.stamps.wts ≤ l.stamps.rts = request_lease g w c u m a s l q p in
    let z = share_arrives (map.get u.lines a) copy l t (request_not_own g w c u m a s l q o) same (omega arith) in
    shares c a l z.0 t (request_elsewhere g w c u m a s l reply n q) (request_managed g w c u m a s l q)
    (settled_managed g w c a (record u { kept = Some reply }) s (with_managed s a n) q.slice ∙ met_same s a n) le
    (arrived_served (settled g w) c a (map.get u.lines a) l t z.0 (request_entry g w c u m a s l q) z.2)
    (request_after g w c u m a s (with_managed s a n) l reply (Some (Shared z.0)) q (ap (λ o. or_else o (map.get u.lines a)) z.1))

pub own_move : (g : ConfigParts) (w : World) (c : ℕ) (u : Core) (m : Message) (a : ℕ) (copy : Option ℕ) (s : Slice) (l : Line) → IsRequest g w c u m a s l → copy ≡ copy_of (map.get u.lines a) → AgreeOnOwners (settled g w) → HasStamps (view (settled g w)) →
    Move (settled g w) (settled g (with_slice g (with_core w c (record u { kept = Some (own_reply copy l) })) a (with_managed s a (managed.Exclusive c))))
own_move g w c u m a copy s l q same o p =
    let reply : Reply = own_reply copy l in
    let lease : l.stamps.wts ≤ l.stamps.rts = request_lease g w c u m a s l q p in
    let z = own_arrives (map.get u.lines a) copy l (request_not_own g w c u m a s l q o) same lease in
    owns c a l z.0 (request_elsewhere g w c u m a s l reply (managed.Exclusive c) q) (request_managed g w c u m a s l q)
    (settled_managed g w c a (record u { kept = Some reply }) s (with_managed s a (managed.Exclusive c)) q.slice ∙ met_same s a (managed.Exclusive c))
    (arrived_served (settled g w) c a (map.get u.lines a) l l.stamps.rts z.0 (request_entry g w c u m a s l q) z.2)
    (request_after g w c u m a s (with_managed s a (managed.Exclusive c)) l reply (Some (Exclusive false z.0)) q (ap (λ o. or_else o (map.get u.lines a)) z.1))
