-- A hit is an operation of the machine without messages; a spill moves the memory's stamps up.
use Rattle.std.proofs.Common.{◌≡◌, ◌≢◌, length, ap, subst, ◌∙◌, ℕ, ◌≤◌, ◌⊎◌, inl, inr, Bool, true, false, cond, leb, refl, arith, max}
use Rattle.std.specs.Prelude.{Option, Some, None, unwrap_or, slice_get, slice_set}
use Rattle.std.specs.FinMap as map
use Rattle.std.proofs.lemmas.Bool.{leb-true}
use Rattle.mem_op.specs.declared.id.Op.{Op}
use Rattle.mem_op.specs.declared.id.Op.TheVariants as op
use Rattle.mem_op.specs.declared.id.OpId.{OpId}
use Rattle.mem_op.specs.declared.id.Source.{Source}
use Rattle.mem_op.specs.declared.id.Source.TheVariants as source
use Rattle.line_stamps.specs.declared.line.Line.{Line}
use Rattle.lease_rule.specs.ConfigParts.{ConfigParts}
use Rattle.lease_rule.specs.Lease.{load_stamp, store_stamp, rank_of, self_increment}
use Rattle.memory_stamp.specs.Memory.{filled_line, with_line}
use Rattle.log_record.specs.declared.record.Record.{Record}
use Rattle.private_cache.specs.Table.{Hit, load_hit, store_hit, swap_hit, loaded, stored, with_rts}
use Rattle.private_cache.specs.declared.held.Held.{Held}
use Rattle.private_cache.specs.declared.held.Held.TheVariants.{Shared, Exclusive}
use Rattle.manager_slice.specs.Table.{Slice, met_line, without_line, Evicts, evicts}
use Rattle.manager_slice.specs.declared.managed.ManagedLine.{ManagedLine}
use Rattle.manager_slice.specs.declared.managed.ManagedLine.TheVariants as managed
use Rattle.core_unit.specs.Core.{Core, op_addr, op_hit, next_id, tries, record_of, after_hit}
use Rattle.core_machine.specs.Machine.{World, with_core, with_slice, slice_number}
use Rattle.core_machine.proofs.Placed.{set_here}
use Rattle.address_check.specs.AddressFaults.{is_store}
use Rattle.verdict.proofs.Lists.{set_elsewhere}
use Rattle.machine_laws.specs.Views.{read_of}
use Rattle.machine_laws.specs.Versions.{AtMost}
use Rattle.machine_laws.specs.Settled.{Settled, entry_at, pts_at, r_at, log_of, managed_at, settled}
use Rattle.machine_laws.proofs.Stamps.{which}
use Rattle.machine_laws.proofs.Quiet.{IsSpill, IsSpilled}
use Rattle.machine_laws.proofs.Operations.{IsOperation, IsHit, reads_copy, reads_own, writes}
use Rattle.machine_laws.proofs.Maps.{get-insert_same, get-insert_other, get-remove_same, get-remove_other}

-- ---- hits

record IsReadOf (pts r : ℕ) (l : Line) (q : Record) : Type 0 where
  act : is_store q.act ≡ false
  read : read_of q ≡ Some (l.source, l.value)
  ts : q.ts ≡ load_stamp pts l.stamps.wts
  rank : q.rank ≡ rank_of q.ts pts r l.stamps.wts l.stamps.wr

-- what a store reads, where it is a swap, is the line before it
record IsWriteOf (pts r : ℕ) (modified : Bool) (l : Line) (q : Record) : Type 0 where
  act : is_store q.act ≡ true
  read : (s : Source) (v : ℕ) → read_of q ≡ Some (s, v) → (s ≡ l.source) × (v ≡ l.value)
  ts : q.ts ≡ store_stamp pts l.stamps.rts modified
  rank : q.rank ≡ rank_of q.ts pts r l.stamps.wts l.stamps.wr

-- the hit of an operation at a line
data HitCase (pts r : ℕ) (id : OpId) (x : Op) (e : Option Held) (hit : Hit) : Type 0 where
  case_copy : (k : Line) → e ≡ Some (Shared k) → hit.held ≡ Shared k → pts ≤ k.stamps.rts → IsReadOf pts r k (record_of x hit) → HitCase pts r id x e hit
  case_own : (m : Bool) (l : Line) (t : ℕ) → e ≡ Some (Exclusive m l) → hit.held ≡ Exclusive m (with_rts l t) → l.stamps.rts ≤ t → hit.stamp ≤ t → t ≤ max l.stamps.rts hit.stamp → IsReadOf pts r l (record_of x hit) → HitCase pts r id x e hit
  case_write : (m : Bool) (l : Line) (v : ℕ) → e ≡ Some (Exclusive m l) → hit.held ≡ stored v (source.Store id) hit.stamp hit.rank → (record_of x hit).value ≡ v → IsWriteOf pts r m l (record_of x hit) → HitCase pts r id x e hit

if_some : (b : Bool) (x h : Hit) → cond b (Some x) None ≡ Some h → (b ≡ true) × (x ≡ h)
if_some true x h e = (refl, cc)
if_some false x h e = absurd cc

some_same : {A : Type 0} (x h : A) → Some x ≡ Some h → x ≡ h
some_same x h e = cc

load_case : (pts r : ℕ) (id : OpId) (a : ℕ) (e : Option Held) (hit : Hit) → load_hit pts r e ≡ Some hit → HitCase pts r id (op.Load a) e hit
load_case pts r id a None hit i = absurd cc
load_case pts r id a (Some (Shared k)) hit i =
    let z = if_some (leb pts k.stamps.rts) (loaded pts r (Shared k)) hit i in
    subst (λ (h : Hit). HitCase pts r id (op.Load a) (Some (Shared k)) h) z.1 (case_copy k refl refl (leb-true pts k.stamps.rts z.0) (record { act = refl; read = refl; ts = refl; rank = refl }))
load_case pts r id a (Some (Exclusive m l)) hit i =
    subst (λ (h : Hit). HitCase pts r id (op.Load a) (Some (Exclusive m l)) h) (some_same (loaded pts r (Exclusive m l)) hit i)
    (case_own m l (max l.stamps.rts (load_stamp pts l.stamps.wts)) refl refl (omega arith) (omega arith) (omega arith) (record { act = refl; read = refl; ts = refl; rank = refl }))

store_case : (pts r : ℕ) (id : OpId) (a v : ℕ) (e : Option Held) (hit : Hit) → store_hit v (source.Store id) pts r e ≡ Some hit → HitCase pts r id (op.Store a v) e hit
store_case pts r id a v None hit i = absurd cc
store_case pts r id a v (Some (Shared k)) hit i = absurd cc
store_case pts r id a v (Some (Exclusive m l)) hit i =
    subst (λ (h : Hit). HitCase pts r id (op.Store a v) (Some (Exclusive m l)) h) (some_same _ hit i)
    (case_write m l v refl refl refl (record { act = refl; read = λ s x e. absurd cc; ts = refl; rank = refl }))

-- what was read is told once
read_before : (s z : Source) (x y : ℕ) → ◌≡◌ {A = Option (Source × ℕ)} (Some (s, x)) (Some (z, y)) → (z ≡ s) × (y ≡ x)
read_before s z x y e =
    let h : ◌≡◌ {A = Source × ℕ} (z, y) (s, x) = cc in
    (ap (λ (p : Source × ℕ). p.0) h, ap (λ (p : Source × ℕ). p.1) h)

swap_case : (pts r : ℕ) (id : OpId) (a v : ℕ) (e : Option Held) (hit : Hit) → swap_hit v (source.Store id) pts r e ≡ Some hit → HitCase pts r id (op.Swap a v) e hit
swap_case pts r id a v None hit i = absurd cc
swap_case pts r id a v (Some (Shared k)) hit i = absurd cc
swap_case pts r id a v (Some (Exclusive m l)) hit i =
    subst (λ (h : Hit). HitCase pts r id (op.Swap a v) (Some (Exclusive m l)) h) (some_same _ hit i)
    (case_write m l v refl refl refl (record { act = refl; read = λ s x e. read_before l.source s l.value x e; ts = refl; rank = refl }))

hit_case : (x : Op) (pts r : ℕ) (id : OpId) (e : Option Held) (hit : Hit) → op_hit x id pts r e ≡ Some hit → HitCase pts r id x e hit
hit_case (op.Load a) pts r id e hit i = load_case pts r id a e hit i
hit_case (op.Store a v) pts r id e hit i = store_case pts r id a v e hit i
hit_case (op.Swap a v) pts r id e hit i = swap_case pts r id a v e hit i

due_at_most : (b : Bool) (t k : ℕ) → AtMost t k (cond b (self_increment t) t) (cond b 0 k)
due_at_most true t k = record { time = omega arith; tie = λ h. absurd (omega arith) }
due_at_most false t k = record { time = omega arith; tie = λ h. omega arith }

pub hit_operation : (g : ConfigParts) (w : World) (c : ℕ) (u : Core) (x : Op) (hit : Hit) → slice_get w.cores c ≡ Some u → u.hand ≡ None → IsOperation (settled g w) (settled g (with_core w c (after_hit g u x hit))) c (op_addr x) (record_of x hit)
hit_operation g w c u x hit e free =
    let v : Core = after_hit g u x hit in
    let e' : slice_get (with_core w c v).cores c ≡ Some v = set_here w.cores c u v e in
    let others : (d : ℕ) → d ≢ c → slice_get (with_core w c v).cores d ≡ slice_get w.cores d = λ d n. set_elsewhere w.cores c d v n in
    record {
      addr = refl;
      cores = λ d b n. ap (λ o. entry_at o b) (others d n);
      addrs = λ b n. rw (e, e', free) (get-insert_other u.lines (op_addr x) b hit.held n);
      managed = λ b. refl;
      own = rw (e, e') refl;
      others = λ d n. ap log_of (others d n);
      pts = λ d n. ap pts_at (others d n);
      r = λ d n. ap r_at (others d n);
      to = rw e' (due_at_most _ hit.stamp hit.rank);
    }

hit_from : (x y : Settled) (c a : ℕ) (pts r n : ℕ) (o : Op) (e : Option Held) (hit : Hit) → x.pts c ≡ pts → x.r c ≡ r → length (x.log c) ≡ n → x.entry c a ≡ e → y.entry c a ≡ Some hit.held → HitCase pts r (record { core = c; index = n }) o e hit → IsHit x y c a (record_of o hit)
hit_from x y c a pts r n o e hit ep er en ex ey (case_copy k j held within is) =
    reads_copy k (ex ∙ j) (ey ∙ ap Some held) (omega (arith, ep, within)) (record { act = is.act; read = is.read; ts = rw ep is.ts; rank = rw (ep, er) is.rank })
hit_from x y c a pts r n o e hit ep er en ex ey (case_own m l t j held up le le' is) =
    reads_own m l t (ex ∙ j) (ey ∙ ap Some held) up le le' (record { act = is.act; read = is.read; ts = rw ep is.ts; rank = rw (ep, er) is.rank })
hit_from x y c a pts r n o e hit ep er en ex ey (case_write m l v j held same is) =
    writes m l (ex ∙ j) (rw (en, same) (ey ∙ ap Some held)) (record { act = is.act; read = is.read; ts = rw ep is.ts; rank = rw (ep, er) is.rank })

pub hit_is_hit : (g : ConfigParts) (w : World) (c : ℕ) (u : Core) (x : Op) (hit : Hit) → slice_get w.cores c ≡ Some u → u.hand ≡ None → tries c u x ≡ Some hit → IsHit (settled g w) (settled g (with_core w c (after_hit g u x hit))) c (op_addr x) (record_of x hit)
hit_is_hit g w c u x hit e free hits =
    let v : Core = after_hit g u x hit in
    let e' : slice_get (with_core w c v).cores c ≡ Some v = set_here w.cores c u v e in
    hit_from (settled g w) (settled g (with_core w c v)) c (op_addr x) u.pts u.r (length u.log) x (map.get u.lines (op_addr x)) hit
    (rw e refl) (rw e refl) (rw e refl) (rw (e, free) refl) (rw (e', free) (get-insert_same u.lines (op_addr x) hit.held))
    (hit_case x u.pts u.r (next_id c u) (map.get u.lines (op_addr x)) hit hits)

-- ---- spills

spilled_line : (s : Slice) (a : ℕ) (l : Line) → met_line (without_line s a l) a ≡ managed.Shared (record { value = l.value; source = l.source; stamps = record { wts = max s.memory.mts l.stamps.rts; rts = max s.memory.mts l.stamps.rts; wr = max s.memory.mrank l.stamps.wr } })
spilled_line s a l = rw (get-remove_same s.lines a, get-insert_same s.memory.words a (record { value = l.value; source = l.source })) refl

kept_line : (o : Option ManagedLine) (l l' : Line) → l'.value ≡ l.value → l'.source ≡ l.source → l.stamps.rts ≤ l'.stamps.wts → l'.stamps.wts ≤ l'.stamps.rts → l.stamps.wr ≤ l'.stamps.wr
    → (unwrap_or o (managed.Shared l') ≡ unwrap_or o (managed.Shared l)) ⊎ IsSpill (unwrap_or o (managed.Shared l)) (unwrap_or o (managed.Shared l'))
kept_line None l l' v s up lease wr = inr (record { l = l; l' = l'; old = refl; new = refl; value = v; source = s; up = up; lease = lease; rank = wr })
kept_line (Some m) l l' v s up lease wr = inl refl

spill_line : (s : Slice) (a : ℕ) (l : Line) → map.get s.lines a ≡ Some (managed.Shared l) → (b : ℕ) → (met_line (without_line s a l) b ≡ met_line s b) ⊎ IsSpill (met_line s b) (met_line (without_line s a l) b)
spill_line s a l there b = elim (which b a) [
  | inl i ↦ rw i (inr (record { l = l; l' = _; old = rw there refl; new = spilled_line s a l; value = refl; source = refl; up = omega arith; lease = omega arith; rank = omega arith }))
  | inr n ↦ rw (get-remove_other s.lines a b n)
      (kept_line (map.get s.lines b) (filled_line s.memory b) (filled_line (with_line s.memory a l) b)
      (rw (get-insert_other s.memory.words a b (record { value = l.value; source = l.source }) n) refl)
      (rw (get-insert_other s.memory.words a b (record { value = l.value; source = l.source }) n) refl)
      (omega arith) (omega arith) (omega arith))
]

pub spill_move : (g : ConfigParts) (w : World) (a b : ℕ) (s t : Slice) → slice_get w.slices (slice_number g a) ≡ Some s → Evicts s b t → IsSpilled (settled g w) (settled g (with_slice g w a t))
spill_move g w a b s t es (evicts l there) =
    let t : Slice = without_line s b l in
    let n : ℕ = slice_number g a in
    let es' : slice_get (slice_set w.slices n t) n ≡ Some t = set_here w.slices n s t es in
    record {
      entry = λ c d. refl;
      managed = λ d. elim (which (slice_number g d) n) [
        | inl i ↦ rw (i, es, es') (spill_line s b l there d)
        | inr differ ↦ inl (ap (λ o. managed_at o d) (set_elsewhere w.slices n (slice_number g d) t differ))
      ];
      pts = λ d. refl;
      r = λ d. refl;
      log = λ d. refl;
    }
