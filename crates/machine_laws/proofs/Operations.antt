-- The operations of the machine without messages, and that they keep both passes.
use Rattle.std.proofs.Common.{◌≡◌, ◌≢◌, ◌++◌, ◌∷◌, [], length, ap, sym, subst, ◌∙◌, ℕ, ◌<◌, ◌≤◌, ◌⊎◌, inl, inr, Bool, true, false, refl, arith, max}
use Rattle.std.specs.Prelude.{Some, None}
use Rattle.std.proofs.lemmas.Bool.{eq-eqb}
use Rattle.mem_op.specs.declared.id.Source.{Source}
use Rattle.mem_op.specs.declared.id.Source.TheVariants.{Store}
use Rattle.line_stamps.specs.declared.line.Line.{Line}
use Rattle.lease_rule.specs.Lease.{load_stamp, store_stamp, rank_of}
use Rattle.log_record.specs.declared.record.Record.{Record}
use Rattle.private_cache.specs.Table.{with_rts, stored}
use Rattle.private_cache.specs.declared.held.Held.TheVariants.{Shared, Exclusive}
use Rattle.manager_slice.specs.declared.managed.ManagedLine.TheVariants as managed
use Rattle.address_check.specs.AddressFaults.{is_store}
use Rattle.machine_laws.specs.Views.{Did, read_of}
use Rattle.machine_laws.specs.Stamps.{HasStamps}
use Rattle.machine_laws.specs.Versions.{AtMost, NotAfter, HasVersions, IsSourced}
use Rattle.machine_laws.specs.Settled.{Settled, home, view, copy_in, is_dirty}
use Rattle.machine_laws.specs.Hands.{AgreeOnOwners}
use Rattle.machine_laws.proofs.Stamps.{IsQuiet, which, IsPerformed, IsStoring, not_both, load_stamps, store_stamps}
use Rattle.machine_laws.proofs.Versions.{IsQuietSource, IsReading, IsStoringSource, load_versions, store_versions}
use Rattle.machine_laws.proofs.Moves.{dirty_is, home_same, home_owned, Move, stays}
use Rattle.machine_laws.proofs.Quiet.{follow_same, home_sourced, move_quiet, move_sources}

-- core c performs q at the address a
pub record IsOperation (x y : Settled) (c a : ℕ) (q : Record) : Type 0 where
  pub addr : q.addr ≡ a
  pub cores : (d b : ℕ) → d ≢ c → y.entry d b ≡ x.entry d b
  pub addrs : (b : ℕ) → b ≢ a → y.entry c b ≡ x.entry c b
  pub managed : (b : ℕ) → y.managed b ≡ x.managed b
  pub own : y.log c ≡ x.log c ++ q ∷ []
  pub others : (d : ℕ) → d ≢ c → y.log d ≡ x.log d
  pub pts : (d : ℕ) → d ≢ c → y.pts d ≡ x.pts d
  pub r : (d : ℕ) → d ≢ c → y.r d ≡ x.r d
  pub to : AtMost q.ts q.rank (y.pts c) (y.r c)

pub record IsRead (x : Settled) (c : ℕ) (q : Record) (l : Line) : Type 0 where
  pub act : is_store q.act ≡ false
  pub read : read_of q ≡ Some (l.source, l.value)
  pub ts : q.ts ≡ load_stamp (x.pts c) l.stamps.wts
  pub rank : q.rank ≡ rank_of q.ts (x.pts c) (x.r c) l.stamps.wts l.stamps.wr

pub record IsWrite (x : Settled) (c : ℕ) (q : Record) (m : Bool) (l : Line) : Type 0 where
  pub act : is_store q.act ≡ true
  pub read : (s : Source) (v : ℕ) → read_of q ≡ Some (s, v) → (s ≡ l.source) × (v ≡ l.value)
  pub ts : q.ts ≡ store_stamp (x.pts c) l.stamps.rts m
  pub rank : q.rank ≡ rank_of q.ts (x.pts c) (x.r c) l.stamps.wts l.stamps.wr

pub data IsHit (x y : Settled) (c a : ℕ) (q : Record) : Type 0 where
  reads_copy : (k : Line) → x.entry c a ≡ Some (Shared k) → y.entry c a ≡ Some (Shared k) → x.pts c ≤ k.stamps.rts → IsRead x c q k → IsHit x y c a q
  reads_own : (m : Bool) (l : Line) (t : ℕ) → x.entry c a ≡ Some (Exclusive m l) → y.entry c a ≡ Some (Exclusive m (with_rts l t)) → l.stamps.rts ≤ t → q.ts ≤ t → t ≤ max l.stamps.rts q.ts → IsRead x c q l → IsHit x y c a q
  writes : (m : Bool) (l : Line) → x.entry c a ≡ Some (Exclusive m l) → y.entry c a ≡ Some (stored q.value (Store (record { core = c; index = length (x.log c) })) q.ts q.rank) → IsWrite x c q m l → IsHit x y c a q

rank_tie : (t pts r wts wr : ℕ) → t ≡ wts → wr < rank_of t pts r wts wr
rank_tie t pts r wts wr e = rw (eq-eqb t wts e) (omega arith)

rank_from : (t pts r wts wr : ℕ) → t ≡ pts → r ≤ rank_of t pts r wts wr
rank_from t pts r wts wr e = rw (eq-eqb t pts e) (omega arith)

hit_performed : (x y : Settled) (c a : ℕ) (q : Record) → IsOperation x y c a q → IsPerformed (view x) (view y) c q
hit_performed x y c a q s = record { own = s.own; others = s.others }

grows : (x y : Settled) (c a : ℕ) (q : Record) → IsOperation x y c a q → AtMost (x.pts c) (x.r c) q.ts q.rank → (d : ℕ) → AtMost (x.pts d) (x.r d) (y.pts d) (y.r d)
grows x y c a q s from d = elim (which d c) [
  | inl i ↦ rw i (record { time = omega (arith, from.time, s.to.time); tie = λ h. omega (arith, from.time, s.to.time, from.tie, s.to.tie) })
  | inr n ↦ record { time = omega (arith, s.pts d n); tie = λ h. omega (arith, s.r d n) }
]

read_from : (x : Settled) (c : ℕ) (q : Record) (l : Line) → IsRead x c q l → AtMost (x.pts c) (x.r c) q.ts q.rank
read_from x c q l t = record { time = omega (arith, t.ts); tie = λ h. rw t.rank (rank_from q.ts (x.pts c) (x.r c) l.stamps.wts l.stamps.wr (sym h)) }

write_from : (x : Settled) (c : ℕ) (q : Record) (m : Bool) (l : Line) → IsWrite x c q m l → AtMost (x.pts c) (x.r c) q.ts q.rank
write_from x c q m l t = record { time = omega (arith, t.ts); tie = λ h. rw t.rank (rank_from q.ts (x.pts c) (x.r c) l.stamps.wts l.stamps.wr (sym h)) }

pub hit_owns : (x y : Settled) (c a : ℕ) (q : Record) → IsOperation x y c a q → IsHit x y c a q → AgreeOnOwners x → AgreeOnOwners y
hit_owns x y c a q s h o = record {
  owner = λ d b m l e. s.managed b ∙ elim (which d c) [
    | inl i ↦ elim (which b a) [
      | inl j ↦ rw (i, j) (was_owned h (rw (i, j) at e))
      | inr n ↦ o.owner d b m l (rw i (sym (s.addrs b n) ∙ rw i at e))
    ]
    | inr n ↦ o.owner d b m l (sym (s.cores d b n) ∙ e)
  ];
  owned = λ d b e. let z = o.owned d b (sym (s.managed b) ∙ e) in still d b z.0 z.1 z.2;
}
  where
    was_owned : {m : Bool} {l : Line} → IsHit x y c a q → y.entry c a ≡ Some (Exclusive m l) → x.managed a ≡ managed.Exclusive c
    was_owned (reads_copy k ex ey within t) e = absurd cc
    was_owned (reads_own m' l' t ex ey up le le' is) e = o.owner c a m' l' ex
    was_owned (writes m' l' ex ey is) e = o.owner c a m' l' ex

    is_owned : {m : Bool} {l : Line} → IsHit x y c a q → x.entry c a ≡ Some (Exclusive m l) → (m : Bool) × (l : Line) × (y.entry c a ≡ Some (Exclusive m l))
    is_owned (reads_copy k ex ey within t) e = absurd cc
    is_owned (reads_own m' l' t ex ey up le le' is) e = (m', with_rts l' t, ey)
    is_owned (writes m' l' ex ey is) e = (true, _, ey)

    still : (d b : ℕ) (m : Bool) (l : Line) → x.entry d b ≡ Some (Exclusive m l) → (m : Bool) × (l : Line) × (y.entry d b ≡ Some (Exclusive m l))
    still d b m l e = elim (which d c) [
      | inl i ↦ elim (which b a) [
        | inl j ↦ rw (i, j) (is_owned h (rw (i, j) at e))
        | inr n ↦ (m, l, rw i (s.addrs b n ∙ rw i at e))
      ]
      | inr n ↦ (m, l, s.cores d b n ∙ e)
    ]

-- before the record goes into the log: only the line's lease and the core's stamp
abbrev pub unlogged : Settled → Settled → Settled
unlogged x y = record y { log = x.log }

entry_same : (x y : Settled) (c a : ℕ) (q : Record) → IsOperation x y c a q → y.entry c a ≡ x.entry c a → (d b : ℕ) → y.entry d b ≡ x.entry d b
entry_same x y c a q s e d b = elim (which d c) [
  | inl i ↦ elim (which b a) [ inl j ↦ rw (i, j) e | inr n ↦ rw i (s.addrs b n) ]
  | inr n ↦ s.cores d b n
]

copy_read_stays : (x y : Settled) (c a : ℕ) (q : Record) (k : Line) → IsOperation x y c a q → x.entry c a ≡ Some (Shared k) → y.entry c a ≡ Some (Shared k) → IsRead x c q k → Move x (unlogged x y)
copy_read_stays x y c a q k s ex ey t = stays (entry_same x y c a q s (ey ∙ sym ex)) s.managed (grows x y c a q s (read_from x c q k t)) (λ d. refl)

read_home : (x y : Settled) (c a : ℕ) (q : Record) → IsOperation x y c a q → (b : ℕ) → b ≢ a → home y b ≡ home x b
read_home x y c a q s b n = home_same x y b (s.managed b) (λ d. elim (which d c) [ inl i ↦ rw i (s.addrs b n) | inr m ↦ s.cores d b m ])

own_read_quiet : (x y : Settled) (c a : ℕ) (q : Record) (m : Bool) (l : Line) (t : ℕ) → IsOperation x y c a q → x.entry c a ≡ Some (Exclusive m l) → y.entry c a ≡ Some (Exclusive m (with_rts l t)) → l.stamps.rts ≤ t → t ≤ max l.stamps.rts q.ts → IsRead x c q l → AgreeOnOwners x → AgreeOnOwners y → HasStamps (view x) → IsQuiet (view x) (view (unlogged x y))
own_read_quiet x y c a q m l t s ex ey up le is o oy p =
    let hx : home x a ≡ l = home_owned x o c a m l ex in
    let hy : home y a ≡ with_rts l t = home_owned y oy c a m (with_rts l t) ey in
    let lease : l.stamps.wts ≤ l.stamps.rts = rw hx at (p.lease a) in
    record {
      log = λ d. refl;
      pts = λ d. (grows x y c a q s (read_from x c q l is) d).time;
      home = λ b. elim (which b a) [
        | inl i ↦ rw (i, hx, hy) (record { written = omega arith; read_to = up; lease = omega arith })
        | inr n ↦ follow_same (home x b) (home y b) (read_home x y c a q s b n) (p.lease b)
      ];
      copy = λ d b k e. inl (elim (which d c) [
        | inl i ↦ elim (which b a) [
          | inl j ↦ let w : copy_in (y.entry c a) ≡ Some k = rw (i, j) at e in let z : copy_in (y.entry c a) ≡ None = ap copy_in ey in absurd (cc)
          | inr n ↦ rw i (ap copy_in (sym (s.addrs b n)) ∙ rw i at e)
        ]
        | inr n ↦ ap copy_in (sym (s.cores d b n)) ∙ e
      ]);
      dirty = λ d b e. elim (which b a) [
        | inl j ↦ elim (which d c) [
          | inl i ↦
              let w : is_dirty (y.entry c a) ≡ true = rw (i, j) at e in
              let z : is_dirty (y.entry c a) ≡ m = ap is_dirty ey in
              let v : is_dirty (x.entry c a) ≡ m = ap is_dirty ex in
              rw (i, j, hx, hy) (v ∙ sym z ∙ w, omega (arith, s.to.time))
          | inr n ↦
              let w : is_dirty (x.entry d a) ≡ true = ap is_dirty (sym (s.cores d a n)) ∙ (rw j at e) in
              let z = dirty_is (x.entry d a) w in
              absurd (other d z.0 n z.1)
        ]
        | inr n ↦ (elim (which d c) [ inl i ↦ rw i (ap is_dirty (sym (s.addrs b n)) ∙ rw i at e) | inr k ↦ ap is_dirty (sym (s.cores d b k)) ∙ e ], rw (read_home x y c a q s b n) (omega arith))
      ];
    }
  where
    other : (d : ℕ) (k : Line) → d ≢ c → x.entry d a ≡ Some (Exclusive true k) → ⊥
    other d k n e = let i : x.managed a ≡ managed.Exclusive d = o.owner d a true k e in let j : x.managed a ≡ managed.Exclusive c = o.owner c a m l ex in n (cc)

-- the new stamp is above the line's lease, or the owner has modified the line
new_stamp : (t pts : ℕ) (m : Bool) (l : Line) → t ≡ store_stamp pts l.stamps.rts m → (l.stamps.rts < t) ⊎ ((l.stamps.rts ≤ t) × (m ≡ true))
new_stamp t pts false l e = inl (omega (arith, e))
new_stamp t pts true l e = inr (omega (arith, e), refl)

write_home : (x y : Settled) (c a : ℕ) (q : Record) → AgreeOnOwners y → y.entry c a ≡ Some (stored q.value (Store (record { core = c; index = length (x.log c) })) q.ts q.rank) → home y a ≡ record { value = q.value; source = Store (record { core = c; index = length (x.log c) }); stamps = record { wts = q.ts; rts = q.ts; wr = q.rank } }
write_home x y c a q oy ey = home_owned y oy c a true _ ey

write_storing : (x y : Settled) (c a : ℕ) (q : Record) (m : Bool) (l : Line) → IsOperation x y c a q → x.entry c a ≡ Some (Exclusive m l) → y.entry c a ≡ Some (stored q.value (Store (record { core = c; index = length (x.log c) })) q.ts q.rank) → IsWrite x c q m l → AgreeOnOwners x → AgreeOnOwners y → IsStoring (view x) (view y) c q
write_storing x y c a q m l s ex ey t o oy =
    let hx : home x a ≡ l = home_owned x o c a m l ex in
    let hy = write_home x y c a q oy ey in
    record {
      act = t.act;
      pts = λ d. (grows x y c a q s (write_from x c q m l t) d).time;
      now = s.to.time;
      own = λ b e. let i : b ≡ a = e ∙ s.addr in (rw (i, hy) refl, rw (i, hy) refl);
      others = λ b n. read_home x y c a q s b (λ e. n (e ∙ sym s.addr));
      stamp = λ b e.
          let i : b ≡ a = e ∙ s.addr in
          let dirty : is_dirty (x.entry c a) ≡ m = ap is_dirty ex in
          rw (i, hx) (elim (new_stamp q.ts (x.pts c) m l t.ts) [ inl above ↦ inl above | inr own ↦ inr (own.0, dirty ∙ own.1) ]);
      copy = λ d b k e. elim (which d c) [
        | inl i ↦ elim (which b a) [
          | inl j ↦ let w : copy_in (y.entry c a) ≡ Some k = rw (i, j) at e in let z : copy_in (y.entry c a) ≡ None = ap copy_in ey in absurd (cc)
          | inr n ↦ rw i (ap copy_in (sym (s.addrs b n)) ∙ rw i at e)
        ]
        | inr n ↦ ap copy_in (sym (s.cores d b n)) ∙ e
      ];
      dirty = λ d b e. elim (which b a) [
        | inl j ↦ elim (which d c) [
          | inl i ↦ inl (j ∙ sym s.addr, i)
          | inr n ↦
              let w : is_dirty (x.entry d a) ≡ true = ap is_dirty (sym (s.cores d a n)) ∙ (rw j at e) in
              let z = dirty_is (x.entry d a) w in
              absurd (other d z.0 n z.1)
        ]
        | inr n ↦ inr (λ i. n (i ∙ s.addr), elim (which d c) [ inl i ↦ rw i (ap is_dirty (sym (s.addrs b n)) ∙ rw i at e) | inr k ↦ ap is_dirty (sym (s.cores d b k)) ∙ e ])
      ];
    }
  where
    other : (d : ℕ) (k : Line) → d ≢ c → x.entry d a ≡ Some (Exclusive true k) → ⊥
    other d k n e = let i : x.managed a ≡ managed.Exclusive d = o.owner d a true k e in let j : x.managed a ≡ managed.Exclusive c = o.owner c a m l ex in n (cc)

write_sources : (x y : Settled) (c a : ℕ) (q : Record) (m : Bool) (l : Line) → IsOperation x y c a q → x.entry c a ≡ Some (Exclusive m l) → y.entry c a ≡ Some (stored q.value (Store (record { core = c; index = length (x.log c) })) q.ts q.rank) → IsWrite x c q m l → AgreeOnOwners x → AgreeOnOwners y → IsStoringSource (view x) (view y) c q
write_sources x y c a q m l s ex ey t o oy =
    let hx : home x a ≡ l = home_owned x o c a m l ex in
    let hy = write_home x y c a q oy ey in
    record {
      own = λ b e. let i : b ≡ a = e ∙ s.addr in (rw (i, hy) refl, rw (i, hy) refl, rw (i, hy) refl);
      read = λ z w e. rw (s.addr, hx) (t.read z w e);
      from = write_from x c q m l t;
      to = s.to;
      reached = grows x y c a q s (write_from x c q m l t);
    }

-- a hit that stores is the store of both passes
pub hit_stores : (x y : Settled) (c a : ℕ) (q : Record) → IsOperation x y c a q → IsHit x y c a q → is_store q.act ≡ true → AgreeOnOwners x → IsStoring (view x) (view y) c q × IsStoringSource (view x) (view y) c q
hit_stores x y c a q s (reads_copy k ex ey within t) st o = absurd (not_both q t.act st)
hit_stores x y c a q s (reads_own m l t ex ey up le le' is) st o = absurd (not_both q is.act st)
hit_stores x y c a q s (writes m l ex ey t) st o =
    let oy : AgreeOnOwners y = hit_owns x y c a q s (writes m l ex ey t) o in
    (write_storing x y c a q m l s ex ey t o oy, write_sources x y c a q m l s ex ey t o oy)

copy_home : (x y : Settled) (c a : ℕ) (q : Record) (k : Line) → IsOperation x y c a q → x.entry c a ≡ Some (Shared k) → y.entry c a ≡ Some (Shared k) → (b : ℕ) → home y b ≡ home x b
copy_home x y c a q k s ex ey b = home_same x y b (s.managed b) (λ d. entry_same x y c a q s (ey ∙ sym ex) d b)

pub hit_stamps : (x y : Settled) (c a : ℕ) (q : Record) → IsOperation x y c a q → IsHit x y c a q → AgreeOnOwners x → HasStamps (view x) → HasStamps (view y)
hit_stamps x y c a q s (reads_copy k ex ey within t) o p =
    let u : Settled = unlogged x y in
    let copy : copy_in (x.entry c a) ≡ Some k = ap copy_in ex in
    let below : q.ts ≤ k.stamps.rts = omega (arith, t.ts, within, p.copy_lease c a k copy) in
    load_stamps (view x) (view y) c q (hit_performed x y c a q s) (move_quiet x u (copy_read_stays x y c a q k s ex ey t) o p) t.act
    (rw (s.addr, copy_home x y c a q k s ex ey a) (omega (arith, below, p.copy_bound c a k copy)))
    (λ d e. inr (rw (s.addr, copy_home x y c a q k s ex ey a) (omega (arith, below, p.dirty_alone d a (ap is_dirty (sym (entry_same x y c a q s (ey ∙ sym ex) d a)) ∙ rw s.addr at e) c k copy))))
    p
hit_stamps x y c a q s (reads_own m l t ex ey up le le' is) o p =
    let oy : AgreeOnOwners y = hit_owns x y c a q s (reads_own m l t ex ey up le le' is) o in
    let hy : home y a ≡ with_rts l t = home_owned y oy c a m (with_rts l t) ey in
    load_stamps (view x) (view y) c q (hit_performed x y c a q s) (own_read_quiet x y c a q m l t s ex ey up le' is o oy p) is.act
    (rw (s.addr, hy) le)
    (λ d e.
    let z = dirty_is (y.entry d a) (rw s.addr at e) in
    let i : y.managed a ≡ managed.Exclusive d = oy.owner d a true z.0 z.1 in
    let j : y.managed a ≡ managed.Exclusive c = oy.owner c a m (with_rts l t) ey in
    inl (cc))
    p
hit_stamps x y c a q s (writes m l ex ey t) o p =
    store_stamps (view x) (view y) c q (hit_performed x y c a q s) (hit_stores x y c a q s (writes m l ex ey t) t.act o).0 p

own_read_sources : (x y : Settled) (c a : ℕ) (q : Record) (m : Bool) (l : Line) (t : ℕ) → IsOperation x y c a q → x.entry c a ≡ Some (Exclusive m l) → y.entry c a ≡ Some (Exclusive m (with_rts l t)) → IsRead x c q l → AgreeOnOwners x → AgreeOnOwners y → HasVersions (view x) → IsQuietSource (view x) (view (unlogged x y))
own_read_sources x y c a q m l t s ex ey is o oy v =
    let hx : home x a ≡ l = home_owned x o c a m l ex in
    let hy : home y a ≡ with_rts l t = home_owned y oy c a m (with_rts l t) ey in
    record {
      reached = grows x y c a q s (read_from x c q l is);
      source = λ b. elim (which b a) [ inl i ↦ rw (i, hx, hy) refl | inr n ↦ rw (read_home x y c a q s b n) refl ];
      home = λ b. elim (which b a) [ inl i ↦ rw (i, hy) (home_sourced x a l v hx) | inr n ↦ rw (read_home x y c a q s b n) (v.home_source b) ];
      copy = λ d b k e. inl (elim (which d c) [
        | inl i ↦ elim (which b a) [
          | inl j ↦ let w : copy_in (y.entry c a) ≡ Some k = rw (i, j) at e in let z : copy_in (y.entry c a) ≡ None = ap copy_in ey in absurd (cc)
          | inr n ↦ rw i (ap copy_in (sym (s.addrs b n)) ∙ rw i at e)
        ]
        | inr n ↦ ap copy_in (sym (s.cores d b n)) ∙ e
      ]);
    }

reading : (x y : Settled) (c a : ℕ) (q : Record) (l : Line) → IsOperation x y c a q → IsRead x c q l → IsSourced (view x) l.source a l.value l.stamps.wts l.stamps.wr →
    ((d j : ℕ) (p : Record) → Did (view x) d j p → p.addr ≡ a → is_store p.act ≡ true → NotAfter (view x) l.source d j p ⊎ (q.ts < p.ts)) → IsReading (view x) (view y) c q l
reading x y c a q l s t sourced others = record {
  read = t.read;
  act = t.act;
  sourced = rw s.addr sourced;
  after_time = omega (arith, t.ts);
  after_rank = λ e. rw t.rank (rank_tie q.ts (x.pts c) (x.r c) l.stamps.wts l.stamps.wr (sym e));
  others = λ d j p did e st. others d j p did (e ∙ s.addr) st;
  from = read_from x c q l t;
  to = s.to;
}

pub hit_versions : (x y : Settled) (c a : ℕ) (q : Record) → IsOperation x y c a q → IsHit x y c a q → AgreeOnOwners x → HasStamps (view x) → HasVersions (view x) → HasVersions (view y)
hit_versions x y c a q s (reads_copy k ex ey within t) o p v =
    let u : Settled = unlogged x y in
    let copy : copy_in (x.entry c a) ≡ Some k = ap copy_in ex in
    let below : q.ts ≤ k.stamps.rts = omega (arith, t.ts, within, p.copy_lease c a k copy) in
    let stay : Move x u = copy_read_stays x y c a q k s ex ey t in
    load_versions (view x) (view y) c q k (hit_performed x y c a q s) (move_quiet x u stay o p) (move_sources x u stay o p v)
    (reading x y c a q k s t (v.copy_source c a k copy)
    (λ d j z did e st. elim (v.copy_last c k d j z (rw e copy) did st) [ inl b ↦ inl b | inr lt ↦ inr (omega (arith, lt, below)) ]))
    v
hit_versions x y c a q s (reads_own m l t ex ey up le le' is) o p v =
    let oy : AgreeOnOwners y = hit_owns x y c a q s (reads_own m l t ex ey up le le' is) o in
    let hx : home x a ≡ l = home_owned x o c a m l ex in
    load_versions (view x) (view y) c q l (hit_performed x y c a q s) (own_read_quiet x y c a q m l t s ex ey up le' is o oy p) (own_read_sources x y c a q m l t s ex ey is o oy v)
    (reading x y c a q l s is (home_sourced x a l v hx)
    (λ d j z did e st. inl (subst (λ (w : Line). NotAfter (view x) w.source d j z) hx (subst (λ (b : ℕ). NotAfter (view x) (home x b).source d j z) e (v.last d j z did st)))))
    v
hit_versions x y c a q s (writes m l ex ey t) o p v =
    let z = hit_stores x y c a q s (writes m l ex ey t) t.act o in
    store_versions (view x) (view y) c q (hit_performed x y c a q s) z.0 z.1 p v
