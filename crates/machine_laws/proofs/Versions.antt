-- Passes 2 and 3: versions and ranks, over the same three steps. A source's place is at most its line's, and what was read is right.
use Rattle.std.proofs.Common.{◌≡◌, ◌++◌, ◌∷◌, [], length, zero, suc, ap, sym, subst, ◌∙◌, ℕ, ◌<◌, ◌≤◌, ◌⊎◌, inl, inr, true, false, List, refl, arith}
use Rattle.std.specs.Prelude.{Option, Some, slice_get}
use Rattle.std.proofs.lemmas.Option.{slice_get_within}
use Rattle.mem_op.specs.declared.id.Source.{Source}
use Rattle.mem_op.specs.declared.id.Source.TheVariants.{Init, Store}
use Rattle.line_stamps.specs.declared.line.Line.{Line}
use Rattle.log_record.specs.declared.record.Record.{Record}
use Rattle.address_check.specs.AddressFaults.{is_store}
use Rattle.machine_laws.specs.Views.{View, Did, read_of}
use Rattle.machine_laws.specs.Stamps.{HasStamps}
use Rattle.machine_laws.specs.Versions.{AtMost, Earlier, IsSourced, NotAfter, ComesFrom, IsRight, HasVersions}
use Rattle.machine_laws.proofs.Stamps.{IsQuiet, IsPerformed, before, which, IsStoring, store_above, not_both}

-- every operation of v is one of w
abbrev pub Keeps : View → View → Type 0
Keeps v w = (c i : ℕ) (q : Record) → Did v c i q → Did w c i q

pub keep_sourced : (v w : View) → Keeps v w → (s : Source) (a x t r : ℕ) → IsSourced v s a x t r → IsSourced w s a x t r
keep_sourced v w f Init a x t r e = e
keep_sourced v w f (Store id) a x t r e = record { store = e.store; did = f id.core id.index e.store e.did; act = e.act; addr = e.addr; value = e.value; place = e.place }

pub keep_not_after : (v w : View) → Keeps v w → (s : Source) (d j : ℕ) (p : Record) → NotAfter v s d j p → NotAfter w s d j p
keep_not_after v w f Init d j p e = e
keep_not_after v w f (Store id) d j p e = elim e [ inl same ↦ inl same | inr b ↦ inr (record { store = b.store; did = f id.core id.index b.store b.did; earlier = b.earlier }) ]

pub keep_from : (v w : View) → Keeps v w → (s : Source) (x c i : ℕ) (q : Record) → ComesFrom v s x c i q → ComesFrom w s x c i q
keep_from v w f Init x c i q e = e
keep_from v w f (Store id) x c i q e = record { store = e.store; did = f id.core id.index e.store e.did; act = e.act; addr = e.addr; value = e.value; earlier = e.earlier }

pub grow_sourced : (v : View) (s : Source) (a x t r t' r' : ℕ) → AtMost t r t' r' → IsSourced v s a x t r → IsSourced v s a x t' r'
grow_sourced v Init a x t r t' r' m e = e
grow_sourced v (Store id) a x t r t' r' m e = record { store = e.store; did = e.did; act = e.act; addr = e.addr; value = e.value; place = record { time = omega (arith, m.time, e.place.time); tie = λ h. omega (arith, m.time, e.place.time, m.tie, e.place.tie) } }

-- nothing is performed; sources stay
pub record IsQuietSource (v w : View) : Type 0 where
  pub reached : (c : ℕ) → AtMost (v.pts c) (v.r c) (w.pts c) (w.r c)
  pub source : (a : ℕ) → (w.home a).source ≡ (v.home a).source
  pub home : (a : ℕ) → IsSourced v (w.home a).source a (w.home a).value (w.home a).stamps.wts (w.home a).stamps.wr
  pub copy : (c a : ℕ) (k : Line) → w.copy c a ≡ Some k → (v.copy c a ≡ Some k) ⊎ ((k.source ≡ (v.home a).source) × IsSourced v k.source a k.value k.stamps.wts k.stamps.wr)

pub quiet_keeps : (v w : View) → IsQuiet v w → Keeps v w
quiet_keeps v w s c i q d = record { is = rw (s.log c) d.is }

pub quiet_back : (v w : View) → IsQuiet v w → Keeps w v
quiet_back v w s c i q d = record { is = rw (s.log c) at d.is }

quiet_right : (v w : View) → IsQuiet v w → (c i : ℕ) (q : Record) (s : Source) (x : ℕ) → IsRight v c i q s x → IsRight w c i q s x
quiet_right v w t c i q s x p = record {
  comes = keep_from v w (quiet_keeps v w t) s x c i q p.comes;
  others = λ d j y did e st. elim (p.others d j y (quiet_back v w t d j y did) e st) [
    | inl b ↦ inl (keep_not_after v w (quiet_keeps v w t) s d j y b)
    | inr l ↦ inr l
  ];
}

pub quiet_versions : (v w : View) → IsQuiet v w → IsQuietSource v w → HasVersions v → HasVersions w
quiet_versions v w t s p =
    let f : Keeps v w = quiet_keeps v w t in
    let g : Keeps w v = quiet_back v w t in
    record {
      reached = λ c i q d. let a = p.reached c i q (g c i q d) in let b = s.reached c in record { time = omega (arith, a.time, b.time); tie = λ h. omega (arith, a.time, b.time, a.tie, b.tie) };
      order = λ c i j x y dx dy l. p.order c i j x y (g c i x dx) (g c j y dy) l;
      home_source = λ a. keep_sourced v w f (w.home a).source a (w.home a).value (w.home a).stamps.wts (w.home a).stamps.wr (s.home a);
      copy_source = λ c a k e. keep_sourced v w f k.source a k.value k.stamps.wts k.stamps.wr (elim (s.copy c a k e) [ inl old ↦ p.copy_source c a k old | inr new ↦ new.1 ]);
      version = λ c a k e. elim (s.copy c a k e) [
        | inl old ↦ elim (p.version c a k old) [ inl same ↦ inl (same ∙ sym (s.source a)) | inr lt ↦ inr (omega (arith, lt, (t.home a).written)) ]
        | inr new ↦ inl (new.0 ∙ sym (s.source a))
      ];
      last = λ d j x did st. rw (s.source x.addr) (keep_not_after v w f (v.home x.addr).source d j x (p.last d j x (g d j x did) st));
      copy_last = λ c k d j x e did st. elim (s.copy c x.addr k e) [
        | inl old ↦ elim (p.copy_last c k d j x old (g d j x did) st) [ inl b ↦ inl (keep_not_after v w f k.source d j x b) | inr lt ↦ inr lt ]
        | inr new ↦ inl (rw new.0 (keep_not_after v w f (v.home x.addr).source d j x (p.last d j x (g d j x did) st)))
      ];
      right = λ c i q z x did e. quiet_right v w t c i q z x (p.right c i q z x (g c i q did) e);
    }

pub get-snoc_old : {A : Type 0} (xs : List A) (x y : A) (i : ℕ) → slice_get xs i ≡ Some y → slice_get (xs ++ x ∷ []) i ≡ Some y
get-snoc_old [] x y i e = absurd cc
get-snoc_old (z ∷ xs) x y zero e = e
get-snoc_old (z ∷ xs) x y (suc i) e = get-snoc_old xs x y i e

pub get-snoc_new : {A : Type 0} (xs : List A) (x : A) → slice_get (xs ++ x ∷ []) (length xs) ≡ Some x
get-snoc_new [] x = refl
get-snoc_new (z ∷ xs) x = get-snoc_new xs x

pub performed_keeps : (v w : View) (c : ℕ) (q : Record) → IsPerformed v w c q → Keeps v w
performed_keeps v w c q s d i p did = elim (which d c) [
  | inl same ↦ record { is = rw (same, s.own) (get-snoc_old (v.log c) q p i (rw same at did.is)) }
  | inr other ↦ record { is = rw (s.others d other) did.is }
]

pub performed_new : (v w : View) (c : ℕ) (q : Record) → IsPerformed v w c q → Did w c (length (v.log c)) q
performed_new v w c q s = record { is = rw s.own (get-snoc_new (v.log c) q) }

pub did_below : (v : View) (c i : ℕ) (q : Record) → Did v c i q → i < length (v.log c)
did_below v c i q d = slice_get_within (v.log c) i q d.is

order_performed : (v w : View) (c : ℕ) (q : Record) → IsPerformed v w c q → HasVersions v → AtMost (v.pts c) (v.r c) q.ts q.rank → (d i j : ℕ) (x y : Record) → Did w d i x → Did w d j y → i < j → AtMost x.ts x.rank y.ts y.rank
order_performed v w c q s p m d i j x y dx dy l = elim (before v w c q s d j y dy) [
  | inl old_y ↦ elim (before v w c q s d i x dx) [
    | inl old_x ↦ p.order d i j x y old_x old_y l
    | inr new_x ↦ absurd (omega (arith, l, new_x.index, did_below v c j y (rw new_x.core at old_y)))
  ]
  | inr new_y ↦ elim (before v w c q s d i x dx) [
    | inl old_x ↦
        let b : AtMost x.ts x.rank (v.pts c) (v.r c) = p.reached c i x (rw new_y.core at old_x) in
        rw new_y.same (record { time = omega (arith, b.time, m.time); tie = λ h. omega (arith, b.time, m.time, b.tie, m.tie) })
    | inr new_x ↦ absurd (omega (arith, l, new_x.index, new_y.index))
  ]
]

reached_performed : (v w : View) (c : ℕ) (q : Record) → IsPerformed v w c q → HasVersions v → ((d : ℕ) → AtMost (v.pts d) (v.r d) (w.pts d) (w.r d)) → AtMost q.ts q.rank (w.pts c) (w.r c) → (d i : ℕ) (x : Record) → Did w d i x → AtMost x.ts x.rank (w.pts d) (w.r d)
reached_performed v w c q s p grow m d i x did = elim (before v w c q s d i x did) [
  | inl old ↦ let a = p.reached d i x old in let b = grow d in record { time = omega (arith, a.time, b.time); tie = λ h. omega (arith, a.time, b.time, a.tie, b.tie) }
  | inr new ↦ rw (new.same, new.core) m
]

-- what core c's load q, its i-th operation, has read, where each store of the address is behind the source or after the load's stamp
pub record IsReading (v w : View) (c : ℕ) (q : Record) (k : Line) : Type 0 where
  pub read : read_of q ≡ Some (k.source, k.value)
  pub act : is_store q.act ≡ false
  pub sourced : IsSourced v k.source q.addr k.value k.stamps.wts k.stamps.wr
  pub after_time : k.stamps.wts ≤ q.ts
  pub after_rank : k.stamps.wts ≡ q.ts → k.stamps.wr < q.rank
  pub others : (d j : ℕ) (p : Record) → Did v d j p → p.addr ≡ q.addr → is_store p.act ≡ true → NotAfter v k.source d j p ⊎ (q.ts < p.ts)
  pub from : AtMost (v.pts c) (v.r c) q.ts q.rank
  pub to : AtMost q.ts q.rank (w.pts c) (w.r c)

comes_from : (v : View) (s : Source) (x t r c i : ℕ) (q : Record) → IsSourced v s q.addr x t r → t ≤ q.ts → (t ≡ q.ts → r < q.rank) → ComesFrom v s x c i q
comes_from v Init x t r c i q e time rank = e
comes_from v (Store id) x t r c i q e time rank = record {
  store = e.store;
  did = e.did;
  act = e.act;
  addr = e.addr;
  value = e.value;
  earlier = record {
    time = omega (arith, e.place.time, time);
    rank = λ h. omega (arith, e.place.time, time, e.place.tie, rank);
    core = λ h g. absurd (omega (arith, e.place.time, time, e.place.tie, rank));
    index = λ h g k. absurd (omega (arith, e.place.time, time, e.place.tie, rank));
  };
}

same_read : (s z : Source) (x y : ℕ) → (o : Option (Source × ℕ)) → o ≡ Some (s, x) → o ≡ Some (z, y) → (s ≡ z) × (x ≡ y)
same_read s z x y o e f = let h : ◌≡◌ {A = Source × ℕ} (s, x) (z, y) = cc in (ap (λ (p : Source × ℕ). p.0) h, ap (λ (p : Source × ℕ). p.1) h)

-- what was right stays right, where each new store is later
right_performed : (v w : View) (c : ℕ) (q : Record) → IsPerformed v w c q → (d i : ℕ) (x : Record) (z : Source) (y : ℕ) → (is_store q.act ≡ true → q.addr ≡ x.addr → Earlier d i x c (length (v.log c)) q) → IsRight v d i x z y → IsRight w d i x z y
right_performed v w c q s d i x z y later p = record {
  comes = keep_from v w (performed_keeps v w c q s) z y d i x p.comes;
  others = λ e j u did a st. elim (before v w c q s e j u did) [
    | inl old ↦ elim (p.others e j u old a st) [ inl b ↦ inl (keep_not_after v w (performed_keeps v w c q s) z e j u b) | inr l ↦ inr l ]
    | inr new ↦ inr (inr (rw (new.same, new.core, new.index) (later (rw new.same at st) (rw new.same at a))))
  ];
}

right_load : (v w : View) (c : ℕ) (q : Record) (k : Line) → IsPerformed v w c q → IsReading v w c q k → (i : ℕ) → IsRight w c i q k.source k.value
right_load v w c q k s t i = record {
  comes = keep_from v w (performed_keeps v w c q s) k.source k.value c i q (comes_from v k.source k.value k.stamps.wts k.stamps.wr c i q t.sourced t.after_time t.after_rank);
  others = λ d j p did e st. elim (before v w c q s d j p did) [
    | inl old ↦ elim (t.others d j p old e st) [
      | inl b ↦ inl (keep_not_after v w (performed_keeps v w c q s) k.source d j p b)
      | inr lt ↦ inr (inr (record { time = omega arith; rank = λ h. absurd (omega arith); core = λ h g. absurd (omega arith); index = λ h g l. absurd (omega arith) }))
    ]
    | inr new ↦ absurd (not_both q t.act (rw new.same at st))
  ];
}

pub load_versions : (v w : View) (c : ℕ) (q : Record) (k : Line) → IsPerformed v w c q → IsQuiet v (record w { log = v.log }) → IsQuietSource v (record w { log = v.log }) → IsReading v w c q k → HasVersions v → HasVersions w
load_versions v w c q k s quiet sources t p =
    let u : View = record w { log = v.log } in
    let m : HasVersions u = quiet_versions v u quiet sources p in
    let f : Keeps u w = λ d i x did. performed_keeps v w c q s d i x (record { is = did.is }) in
    record {
      reached = reached_performed v w c q s p sources.reached t.to;
      order = order_performed v w c q s p t.from;
      home_source = λ a. keep_sourced u w f (w.home a).source a (w.home a).value (w.home a).stamps.wts (w.home a).stamps.wr (m.home_source a);
      copy_source = λ d a l e. keep_sourced u w f l.source a l.value l.stamps.wts l.stamps.wr (m.copy_source d a l e);
      version = m.version;
      last = λ d j x did st. elim (before v w c q s d j x did) [
        | inl old ↦ keep_not_after u w f (w.home x.addr).source d j x (m.last d j x (record { is = old.is }) st)
        | inr new ↦ absurd (not_both q t.act (rw new.same at st))
      ];
      copy_last = λ d l e j x el did st. elim (before v w c q s e j x did) [
        | inl old ↦ elim (m.copy_last d l e j x el (record { is = old.is }) st) [ inl b ↦ inl (keep_not_after u w f l.source e j x b) | inr lt ↦ inr lt ]
        | inr new ↦ absurd (not_both q t.act (rw new.same at st))
      ];
      right = λ d i x z y did e. elim (before v w c q s d i x did) [
        | inl old ↦ right_performed v w c q s d i x z y (λ st. absurd (not_both q t.act st)) (p.right d i x z y old e)
        | inr new ↦
            let both : (z ≡ k.source) × (y ≡ k.value) = same_read z k.source y k.value (read_of q) (rw new.same at e) t.read in
            rw (new.same, new.core, both.0, both.1) (right_load v w c q k s t i)
      ];
    }

-- what a store leaves in its line
pub record IsStoringSource (v w : View) (c : ℕ) (q : Record) : Type 0 where
  pub own : (a : ℕ) → a ≡ q.addr → ((w.home a).source ≡ Store (record { core = c; index = length (v.log c) })) × ((w.home a).value ≡ q.value) × ((w.home a).stamps.wr ≡ q.rank)
  pub read : (s : Source) (x : ℕ) → read_of q ≡ Some (s, x) → (s ≡ (v.home q.addr).source) × (x ≡ (v.home q.addr).value)
  pub from : AtMost (v.pts c) (v.r c) q.ts q.rank
  pub to : AtMost q.ts q.rank (w.pts c) (w.r c)
  pub reached : (d : ℕ) → AtMost (v.pts d) (v.r d) (w.pts d) (w.r d)

-- a store's key is above that of each operation at its address
pub store_after : (v w : View) (c : ℕ) (q : Record) → IsStoring v w c q → IsStoringSource v w c q → HasStamps v → HasVersions v → (d j : ℕ) (x : Record) → x.addr ≡ q.addr → Did v d j x → Earlier d j x c (length (v.log c)) q
store_after v w c q t m p o d j x e did = elim (t.stamp x.addr e) [
  | inl above ↦ let b : x.ts < q.ts = omega (arith, above, p.bound d j x did) in record { time = omega arith; rank = λ h. absurd (omega arith); core = λ h g. absurd (omega arith); index = λ h g l. absurd (omega arith) }
  | inr own ↦ elim (p.dirty_first c d j x own.1 did) [
    | inl same ↦
        let a : AtMost x.ts x.rank (v.pts c) (v.r c) = o.reached c j x (rw same at did) in
        let n : j < length (v.log c) = did_below v c j x (rw same at did) in
        let f : AtMost (v.pts c) (v.r c) q.ts q.rank = m.from in
        record { time = omega (arith, a.time, f.time); rank = λ h. omega (arith, a.time, f.time, a.tie, f.tie); core = λ h g. omega arith; index = λ h g l. n }
    | inr lt ↦ let b : x.ts < q.ts = omega (arith, lt, p.lease x.addr, own.0) in record { time = omega arith; rank = λ h. absurd (omega arith); core = λ h g. absurd (omega arith); index = λ h g l. absurd (omega arith) }
  ]
]

store_from : (v w : View) (c : ℕ) (q : Record) → IsStoring v w c q → IsStoringSource v w c q → HasStamps v → HasVersions v → (s : Source) (x t r : ℕ) → IsSourced v s q.addr x t r → ComesFrom v s x c (length (v.log c)) q
store_from v w c q t m p o Init x tt' r e = e
store_from v w c q t m p o (Store id) x tt' r e = record { store = e.store; did = e.did; act = e.act; addr = e.addr; value = e.value; earlier = store_after v w c q t m p o id.core id.index e.store e.addr e.did }

-- pass 3: a swap reads the newest version
right_swap : (v w : View) (c : ℕ) (q : Record) → IsPerformed v w c q → IsStoring v w c q → IsStoringSource v w c q → HasStamps v → HasVersions v → IsRight w c (length (v.log c)) q (v.home q.addr).source (v.home q.addr).value
right_swap v w c q s t m p o =
    let h : Line = v.home q.addr in
    record {
      comes = keep_from v w (performed_keeps v w c q s) h.source h.value c (length (v.log c)) q (store_from v w c q t m p o h.source h.value h.stamps.wts h.stamps.wr (o.home_source q.addr));
      others = λ d j y did e st. elim (before v w c q s d j y did) [
        | inl old ↦ inl (keep_not_after v w (performed_keeps v w c q s) h.source d j y (subst (λ (a : ℕ). NotAfter v (v.home a).source d j y) e (o.last d j y old st)))
        | inr new ↦ inr (inl (new.core, new.index))
      ];
    }

pub store_versions : (v w : View) (c : ℕ) (q : Record) → IsPerformed v w c q → IsStoring v w c q → IsStoringSource v w c q → HasStamps v → HasVersions v → HasVersions w
store_versions v w c q s t m p o =
    let f : Keeps v w = performed_keeps v w c q s in
    let n : ℕ = length (v.log c) in
    let new_did : Did w c n q = performed_new v w c q s in
    record {
      reached = reached_performed v w c q s o m.reached m.to;
      order = order_performed v w c q s o m.from;
      home_source = λ a. elim (which a q.addr) [
        | inl e ↦ rw (m.own a e).0 (record { store = q; did = new_did; act = t.act; addr = sym e; value = sym (m.own a e).1; place = record { time = omega (arith, t.own a e); tie = λ h. omega (arith, (m.own a e).2) } })
        | inr d ↦ keep_sourced v w f (w.home a).source a (w.home a).value (w.home a).stamps.wts (w.home a).stamps.wr (rw (t.others a d) (o.home_source a))
      ];
      copy_source = λ d a k e. keep_sourced v w f k.source a k.value k.stamps.wts k.stamps.wr (o.copy_source d a k (t.copy d a k e));
      version = λ d a k e. elim (which a q.addr) [
        | inl g ↦ inr (omega (arith, t.own a g, store_above v w c q t p d a k g (t.copy d a k e)))
        | inr g ↦ rw (t.others a g) (o.version d a k (t.copy d a k e))
      ];
      last = λ d j x did st. elim (before v w c q s d j x did) [
        | inl old ↦ elim (which x.addr q.addr) [
          | inl e ↦ rw (m.own x.addr e).0 (inr (record { store = q; did = new_did; earlier = store_after v w c q t m p o d j x e old }))
          | inr e ↦ rw (t.others x.addr e) (keep_not_after v w f (v.home x.addr).source d j x (o.last d j x old st))
        ]
        | inr new ↦ rw (new.same, (m.own q.addr refl).0) (inl (new.core, new.index))
      ];
      copy_last = λ d k e j x ek did st. elim (before v w c q s e j x did) [
        | inl old ↦ elim (o.copy_last d k e j x (t.copy d x.addr k ek) old st) [ inl b ↦ inl (keep_not_after v w f k.source e j x b) | inr lt ↦ inr lt ]
        | inr new ↦ inr (rw new.same (store_above v w c q t p d q.addr k refl (t.copy d q.addr k (rw new.same at ek))))
      ];
      right = λ d i x z y did e. elim (before v w c q s d i x did) [
        | inl old ↦ right_performed v w c q s d i x z y (λ st a. store_after v w c q t m p o d i x (sym a) old) (o.right d i x z y old e)
        | inr new ↦
            let both : (z ≡ (v.home q.addr).source) × (y ≡ (v.home q.addr).value) = m.read z y (rw new.same at e) in
            rw (new.same, new.core, new.index, both.0, both.1) (right_swap v w c q s t m p o)
      ];
    }
