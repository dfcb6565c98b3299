-- Pass 1: stamps and leases, over three steps of a machine without messages: one that performs nothing, a load, and a store.
use Rattle.std.proofs.Common.{◌≡◌, ◌≢◌, ◌++◌, ◌∷◌, [], length, zero, suc, ap, sym, ◌∙◌, ℕ, ◌<◌, ◌≤◌, ◌⊎◌, inl, inr, true, false, List, refl, arith, max}
use Rattle.std.specs.Prelude.{Some, slice_get}
use Rattle.line_stamps.specs.declared.line.Line.{Line}
use Rattle.log_record.specs.declared.record.Record.{Record}
use Rattle.address_check.specs.AddressFaults.{is_store}
use Rattle.machine_laws.specs.Views.{View, Did}
use Rattle.machine_laws.specs.Stamps.{HasStamps}

-- the line of an address goes on, with stamps that only grow
pub record Follows (h h' : Line) : Type 0 where
  pub written : h.stamps.wts ≤ h'.stamps.wts
  pub read_to : h.stamps.rts ≤ h'.stamps.rts
  pub lease : h'.stamps.wts ≤ h'.stamps.rts

-- a copy taken from the line h, which goes on as h'
pub record Taken (h h' k : Line) : Type 0 where
  pub written : h.stamps.wts ≤ k.stamps.wts
  pub read_to : k.stamps.rts ≤ h'.stamps.rts
  pub lease : k.stamps.wts ≤ k.stamps.rts

-- nothing is performed
pub record IsQuiet (v w : View) : Type 0 where
  pub log : (c : ℕ) → w.log c ≡ v.log c
  pub pts : (c : ℕ) → v.pts c ≤ w.pts c
  pub home : (a : ℕ) → Follows (v.home a) (w.home a)
  pub copy : (c a : ℕ) (k : Line) → w.copy c a ≡ Some k → (v.copy c a ≡ Some k) ⊎ (Taken (v.home a) (w.home a) k × ((d : ℕ) → w.dirty d a ≡ false))
  pub dirty : (c a : ℕ) → w.dirty c a ≡ true → (v.dirty c a ≡ true) × ((w.home a).stamps.rts ≤ max (v.home a).stamps.rts (w.pts c))

quiet_did : (v w : View) → IsQuiet v w → (c i : ℕ) (q : Record) → Did w c i q → Did v c i q
quiet_did v w s c i q d = record { is = rw (s.log c) at d.is }

quiet_none_inside : (v w : View) → IsQuiet v w → HasStamps v → (c : ℕ) (k : Line) (d i : ℕ) (q : Record) → w.copy c q.addr ≡ Some k → Did v d i q → is_store q.act ≡ true → (q.ts ≤ k.stamps.wts) ⊎ (k.stamps.rts < q.ts)
quiet_none_inside v w s p c k d i q e did st = elim (s.copy c q.addr k e) [
  | inl old ↦ p.none_inside c k d i q old did st
  | inr made ↦ inl (omega (arith, p.newest d i q did st, made.0.written))
]

pub quiet_stamps : (v w : View) → IsQuiet v w → HasStamps v → HasStamps w
quiet_stamps v w s p = record {
  lease = λ a. (s.home a).lease;
  bound = λ c i q d. omega (arith, p.bound c i q (quiet_did v w s c i q d), (s.home q.addr).read_to);
  newest = λ c i q d st. omega (arith, p.newest c i q (quiet_did v w s c i q d) st, (s.home q.addr).written);
  copy_lease = λ c a k e. elim (s.copy c a k e) [ inl old ↦ p.copy_lease c a k old | inr made ↦ made.0.lease ];
  copy_bound = λ c a k e. elim (s.copy c a k e) [ inl old ↦ omega (arith, p.copy_bound c a k old, (s.home a).read_to) | inr made ↦ made.0.read_to ];
  none_inside = λ c k d i q e did st. quiet_none_inside v w s p c k d i q e (quiet_did v w s d i q did) st;
  dirty_own = λ c a e. omega (arith, (s.dirty c a e).1, p.dirty_own c a (s.dirty c a e).0, s.pts c);
  dirty_alone = λ c a e d k ek. elim (s.copy d a k ek) [ inl old ↦ omega (arith, p.dirty_alone c a (s.dirty c a e).0 d k old, (s.home a).written) | inr made ↦ absurd (cc (made.1 c)) ];
  dirty_first = λ c d i q e did. elim (p.dirty_first c d i q (s.dirty c q.addr e).0 (quiet_did v w s d i q did)) [ inl same ↦ inl same | inr lt ↦ inr (omega (arith, lt, (s.home q.addr).written)) ];
}

-- core c performs q
pub record IsPerformed (v w : View) (c : ℕ) (q : Record) : Type 0 where
  pub own : w.log c ≡ v.log c ++ q ∷ []
  pub others : (d : ℕ) → d ≢ c → w.log d ≡ v.log d

pub get-snoc : {A : Type 0} (xs : List A) (x y : A) (i : ℕ) → slice_get (xs ++ x ∷ []) i ≡ Some y → (slice_get xs i ≡ Some y) ⊎ ((y ≡ x) × (i ≡ length xs))
get-snoc [] x y zero e = inr (cc, refl)
get-snoc [] x y (suc i) e = absurd (cc)
get-snoc (z ∷ xs) x y zero e = inl e
get-snoc (z ∷ xs) x y (suc i) e = elim (get-snoc xs x y i e) [ inl old ↦ inl old | inr new ↦ inr (new.0, ap suc new.1) ]

pub which : (a b : ℕ) → (a ≡ b) ⊎ (a ≢ b)
which a b = grind arith

-- an operation after the step is one before it, or the new one
pub record IsNew (v : View) (c : ℕ) (q : Record) (d i : ℕ) (p : Record) : Type 0 where
  pub core : d ≡ c
  pub index : i ≡ length (v.log c)
  pub same : p ≡ q

pub before : (v w : View) (c : ℕ) (q : Record) → IsPerformed v w c q → (d i : ℕ) (p : Record) → Did w d i p → Did v d i p ⊎ IsNew v c q d i p
before v w c q s d i p did = elim (which d c) [
  | inl same ↦
      let there : slice_get (v.log c ++ q ∷ []) i ≡ Some p = rw (← s.own, ← same) did.is in
      elim (get-snoc (v.log c) q p i there) [
        | inl old ↦ inl (record { is = rw same old })
        | inr new ↦ inr (record { core = same; index = new.1; same = new.0 })
      ]
  | inr other ↦ inl (record { is = rw (s.others d other) at did.is })
]

pub not_both : (q : Record) → is_store q.act ≡ false → is_store q.act ≡ true → ⊥
not_both q f t = cc

-- a load whose stamp lies in the lease of the line
pub load_stamps : (v w : View) (c : ℕ) (q : Record) → IsPerformed v w c q → IsQuiet v (record w { log = v.log }) → is_store q.act ≡ false → q.ts ≤ (w.home q.addr).stamps.rts → ((d : ℕ) → w.dirty d q.addr ≡ true → (c ≡ d) ⊎ (q.ts < (w.home q.addr).stamps.wts)) → HasStamps v → HasStamps w
load_stamps v w c q s quiet load within first p =
    let u : View = record w { log = v.log } in
    let m : HasStamps u = quiet_stamps v u quiet p in
    record {
      lease = m.lease;
      bound = λ d i x did. elim (before v w c q s d i x did) [ inl old ↦ m.bound d i x (record { is = old.is }) | inr new ↦ rw new.same within ];
      newest = λ d i x did st. elim (before v w c q s d i x did) [ inl old ↦ m.newest d i x (record { is = old.is }) st | inr new ↦ absurd (not_both q load (rw new.same at st)) ];
      copy_lease = m.copy_lease;
      copy_bound = m.copy_bound;
      none_inside = λ e k d i x ek did st. elim (before v w c q s d i x did) [ inl old ↦ m.none_inside e k d i x ek (record { is = old.is }) st | inr new ↦ absurd (not_both q load (rw new.same at st)) ];
      dirty_own = m.dirty_own;
      dirty_alone = m.dirty_alone;
      dirty_first = λ e d i x ed did. elim (before v w c q s d i x did) [ inl old ↦ m.dirty_first e d i x ed (record { is = old.is }) | inr new ↦ rw (new.same, new.core) (first e (rw new.same at ed)) ];
    }

-- a store into the line that core c owns. Each field is said of every address that is q's, so that no proof rewrites by the equation
pub record IsStoring (v w : View) (c : ℕ) (q : Record) : Type 0 where
  pub act : is_store q.act ≡ true
  pub pts : (d : ℕ) → v.pts d ≤ w.pts d
  pub now : q.ts ≤ w.pts c
  pub own : (a : ℕ) → a ≡ q.addr → ((w.home a).stamps.wts ≡ q.ts) × ((w.home a).stamps.rts ≡ q.ts)
  pub others : (a : ℕ) → a ≢ q.addr → w.home a ≡ v.home a
  pub stamp : (a : ℕ) → a ≡ q.addr → ((v.home a).stamps.rts < q.ts) ⊎ (((v.home a).stamps.rts ≤ q.ts) × (v.dirty c a ≡ true))
  pub copy : (d a : ℕ) (k : Line) → w.copy d a ≡ Some k → v.copy d a ≡ Some k
  pub dirty : (d a : ℕ) → w.dirty d a ≡ true → ((a ≡ q.addr) × (d ≡ c)) ⊎ ((a ≢ q.addr) × (v.dirty d a ≡ true))

-- every stamp of the address is at most the store's
pub store_last : (v w : View) (c : ℕ) (q : Record) → IsStoring v w c q → HasStamps v → (a : ℕ) → a ≡ q.addr → ((v.home a).stamps.wts ≤ q.ts) × ((v.home a).stamps.rts ≤ q.ts)
store_last v w c q s p a e = elim (s.stamp a e) [
  | inl above ↦ (omega (arith, p.lease a), omega arith)
  | inr own ↦ (omega (arith, p.lease a, own.0), own.0)
]

-- and above each lease
pub store_above : (v w : View) (c : ℕ) (q : Record) → IsStoring v w c q → HasStamps v → (d a : ℕ) (k : Line) → a ≡ q.addr → v.copy d a ≡ Some k → k.stamps.rts < q.ts
store_above v w c q s p d a k e ek = elim (s.stamp a e) [
  | inl above ↦ omega (arith, p.copy_bound d a k ek)
  | inr own ↦ omega (arith, p.lease a, own.0, p.dirty_alone c a own.1 d k ek)
]

store_first : (v w : View) (c : ℕ) (q : Record) → IsStoring v w c q → HasStamps v → (d i : ℕ) (x : Record) → x.addr ≡ q.addr → Did v d i x → (d ≡ c) ⊎ (x.ts < q.ts)
store_first v w c q s p d i x e did = elim (s.stamp x.addr e) [
  | inl above ↦ inr (omega (arith, p.bound d i x did))
  | inr own ↦ elim (p.dirty_first c d i x own.1 did) [ inl same ↦ inl same | inr lt ↦ inr (omega (arith, lt, p.lease x.addr, own.0)) ]
]

pub store_stamps : (v w : View) (c : ℕ) (q : Record) → IsPerformed v w c q → IsStoring v w c q → HasStamps v → HasStamps w
store_stamps v w c q s t p = record {
  lease = λ a. elim (which a q.addr) [ inl e ↦ omega (arith, t.own a e) | inr n ↦ rw (t.others a n) (p.lease a) ];
  bound = λ d i x did. elim (before v w c q s d i x did) [
    | inl old ↦ elim (which x.addr q.addr) [ inl e ↦ omega (arith, t.own x.addr e, store_last v w c q t p x.addr e, p.bound d i x old) | inr n ↦ rw (t.others x.addr n) (p.bound d i x old) ]
    | inr new ↦ rw new.same (omega (arith, t.own q.addr refl))
  ];
  newest = λ d i x did st. elim (before v w c q s d i x did) [
    | inl old ↦ elim (which x.addr q.addr) [ inl e ↦ omega (arith, t.own x.addr e, store_last v w c q t p x.addr e, p.newest d i x old st) | inr n ↦ rw (t.others x.addr n) (p.newest d i x old st) ]
    | inr new ↦ rw new.same (omega (arith, t.own q.addr refl))
  ];
  copy_lease = λ d a k ek. p.copy_lease d a k (t.copy d a k ek);
  copy_bound = λ d a k ek. elim (which a q.addr) [ inl e ↦ omega (arith, t.own a e, store_above v w c q t p d a k e (t.copy d a k ek)) | inr n ↦ rw (t.others a n) (p.copy_bound d a k (t.copy d a k ek)) ];
  none_inside = λ e k d i x ek did st. elim (before v w c q s d i x did) [
    | inl old ↦ p.none_inside e k d i x (t.copy e x.addr k ek) old st
    | inr new ↦ inr (rw new.same (store_above v w c q t p e q.addr k refl (t.copy e q.addr k (rw new.same at ek))))
  ];
  dirty_own = λ d a ed. elim (t.dirty d a ed) [
    | inl own ↦ let now : q.ts ≤ w.pts d = rw own.1 t.now in omega (arith, t.own a own.0, now)
    | inr other ↦ rw (t.others a other.0) (omega (arith, p.dirty_own d a other.1, t.pts d))
  ];
  dirty_alone = λ d a ed b k ek. elim (t.dirty d a ed) [
    | inl own ↦ omega (arith, t.own a own.0, store_above v w c q t p b a k own.0 (t.copy b a k ek))
    | inr other ↦ rw (t.others a other.0) (p.dirty_alone d a other.1 b k (t.copy b a k ek))
  ];
  dirty_first = λ b d i x ed did. elim (t.dirty b x.addr ed) [
    | inl own ↦ elim (before v w c q s d i x did) [
      | inl old ↦ elim (store_first v w c q t p d i x own.0 old) [ inl same ↦ inl (same ∙ sym own.1) | inr lt ↦ inr (omega (arith, lt, t.own x.addr own.0)) ]
      | inr new ↦ inl (new.core ∙ sym own.1)
    ]
    | inr other ↦ elim (before v w c q s d i x did) [
      | inl old ↦ rw (t.others x.addr other.0) (p.dirty_first b d i x other.1 old)
      | inr new ↦ absurd (other.0 (ap (λ (y : Record). y.addr) new.same))
    ]
  ];
}
