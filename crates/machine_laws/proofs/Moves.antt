-- The steps of the machine without messages by which nothing is performed, and that they keep the agreement on owners.
use Rattle.std.proofs.Common.{◌≡◌, ◌≢◌, ap, sym, subst, ◌∙◌, ℕ, ◌≤◌, ◌⊎◌, inl, inr, Bool, true, false, refl, arith}
use Rattle.std.specs.Prelude.{Option, Some, None}
use Rattle.line_stamps.specs.declared.line.Line.{Line}
use Rattle.line_stamps.specs.declared.message.RecallKind.{RecallKind}
use Rattle.line_stamps.specs.declared.message.RecallKind.TheVariants.{WriteBack, Flush}
use Rattle.private_cache.specs.Table.{with_rts, left}
use Rattle.private_cache.specs.declared.held.Held.{Held}
use Rattle.private_cache.specs.declared.held.Held.TheVariants.{Shared, Exclusive}
use Rattle.manager_slice.specs.declared.managed.ManagedLine.{ManagedLine}
use Rattle.manager_slice.specs.declared.managed.ManagedLine.TheVariants as managed
use Rattle.machine_laws.specs.Stamps.{HasStamps}
use Rattle.machine_laws.specs.Versions.{AtMost, HasVersions, IsSourced}
use Rattle.machine_laws.specs.Settled.{Settled, line_in, copy_in, is_dirty, home_from, home, view}
use Rattle.machine_laws.specs.Hands.{AgreeOnOwners}
use Rattle.machine_laws.proofs.Stamps.{IsQuiet, Follows, Taken, which}
use Rattle.machine_laws.proofs.Versions.{IsQuietSource}
use Rattle.machine_laws.proofs.Agreeing.{agree_on_versions}

-- x and y differ at most in what core c has of the address a, and in what its slice has of a
pub record IsElsewhere (x y : Settled) (c a : ℕ) : Type 0 where
  pub cores : (d b : ℕ) → d ≢ c → y.entry d b ≡ x.entry d b
  pub addrs : (b : ℕ) → b ≢ a → y.entry c b ≡ x.entry c b
  pub managed : (b : ℕ) → b ≢ a → y.managed b ≡ x.managed b
  pub pts : (d : ℕ) → y.pts d ≡ x.pts d
  pub r : (d : ℕ) → y.r d ≡ x.r d
  pub log : (d : ℕ) → y.log d ≡ x.log d

pub elsewhere_entry : (x y : Settled) (c a : ℕ) → IsElsewhere x y c a → (d b : ℕ) → b ≢ a → y.entry d b ≡ x.entry d b
elsewhere_entry x y c a s d b n = elim (which d c) [ inl e ↦ rw e (s.addrs b n) | inr o ↦ s.cores d b o ]

pub home_from_same : (m : ManagedLine) (f g : ℕ → Option Held) → ((d : ℕ) → f d ≡ g d) → home_from m f ≡ home_from m g
home_from_same (managed.Shared l) f g e = refl
home_from_same (managed.Exclusive c) f g e = ap line_in (e c)

pub home_same : (x y : Settled) (a : ℕ) → y.managed a ≡ x.managed a → ((d : ℕ) → y.entry d a ≡ x.entry d a) → home y a ≡ home x a
home_same x y a e f = rw e (home_from_same (x.managed a) (λ d. y.entry d a) (λ d. x.entry d a) f)

pub home_elsewhere : (x y : Settled) (c a : ℕ) → IsElsewhere x y c a → (b : ℕ) → b ≢ a → home y b ≡ home x b
home_elsewhere x y c a s b n = home_same x y b (s.managed b n) (λ d. elsewhere_entry x y c a s d b n)

pub home_common : (x : Settled) (a : ℕ) (l : Line) → x.managed a ≡ managed.Shared l → home x a ≡ l
home_common x a l e = rw e refl

pub home_owned : (x : Settled) → AgreeOnOwners x → (c a : ℕ) (m : Bool) (l : Line) → x.entry c a ≡ Some (Exclusive m l) → home x a ≡ l
home_owned x o c a m l e = rw (o.owner c a m l e, e) refl

pub dirty_is : (h : Option Held) → is_dirty h ≡ true → (l : Line) × (h ≡ Some (Exclusive true l))
dirty_is None e = absurd cc
dirty_is (Some (Shared l)) e = absurd cc
dirty_is (Some (Exclusive m l)) e = (l, cc)

pub bool_cases : (b : Bool) → (b ≡ true) ⊎ (b ≡ false)
bool_cases true = inl refl
bool_cases false = inr refl

-- where nobody owns the line, nobody has modified it
pub clean_common : (y : Settled) → AgreeOnOwners y → (a : ℕ) (l : Line) → y.managed a ≡ managed.Shared l → (d : ℕ) → is_dirty (y.entry d a) ≡ false
clean_common y o a l e d = elim (bool_cases (is_dirty (y.entry d a))) [
  | inl t ↦ let z = dirty_is (y.entry d a) t in let n : y.managed a ≡ managed.Exclusive d = o.owner d a true z.0 z.1 in absurd (cc)
  | inr f ↦ f
]

pub clean_owned : (y : Settled) → AgreeOnOwners y → (c a : ℕ) (k : Line) → y.entry c a ≡ Some (Exclusive false k) → (d : ℕ) → is_dirty (y.entry d a) ≡ false
clean_owned y o c a k e d = elim (bool_cases (is_dirty (y.entry d a))) [
  | inl t ↦
      let z = dirty_is (y.entry d a) t in
      let n : y.managed a ≡ managed.Exclusive d = o.owner d a true z.0 z.1 in
      let p : y.managed a ≡ managed.Exclusive c = o.owner c a false k e in
      let same : d ≡ c = cc in
      let w : y.entry c a ≡ Some (Exclusive true z.0) = subst (λ (u : ℕ). y.entry u a ≡ Some (Exclusive true z.0)) same z.1 in
      absurd (cc)
  | inr f ↦ f
]

pub owns_local : (x y : Settled) (c a : ℕ) → IsElsewhere x y c a → AgreeOnOwners x →
    ((m : Bool) (l : Line) → y.entry c a ≡ Some (Exclusive m l) → y.managed a ≡ managed.Exclusive c) →
    ((d : ℕ) → d ≢ c → x.managed a ≡ managed.Exclusive d → y.managed a ≡ managed.Exclusive d) →
    (y.managed a ≡ managed.Exclusive c → (m : Bool) × (l : Line) × (y.entry c a ≡ Some (Exclusive m l))) →
    ((d : ℕ) → d ≢ c → y.managed a ≡ managed.Exclusive d → x.managed a ≡ managed.Exclusive d) → AgreeOnOwners y
owns_local x y c a s o own others owned back = record {
  owner = λ d b m l e. elim (which b a) [
    | inl i ↦ elim (which d c) [
      | inl j ↦ rw (i, j) (own m l (subst (λ (u : ℕ). y.entry c u ≡ Some (Exclusive m l)) i (subst (λ (u : ℕ). y.entry u b ≡ Some (Exclusive m l)) j e)))
      | inr j ↦ rw i (others d j (o.owner d a m l (sym (s.cores d a j) ∙ subst (λ (u : ℕ). y.entry d u ≡ Some (Exclusive m l)) i e)))
    ]
    | inr i ↦ s.managed b i ∙ o.owner d b m l (sym (elsewhere_entry x y c a s d b i) ∙ e)
  ];
  owned = λ d b e. elim (which b a) [
    | inl i ↦ elim (which d c) [
      | inl j ↦ rw (i, j) (owned (subst (λ (u : ℕ). y.managed a ≡ managed.Exclusive u) j (subst (λ (u : ℕ). y.managed u ≡ managed.Exclusive d) i e)))
      | inr j ↦ let z = o.owned d a (back d j (subst (λ (u : ℕ). y.managed u ≡ managed.Exclusive d) i e)) in rw i (z.0, z.1, s.cores d a j ∙ z.2)
    ]
    | inr i ↦ let z = o.owned d b (sym (s.managed b i) ∙ e) in (z.0, z.1, elsewhere_entry x y c a s d b i ∙ z.2)
  ];
}

clash : (b : Bool) → b ≡ true → b ≡ false → ⊥
clash b e f = cc

-- a step at one core and address after which nobody has modified the line
pub quiet_clean : (x y : Settled) (c a : ℕ) → IsElsewhere x y c a → HasStamps (view x) → Follows (home x a) (home y a) → ((d : ℕ) → is_dirty (y.entry d a) ≡ false) →
    ((k : Line) → copy_in (y.entry c a) ≡ Some k → (copy_in (x.entry c a) ≡ Some k) ⊎ Taken (home x a) (home y a) k) → IsQuiet (view x) (view y)
quiet_clean x y c a s p follows clean copies = record {
  log = s.log;
  pts = λ d. omega (arith, s.pts d);
  home = λ b. elim (which b a) [ inl e ↦ rw e follows | inr n ↦ rw (home_elsewhere x y c a s b n) (record { written = omega arith; read_to = omega arith; lease = p.lease b }) ];
  copy = λ d b k e. elim (which b a) [
    | inl i ↦ elim (which d c) [
      | inl j ↦ rw (i, j) (elim (copies k (rw (i, j) at e)) [ inl old ↦ inl old | inr new ↦ inr (new, clean) ])
      | inr j ↦ inl (ap copy_in (sym (s.cores d b j)) ∙ e)
    ]
    | inr n ↦ inl (ap copy_in (sym (elsewhere_entry x y c a s d b n)) ∙ e)
  ];
  dirty = λ d b e. elim (which b a) [
    | inl i ↦ absurd (clash (is_dirty (y.entry d b)) e (rw i (clean d)))
    | inr n ↦ (ap is_dirty (sym (elsewhere_entry x y c a s d b n)) ∙ e, rw (home_elsewhere x y c a s b n) (omega arith))
  ];
}

pub sources_clean : (x y : Settled) (c a : ℕ) → IsElsewhere x y c a → HasVersions (view x) → (home y a).source ≡ (home x a).source →
    IsSourced (view x) (home y a).source a (home y a).value (home y a).stamps.wts (home y a).stamps.wr →
    ((k : Line) → copy_in (y.entry c a) ≡ Some k → (copy_in (x.entry c a) ≡ Some k) ⊎ ((k.source ≡ (home x a).source) × IsSourced (view x) k.source a k.value k.stamps.wts k.stamps.wr)) → IsQuietSource (view x) (view y)
sources_clean x y c a s p source homes copies = record {
  reached = λ d. record { time = omega (arith, s.pts d); tie = λ h. omega (arith, s.r d) };
  source = λ b. elim (which b a) [ inl e ↦ rw e source | inr n ↦ rw (home_elsewhere x y c a s b n) refl ];
  home = λ b. elim (which b a) [ inl e ↦ rw e homes | inr n ↦ rw (home_elsewhere x y c a s b n) (p.home_source b) ];
  copy = λ d b k e. elim (which b a) [
    | inl i ↦ elim (which d c) [
      | inl j ↦ rw (i, j) (copies k (rw (i, j) at e))
      | inr j ↦ inl (ap copy_in (sym (s.cores d b j)) ∙ e)
    ]
    | inr n ↦ inl (ap copy_in (sym (elsewhere_entry x y c a s d b n)) ∙ e)
  ];
}

left_shared : (kind : RecallKind) (l : Line) (m : Bool) (k : Line) → left kind l ≡ Some (Exclusive m k) → ⊥
left_shared WriteBack l m k e = cc
left_shared Flush l m k e = cc

-- what core c gets of the line l, with the lease t: the line, or its copy of the same version
pub data IsServed (x : Settled) (c a : ℕ) (l : Line) (t : ℕ) : Line → Type 0 where
  whole : IsServed x c a l t (with_rts l t)
  renewed : (k : Line) → x.entry c a ≡ Some (Shared k) → k.stamps.wts ≡ l.stamps.wts → IsServed x c a l t (with_rts k t)

pub served_wts : (x : Settled) (c a : ℕ) (l : Line) (t : ℕ) (k : Line) → IsServed x c a l t k → k.stamps.wts ≡ l.stamps.wts
served_wts x c a l t k whole = refl
served_wts x c a l t k (renewed k0 e w) = w

pub served_rts : (x : Settled) (c a : ℕ) (l : Line) (t : ℕ) (k : Line) → IsServed x c a l t k → k.stamps.rts ≡ t
served_rts x c a l t k whole = refl
served_rts x c a l t k (renewed k0 e w) = refl

pub served_source : (x : Settled) (c a : ℕ) (l : Line) (t : ℕ) (k : Line) → HasStamps (view x) → HasVersions (view x) → home x a ≡ l → IsServed x c a l t k → (k.source ≡ l.source) × IsSourced (view x) k.source a k.value k.stamps.wts k.stamps.wr
served_source x c a l t k p o h whole = (refl, subst (λ (u : Line). IsSourced (view x) u.source a u.value u.stamps.wts u.stamps.wr) h (o.home_source a))
served_source x c a l t k p o h (renewed k0 e w) =
    let copy : copy_in (x.entry c a) ≡ Some k0 = ap copy_in e in
    (((agree_on_versions (view x) p o).home c a k0 copy (w ∙ ap (λ (u : Line). u.stamps.wts) (sym h))).source ∙ ap (λ (u : Line). u.source) h, o.copy_source c a k0 copy)

pub data Move (x y : Settled) : Type 0 where
  -- nothing is changed
  stays : ((c a : ℕ) → y.entry c a ≡ x.entry c a) → ((a : ℕ) → y.managed a ≡ x.managed a) → ((c : ℕ) → AtMost (x.pts c) (x.r c) (y.pts c) (y.r c)) → ((c : ℕ) → y.log c ≡ x.log c) → Move x y
  -- a core lets its copy go
  drops : (c a : ℕ) (k : Line) → IsElsewhere x y c a → x.entry c a ≡ Some (Shared k) → y.entry c a ≡ None → y.managed a ≡ x.managed a → Move x y
  -- an owner gets its line ready to be given back
  raises : (c a : ℕ) (m : Bool) (l : Line) (t : ℕ) → IsElsewhere x y c a → x.entry c a ≡ Some (Exclusive m l) → y.entry c a ≡ Some (Exclusive false (with_rts l t)) → l.stamps.rts ≤ t → y.managed a ≡ x.managed a → Move x y
  -- an owner gives its line back
  gives : (c a : ℕ) (m : Bool) (l : Line) (kind : RecallKind) → IsElsewhere x y c a → x.entry c a ≡ Some (Exclusive m l) → y.entry c a ≡ left kind l → y.managed a ≡ managed.Shared l → Move x y
  shares : (c a : ℕ) (l k : Line) (t : ℕ) → IsElsewhere x y c a → x.managed a ≡ managed.Shared l → y.managed a ≡ managed.Shared (with_rts l t) → l.stamps.rts ≤ t → IsServed x c a l t k → y.entry c a ≡ Some (Shared k) → Move x y
  owns : (c a : ℕ) (l k : Line) → IsElsewhere x y c a → x.managed a ≡ managed.Shared l → y.managed a ≡ managed.Exclusive c → IsServed x c a l l.stamps.rts k → y.entry c a ≡ Some (Exclusive false k) → Move x y

pub move_owns : (x y : Settled) → Move x y → AgreeOnOwners x → AgreeOnOwners y
move_owns x y (stays entry lines at_most log) o = record {
  owner = λ c a m l e. lines a ∙ o.owner c a m l (sym (entry c a) ∙ e);
  owned = λ c a e. let z = o.owned c a (sym (lines a) ∙ e) in (z.0, z.1, entry c a ∙ z.2);
}
move_owns x y (drops c a k s ex ey d) o = owns_local x y c a s o
    (λ m l e. absurd cc)
    (λ b n e. d ∙ e)
    (λ e. let z = o.owned c a (sym d ∙ e) in let w : x.entry c a ≡ Some (Exclusive z.0 z.1) = z.2 in absurd cc)
    (λ b n e. sym d ∙ e)
move_owns x y (raises c a m l t s ex ey le d) o = owns_local x y c a s o
    (λ m' l' e. d ∙ o.owner c a m l ex)
    (λ b n e. d ∙ e)
    (λ e. (false, with_rts l t, ey))
    (λ b n e. sym d ∙ e)
move_owns x y (gives c a m l kind s ex ey d) o = owns_local x y c a s o
    (λ m' l' e. absurd (left_shared kind l m' l' (sym ey ∙ e)))
    (λ b n e. let w : x.managed a ≡ managed.Exclusive c = o.owner c a m l ex in absurd (n (cc)))
    (λ e. absurd cc)
    (λ b n e. absurd cc)
move_owns x y (shares c a l k t s dx dy le served ey) o = owns_local x y c a s o
    (λ m' l' e. absurd cc)
    (λ b n e. absurd cc)
    (λ e. absurd cc)
    (λ b n e. absurd cc)
move_owns x y (owns c a l k s dx dy served ey) o = owns_local x y c a s o
    (λ m' l' e. dy)
    (λ b n e. absurd cc)
    (λ e. (false, k, ey))
    (λ b n e. absurd (n (cc)))
