-- Each such step is quiet for both passes.
use Rattle.std.proofs.Common.{◌≡◌, ap, sym, subst, ◌∙◌, ℕ, ◌≤◌, ◌⊎◌, inl, inr, true, false, refl, arith}
use Rattle.std.specs.Prelude.{Some, None}
use Rattle.line_stamps.specs.declared.line.Line.{Line}
use Rattle.line_stamps.specs.declared.message.RecallKind.{RecallKind}
use Rattle.line_stamps.specs.declared.message.RecallKind.TheVariants.{WriteBack, Flush}
use Rattle.private_cache.specs.Table.{with_rts, left}
use Rattle.private_cache.specs.declared.held.Held.TheVariants.{Shared, Exclusive}
use Rattle.manager_slice.specs.declared.managed.ManagedLine.{ManagedLine}
use Rattle.manager_slice.specs.declared.managed.ManagedLine.TheVariants as managed
use Rattle.machine_laws.specs.Stamps.{HasStamps}
use Rattle.machine_laws.specs.Versions.{HasVersions, IsSourced}
use Rattle.machine_laws.specs.Settled.{Settled, home, view, copy_in, is_dirty}
use Rattle.machine_laws.specs.Hands.{AgreeOnOwners}
use Rattle.machine_laws.proofs.Stamps.{IsQuiet, Follows, which}
use Rattle.machine_laws.proofs.Versions.{IsQuietSource, grow_sourced}
use Rattle.machine_laws.proofs.Moves.{IsElsewhere, elsewhere_entry, home_same, home_elsewhere, home_common, home_owned, clean_common, clean_owned, quiet_clean, sources_clean, served_wts, served_rts, served_source, Move, stays, drops, raises, gives, shares, owns, move_owns}

-- the same line, and so the same facts
pub follow_same : (h h' : Line) → h' ≡ h → h.stamps.wts ≤ h.stamps.rts → Follows h h'
follow_same h h' e l = rw e (record { written = omega arith; read_to = omega arith; lease = l })

-- nothing but what core c has of a, and that is not there
drop_home : (x y : Settled) (c a : ℕ) (k : Line) → AgreeOnOwners x → IsElsewhere x y c a → x.entry c a ≡ Some (Shared k) → y.managed a ≡ x.managed a → home y a ≡ home x a
drop_home x y c a k o s ex d = go (x.managed a) refl
  where
    go : (m : ManagedLine) → x.managed a ≡ m → home y a ≡ home x a
    go (managed.Shared l) e = rw (d, e) refl
    go (managed.Exclusive b) e = elim (which b c) [
      | inl i ↦ let z = o.owned c a (e ∙ ap managed.Exclusive i) in let w : x.entry c a ≡ Some (Exclusive z.0 z.1) = z.2 in absurd cc
      | inr n ↦ rw (d, e, s.cores b a n) refl
    ]

drop_quiet : (x y : Settled) (c a : ℕ) (k : Line) → AgreeOnOwners x → HasStamps (view x) → IsElsewhere x y c a → x.entry c a ≡ Some (Shared k) → y.entry c a ≡ None → y.managed a ≡ x.managed a → IsQuiet (view x) (view y)
drop_quiet x y c a k o p s ex ey d =
    let same : home y a ≡ home x a = drop_home x y c a k o s ex d in
    let homes : (b : ℕ) → home y b ≡ home x b = λ b. elim (which b a) [ inl e ↦ rw e same | inr n ↦ home_elsewhere x y c a s b n ] in
    record {
      log = s.log;
      pts = λ e. omega (arith, s.pts e);
      home = λ b. follow_same (home x b) (home y b) (homes b) (p.lease b);
      copy = λ e b l q. elim (which b a) [
        | inl i ↦ elim (which e c) [
          | inl j ↦ let w : copy_in (y.entry c a) ≡ Some l = rw (i, j) at q in let z : copy_in (y.entry c a) ≡ None = ap copy_in ey in absurd (cc)
          | inr j ↦ inl (ap copy_in (sym (s.cores e b j)) ∙ q)
        ]
        | inr n ↦ inl (ap copy_in (sym (elsewhere_entry x y c a s e b n)) ∙ q)
      ];
      dirty = λ e b q. elim (which b a) [
        | inl i ↦ elim (which e c) [
          | inl j ↦ let w : is_dirty (y.entry c a) ≡ true = rw (i, j) at q in let z : is_dirty (y.entry c a) ≡ false = ap is_dirty ey in absurd (cc)
          | inr j ↦ (ap is_dirty (sym (s.cores e b j)) ∙ q, rw (homes b) (omega arith))
        ]
        | inr n ↦ (ap is_dirty (sym (elsewhere_entry x y c a s e b n)) ∙ q, rw (homes b) (omega arith))
      ];
    }

left_is : (kind : RecallKind) (l k : Line) → copy_in (left kind l) ≡ Some k → k ≡ l
left_is WriteBack l k e = cc
left_is Flush l k e = absurd cc

stay_home : (x y : Settled) → ((c a : ℕ) → y.entry c a ≡ x.entry c a) → ((a : ℕ) → y.managed a ≡ x.managed a) → (a : ℕ) → home y a ≡ home x a
stay_home x y entry lines a = home_same x y a (lines a) (λ c. entry c a)

pub move_quiet : (x y : Settled) → Move x y → AgreeOnOwners x → HasStamps (view x) → IsQuiet (view x) (view y)
move_quiet x y (stays entry lines at_most log) o p = record {
  log = log;
  pts = λ c. (at_most c).time;
  home = λ a. follow_same (home x a) (home y a) (stay_home x y entry lines a) (p.lease a);
  copy = λ c a k e. inl (ap copy_in (sym (entry c a)) ∙ e);
  dirty = λ c a e. (ap is_dirty (sym (entry c a)) ∙ e, rw (stay_home x y entry lines a) (omega arith));
}
move_quiet x y (drops c a k s ex ey d) o p = drop_quiet x y c a k o p s ex ey d
move_quiet x y (raises c a m l t s ex ey le d) o p =
    let q : AgreeOnOwners y = move_owns x y (raises c a m l t s ex ey le d) o in
    let hx : home x a ≡ l = home_owned x o c a m l ex in
    let hy : home y a ≡ with_rts l t = home_owned y q c a false (with_rts l t) ey in
    let lease : l.stamps.wts ≤ l.stamps.rts = rw hx at (p.lease a) in
    quiet_clean x y c a s p (rw (hx, hy) (record { written = omega arith; read_to = le; lease = omega arith })) (clean_owned y q c a (with_rts l t) ey)
    (λ k e. absurd (let z : copy_in (y.entry c a) ≡ None = ap copy_in ey in cc))
move_quiet x y (gives c a m l kind s ex ey d) o p =
    let q : AgreeOnOwners y = move_owns x y (gives c a m l kind s ex ey d) o in
    let hx : home x a ≡ l = home_owned x o c a m l ex in
    let hy : home y a ≡ l = home_common y a l d in
    let lease : l.stamps.wts ≤ l.stamps.rts = rw hx at (p.lease a) in
    quiet_clean x y c a s p (rw (hx, hy) (record { written = omega arith; read_to = omega arith; lease = lease })) (clean_common y q a l d)
    (λ k e. inr (rw (hx, hy, left_is kind l k (sym (ap copy_in ey) ∙ e)) (record { written = omega arith; read_to = omega arith; lease = lease })))
move_quiet x y (shares c a l k t s dx dy le served ey) o p =
    let q : AgreeOnOwners y = move_owns x y (shares c a l k t s dx dy le served ey) o in
    let hx : home x a ≡ l = home_common x a l dx in
    let hy : home y a ≡ with_rts l t = home_common y a (with_rts l t) dy in
    let lease : l.stamps.wts ≤ l.stamps.rts = rw hx at (p.lease a) in
    quiet_clean x y c a s p (rw (hx, hy) (record { written = omega arith; read_to = le; lease = omega arith })) (clean_common y q a (with_rts l t) dy)
    (λ j e.
    let z : copy_in (y.entry c a) ≡ Some k = ap copy_in ey in
    let i : j ≡ k = cc in
    inr (rw (hx, hy, i) (record { written = omega (arith, served_wts x c a l t k served); read_to = omega (arith, served_rts x c a l t k served); lease = omega (arith, served_wts x c a l t k served, served_rts x c a l t k served) })))
move_quiet x y (owns c a l k s dx dy served ey) o p =
    let q : AgreeOnOwners y = move_owns x y (owns c a l k s dx dy served ey) o in
    let hx : home x a ≡ l = home_common x a l dx in
    let hy : home y a ≡ k = home_owned y q c a false k ey in
    let lease : l.stamps.wts ≤ l.stamps.rts = rw hx at (p.lease a) in
    quiet_clean x y c a s p (rw (hx, hy) (record { written = omega (arith, served_wts x c a l l.stamps.rts k served); read_to = omega (arith, served_rts x c a l l.stamps.rts k served); lease = omega (arith, served_wts x c a l l.stamps.rts k served, served_rts x c a l l.stamps.rts k served) })) (clean_owned y q c a k ey)
    (λ j e. absurd (let z : copy_in (y.entry c a) ≡ None = ap copy_in ey in cc))

pub home_sourced : (x : Settled) (a : ℕ) (l : Line) → HasVersions (view x) → home x a ≡ l → IsSourced (view x) l.source a l.value l.stamps.wts l.stamps.wr
home_sourced x a l v h = subst (λ (u : Line). IsSourced (view x) u.source a u.value u.stamps.wts u.stamps.wr) h (v.home_source a)

pub move_sources : (x y : Settled) → Move x y → AgreeOnOwners x → HasStamps (view x) → HasVersions (view x) → IsQuietSource (view x) (view y)
move_sources x y (stays entry lines at_most log) o p v = record {
  reached = at_most;
  source = λ a. ap (λ (u : Line). u.source) (stay_home x y entry lines a);
  home = λ a. home_sourced x a (home y a) v (sym (stay_home x y entry lines a));
  copy = λ c a k e. inl (ap copy_in (sym (entry c a)) ∙ e);
}
move_sources x y (drops c a k s ex ey d) o p v = sources_clean x y c a s v
    (ap (λ (u : Line). u.source) (drop_home x y c a k o s ex d))
    (home_sourced x a (home y a) v (sym (drop_home x y c a k o s ex d)))
    (λ j e. absurd (let z : copy_in (y.entry c a) ≡ None = ap copy_in ey in cc))
move_sources x y (raises c a m l t s ex ey le d) o p v =
    let q : AgreeOnOwners y = move_owns x y (raises c a m l t s ex ey le d) o in
    let hx : home x a ≡ l = home_owned x o c a m l ex in
    let hy : home y a ≡ with_rts l t = home_owned y q c a false (with_rts l t) ey in
    sources_clean x y c a s v (rw (hx, hy) refl) (rw hy (home_sourced x a l v hx))
    (λ j e. absurd (let z : copy_in (y.entry c a) ≡ None = ap copy_in ey in cc))
move_sources x y (gives c a m l kind s ex ey d) o p v =
    let hx : home x a ≡ l = home_owned x o c a m l ex in
    let hy : home y a ≡ l = home_common y a l d in
    sources_clean x y c a s v (rw (hx, hy) refl) (rw hy (home_sourced x a l v hx))
    (λ k e. inr (rw (hx, left_is kind l k (sym (ap copy_in ey) ∙ e)) (refl, home_sourced x a l v hx)))
move_sources x y (shares c a l k t s dx dy le served ey) o p v =
    let hx : home x a ≡ l = home_common x a l dx in
    let hy : home y a ≡ with_rts l t = home_common y a (with_rts l t) dy in
    sources_clean x y c a s v (rw (hx, hy) refl) (rw hy (home_sourced x a l v hx))
    (λ j e.
    let z : copy_in (y.entry c a) ≡ Some k = ap copy_in ey in
    let i : j ≡ k = cc in
    inr (rw (hx, i) (served_source x c a l t k p v hx served)))
move_sources x y (owns c a l k s dx dy served ey) o p v =
    let q : AgreeOnOwners y = move_owns x y (owns c a l k s dx dy served ey) o in
    let hx : home x a ≡ l = home_common x a l dx in
    let hy : home y a ≡ k = home_owned y q c a false k ey in
    let z = served_source x c a l l.stamps.rts k p v hx served in
    sources_clean x y c a s v (rw (hx, hy) z.0) (rw hy z.1)
    (λ j e. absurd (let w : copy_in (y.entry c a) ≡ None = ap copy_in ey in cc))

-- a line goes to memory, and the lines of that memory move up
pub record IsSpill (m m' : ManagedLine) : Type 0 where
  pub l : Line
  pub l' : Line
  pub old : m ≡ managed.Shared l
  pub new : m' ≡ managed.Shared l'
  pub value : l'.value ≡ l.value
  pub source : l'.source ≡ l.source
  pub up : l.stamps.rts ≤ l'.stamps.wts
  pub lease : l'.stamps.wts ≤ l'.stamps.rts
  pub rank : l.stamps.wr ≤ l'.stamps.wr

pub record IsSpilled (x y : Settled) : Type 0 where
  pub entry : (c a : ℕ) → y.entry c a ≡ x.entry c a
  pub managed : (a : ℕ) → (y.managed a ≡ x.managed a) ⊎ IsSpill (x.managed a) (y.managed a)
  pub pts : (d : ℕ) → y.pts d ≡ x.pts d
  pub r : (d : ℕ) → y.r d ≡ x.r d
  pub log : (d : ℕ) → y.log d ≡ x.log d

pub spill_owns : (x y : Settled) → IsSpilled x y → AgreeOnOwners x → AgreeOnOwners y
spill_owns x y s o = record {
  owner = λ c a m l e.
      let i : x.managed a ≡ managed.Exclusive c = o.owner c a m l (sym (s.entry c a) ∙ e) in
      elim (s.managed a) [ inl same ↦ same ∙ i | inr up ↦ absurd (let z : x.managed a ≡ managed.Shared up.l = up.old in cc) ];
  owned = λ c a e. elim (s.managed a) [
    | inl same ↦ let z = o.owned c a (sym same ∙ e) in (z.0, z.1, s.entry c a ∙ z.2)
    | inr up ↦ absurd (let z : y.managed a ≡ managed.Shared up.l' = up.new in cc)
  ];
}

spill_home : (x y : Settled) → IsSpilled x y → (a : ℕ) → y.managed a ≡ x.managed a → home y a ≡ home x a
spill_home x y s a e = home_same x y a e (λ c. s.entry c a)

pub spill_quiet : (x y : Settled) → IsSpilled x y → AgreeOnOwners x → HasStamps (view x) → IsQuiet (view x) (view y)
spill_quiet x y s o p = record {
  log = s.log;
  pts = λ c. omega (arith, s.pts c);
  home = λ a. elim (s.managed a) [
    | inl same ↦ follow_same (home x a) (home y a) (spill_home x y s a same) (p.lease a)
    | inr up ↦
        let hx : home x a ≡ up.l = home_common x a up.l up.old in
        let hy : home y a ≡ up.l' = home_common y a up.l' up.new in
        let lease : up.l.stamps.wts ≤ up.l.stamps.rts = rw hx at (p.lease a) in
        rw (hx, hy) (record { written = omega (arith, up.up); read_to = omega (arith, up.up, up.lease); lease = up.lease })
  ];
  copy = λ c a k e. inl (ap copy_in (sym (s.entry c a)) ∙ e);
  dirty = λ c a e. (
    ap is_dirty (sym (s.entry c a)) ∙ e,
    elim (s.managed a) [
      | inl same ↦ rw (spill_home x y s a same) (omega arith)
      | inr up ↦
          let clean : is_dirty (x.entry c a) ≡ false = clean_common x o a up.l up.old c in
          absurd (let z : is_dirty (x.entry c a) ≡ true = ap is_dirty (sym (s.entry c a)) ∙ e in cc)
    ],
  );
}

pub spill_sources : (x y : Settled) → IsSpilled x y → HasStamps (view x) → HasVersions (view x) → IsQuietSource (view x) (view y)
spill_sources x y s p v = record {
  reached = λ d. record { time = omega (arith, s.pts d); tie = λ h. omega (arith, s.r d) };
  source = λ a. elim (s.managed a) [
    | inl same ↦ ap (λ (u : Line). u.source) (spill_home x y s a same)
    | inr up ↦ rw (home_common x a up.l up.old, home_common y a up.l' up.new) up.source
  ];
  home = λ a. elim (s.managed a) [
    | inl same ↦ home_sourced x a (home y a) v (sym (spill_home x y s a same))
    | inr up ↦
        let hx : home x a ≡ up.l = home_common x a up.l up.old in
        let lease : up.l.stamps.wts ≤ up.l.stamps.rts = rw hx at (p.lease a) in
        rw (home_common y a up.l' up.new, up.source, up.value)
        (grow_sourced (view x) up.l.source a up.l.value up.l.stamps.wts up.l.stamps.wr up.l'.stamps.wts up.l'.stamps.wr (record { time = omega (arith, up.up); tie = λ h. up.rank }) (home_sourced x a up.l v hx))
  ];
  copy = λ c a k e. inl (ap copy_in (sym (s.entry c a)) ∙ e);
}
