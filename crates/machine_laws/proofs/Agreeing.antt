-- Lines of one address with equal `wts` are one version: none of them is leased past a store that is later than its own source, so
-- neither's source is after the other's.
use Rattle.std.proofs.Common.{◌≡◌, ap, sym, subst, ◌∙◌, ℕ, ◌≤◌, inl, inr, true, refl, arith}
use Rattle.std.specs.Prelude.{Some}
use Rattle.mem_op.specs.declared.id.OpId.{OpId}
use Rattle.mem_op.specs.declared.id.Source.{Source}
use Rattle.mem_op.specs.declared.id.Source.TheVariants.{Init, Store}
use Rattle.line_stamps.specs.declared.line.Line.{Line}
use Rattle.log_record.specs.declared.record.Record.{Record}
use Rattle.line_stamps.proofs.Ids.{same_id}
use Rattle.address_check.specs.AddressFaults.{is_store}
use Rattle.machine_laws.specs.Views.{View, Did}
use Rattle.machine_laws.specs.Stamps.{HasStamps}
use Rattle.machine_laws.specs.Versions.{Earlier, IsSourced, NotAfter, HasVersions, AreOneVersion, AgreeOnVersions}
use Rattle.machine_laws.proofs.Versions.{grow_sourced}

-- no store to a up to the stamp t is after the source
abbrev IsLastUpTo : View → Source → ℕ → ℕ → Type 0
IsLastUpTo v s a t = (d j : ℕ) (p : Record) → Did v d j p → p.addr ≡ a → is_store p.act ≡ true → p.ts ≤ t → NotAfter v s d j p

not_both_earlier : (d j : ℕ) (p : Record) (c i : ℕ) (q : Record) → Earlier d j p c i q → Earlier c i q d j p → ⊥
not_both_earlier d j p c i q e f =
    let t : p.ts ≡ q.ts = omega (arith, e.time, f.time) in
    let r : p.rank ≡ q.rank = omega (arith, e.rank t, f.rank (sym t)) in
    let k : d ≡ c = omega (arith, e.core t r, f.core (sym t) (sym r)) in
    absurd (omega (arith, e.index t r k, f.index (sym t) (sym r) (sym k)))

one_record : (v : View) (c i : ℕ) (p q : Record) → Did v c i p → Did v c i q → p ≡ q
one_record v c i p q d e = let same : Some p ≡ Some q = sym d.is ∙ e.is in cc

-- two stores, neither of which is after the other, are one
one_store : (v : View) (id jd : OpId) (p q : Record) → Did v id.core id.index p → Did v jd.core jd.index q → NotAfter v (Store jd) id.core id.index p → NotAfter v (Store id) jd.core jd.index q → id ≡ jd
one_store v id jd p q d e (inl same) m = same_id id jd same.0 same.1
one_store v id jd p q d e (inr b) (inl same) = sym (same_id jd id same.0 same.1)
one_store v id jd p q d e (inr b) (inr c) = absurd (not_both_earlier id.core id.index p jd.core jd.index q
    (subst (λ (u : Record). Earlier id.core id.index p jd.core jd.index u) (one_record v jd.core jd.index b.store q b.did e) b.earlier)
    (subst (λ (u : Record). Earlier jd.core jd.index q id.core id.index u) (one_record v id.core id.index c.store p c.did d) c.earlier))

-- two words with a source at t or before, where no store up to t is after either source, are one word of one source
one_source : (v : View) (s z : Source) (a x y t r r' : ℕ) → IsSourced v s a x t r → IsSourced v z a y t r' → IsLastUpTo v s a t → IsLastUpTo v z a t → (x ≡ y) × (s ≡ z)
one_source v Init Init a x y t r r' e f k m = (e ∙ sym f, refl)
one_source v Init (Store id) a x y t r r' e f k m = absurd (k id.core id.index f.store f.did f.addr f.act f.place.time)
one_source v (Store id) Init a x y t r r' e f k m = absurd (m id.core id.index e.store e.did e.addr e.act e.place.time)
one_source v (Store id) (Store jd) a x y t r r' e f k m =
    let same : id ≡ jd = one_store v id jd e.store f.store e.did f.did (m id.core id.index e.store e.did e.addr e.act e.place.time) (k jd.core jd.index f.store f.did f.addr f.act f.place.time) in
    let one : e.store ≡ f.store = one_record v id.core id.index e.store f.store e.did (rw same f.did) in
    (sym e.value ∙ ap (λ (p : Record). p.value) one ∙ f.value, ap Store same)

-- what a copy of the address a and its home have alike, up to the stamp t
record IsLineAt (v : View) (a t : ℕ) (k : Line) : Type 0 where
  sourced : IsSourced v k.source a k.value t k.stamps.wr
  last : IsLastUpTo v k.source a t

home_line : (v : View) → HasVersions v → (a : ℕ) → IsLineAt v a (v.home a).stamps.wts (v.home a)
home_line v o a = record {
  sourced = o.home_source a;
  last = λ d j p did e st le. subst (λ (b : ℕ). NotAfter v (v.home b).source d j p) e (o.last d j p did st);
}

copy_line : (v : View) → HasStamps v → HasVersions v → (c a t : ℕ) (k : Line) → v.copy c a ≡ Some k → k.stamps.wts ≡ t → IsLineAt v a t k
copy_line v p o c a t k ek e = record {
  sourced = grow_sourced v k.source a k.value k.stamps.wts k.stamps.wr t k.stamps.wr (record { time = omega (arith, e); tie = λ h. omega arith }) (o.copy_source c a k ek);
  last = λ d j q did eq st le. elim (o.copy_last c k d j q (rw eq ek) did st) [ inl b ↦ b | inr lt ↦ absurd (omega (arith, e, lt, le, p.copy_lease c a k ek)) ];
}

one_version : (v : View) (a t : ℕ) (k l : Line) → IsLineAt v a t k → IsLineAt v a t l → AreOneVersion k l
one_version v a t k l m n =
    let same = one_source v k.source l.source a k.value l.value t k.stamps.wr l.stamps.wr m.sourced n.sourced m.last n.last in
    record { value = same.0; source = same.1 }

pub agree_on_versions : (v : View) → HasStamps v → HasVersions v → AgreeOnVersions v
agree_on_versions v p o = record {
  copies = λ c d a k l ek el e. one_version v a k.stamps.wts k l (copy_line v p o c a k.stamps.wts k ek refl) (copy_line v p o d a k.stamps.wts l el (sym e));
  home = λ c a k ek e. one_version v a (v.home a).stamps.wts k (v.home a) (copy_line v p o c a (v.home a).stamps.wts k ek e) (home_line v o a);
}
