-- What the readers told of logs that are merged so far.
use Rattle.std.specs.Prelude.{◌≡◌, ℕ, zero, suc, Bool, List, [], ◌∷◌, refl, Option, Some, None, length, slice_get}
use Rattle.std.proofs.Common.{sym, ap, subst, ◌∙◌, arith, append-nil}
use Rattle.std.proofs.lemmas.Option.{slice_get_within}
use Rattle.log_record.specs.declared.record.Record.{Record}
use Rattle.log_file.specs.declared.fault.LogFault.{LogFault}
use Rattle.log_file.specs.Devices.{Tells}
use Rattle.log_file.specs.Sets.{TellEach, text_at}
use Rattle.merge_judge.specs.LaneParts.{KeptLog, LaneParts}
use Rattle.merge_judge.specs.inner.FinalVerdict.{AreBegun, IsBegun}
use Rattle.merge_judge.specs.inner.Lanes.{AreLanes, IsStage, log_at}
use Rattle.merge_judge.proofs.Begins.{begins_whole}
use Rattle.merge_judge.proofs.Following.{begun_text}
use Rattle.merge_judge.proofs.Places.{one, there}

-- ---- one text for each reader

pub gather : {S : Type 0} (P : ℕ → S → List ℕ → Type 0) (xs : List S) → ((k : ℕ) (x : S) → slice_get xs k ≡ Some x → (text : List ℕ) × P k x text)
    → (texts : List (List ℕ)) × ((length texts ≡ length xs) × ((k : ℕ) (x : S) → slice_get xs k ≡ Some x → P k x (text_at texts k)))
gather P [] f = ([], (refl, λ k x h. absurd cc))
gather {S} P (x ∷ xs) f =
    let first = f 0 x refl in
    let rest = gather (λ k. P (suc k)) xs (λ k y h. f (suc k) y h) in
    (first.0 ∷ rest.0, (ap suc rest.1.0, go first rest))
  where
    go : (first : (text : List ℕ) × P 0 x text) (rest : (texts : List (List ℕ)) × ((length texts ≡ length xs) × ((k : ℕ) (y : S) → slice_get xs k ≡ Some y → P (suc k) y (text_at texts k))))
        → (k : ℕ) (y : S) → slice_get (x ∷ xs) k ≡ Some y → P k y (text_at (first.0 ∷ rest.0) k)
    go first rest zero y h = let e : x ≡ y = cc in subst (λ z. P 0 z first.0) e first.1
    go first rest (suc k) y h = rest.1.1 k y h

pub tell_each : {S : Type 0} (remaining : S → Option (List ℕ)) (xs : List S) (texts : List (List ℕ)) → length texts ≡ length xs → ((k : ℕ) (x : S) → slice_get xs k ≡ Some x → Tells (remaining x) (text_at texts k)) → TellEach remaining xs texts
tell_each remaining [] [] long h = tt
tell_each remaining [] (text ∷ texts) long h = absurd (omega (arith, long))
tell_each remaining (x ∷ xs) [] long h = absurd (omega (arith, long))
tell_each remaining (x ∷ xs) (text ∷ texts) long h = (h 0 x refl, tell_each remaining xs texts (omega (arith, long)) (λ k y q. h (suc k) y q))

-- ---- what the texts begin with, or spell, and their faults

begun_stage : (core cores : ℕ) (first still : Option (List ℕ)) (log : KeptLog) (merged : List Record) (front : Option Record) (fault : Option LogFault) → IsStage core cores first still log merged front fault → (text : List ℕ) × (Tells first text × IsBegun core cores text merged front fault)
begun_stage core cores first still log merged (Some r) fault h =
    let t = begun_text h.1.0 in
    (t.0, (t.1, record { begins = t.2; whole = λ none. absurd cc; faults = λ f found. absurd (let none : fault ≡ None = h.0 in cc) }))
begun_stage core cores first still log merged None None h =
    (h.text, (h.tells, record { begins = rw append-nil (begins_whole core cores h.text merged h.spells); whole = λ none sound. h.spells; faults = λ f found. absurd cc }))
begun_stage core cores first still log merged None (Some f) h =
    (h.text, (h.tells, record { begins = rw append-nil h.begins; whole = λ none sound. absurd cc; faults = λ g found. (let same : g ≡ f = cc in rw same h.holds) }))

pub begun_texts : {S : Type 0} {remaining : S → Option (List ℕ)} {failed : S → ℕ} {before after : List S} {lanes : List LaneParts} {clean : Bool} {merged : List (List Record)}
    → AreLanes remaining failed before after (length before) lanes clean merged → (texts : List (List ℕ)) × (TellEach remaining before texts × AreBegun texts lanes merged)
begun_texts {S} {remaining} {failed} {before} {after} {lanes} {clean} {merged} m = (
  all.0,
  (
    tell_each remaining before all.0 many (λ k b hb. (let l = there lanes k (omega (arith, slice_get_within before k b hb, m.many)) in let t = (all.1.1 k l.0 l.1).0 in
        subst (λ s. Tells (remaining s) (text_at all.0 k)) (one (slice_get before k) t.0 b t.1 hb) t.2)),
    record { many = m.logs ∙ sym many; lanes_many = sym all.1.0; each = λ k l hl. rw many (all.1.1 k l hl).1 },
  ),
)
  where
    IsTextOf : ℕ → LaneParts → List ℕ → Type 0
    IsTextOf k l text = ((b : S) × (slice_get before k ≡ Some b) × Tells (remaining b) text) × IsBegun k (length before) text (log_at merged k) l.front l.fault

    all : (texts : List (List ℕ)) × ((length texts ≡ length lanes) × ((k : ℕ) (l : LaneParts) → slice_get lanes k ≡ Some l → IsTextOf k l (text_at texts k)))
    all = gather IsTextOf lanes (λ k l hl.
        let p = m.lane k l hl in
        let t = begun_stage k (length before) (remaining p.first) (remaining p.now) l.log (log_at merged k) l.front l.fault p.at.stage in
        (t.0, ((p.first, p.is_first, t.1.0), t.1.1)))

    many : length all.0 ≡ length before
    many = all.1.0 ∙ m.many
