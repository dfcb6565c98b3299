-- Every text is a log's spelling or has a first fault, which stays however the bytes go on, unless it is
-- Truncated.
use Rattle.std.proofs.Common.{◌≡◌, ◌≢◌, ℕ, zero, suc, ◌+◌, ◌<◌, ◌⊎◌, eqb, false, List, [], ◌∷◌, ◌++◌, length, Option, Some, None, refl, ap, arith, inl, inr, length-append, append_assoc, append-nil}
use Rattle.std.proofs.lemmas.Bool.{cases_lt, cases_Bool, eqb-true}
use Rattle.std.proofs.lemmas.List.Elements.{All-nil, All-cons}
use Rattle.log_record.specs.declared.record.Record.{Record}
use Rattle.log_file.specs.declared.fault.FormatFault.{FormatFault}
use Rattle.log_file.specs.declared.fault.FormatFault.TheVariants.{TrailingBytes, Truncated}
use Rattle.log_file.specs.declared.fault.LogFault.TheVariants.{At}
use Rattle.log_file.specs.declared.stage.Stage.{Stage}
use Rattle.log_file.specs.declared.stage.Stage.TheVariants as stage
use Rattle.log_file.specs.Feeding.{IsSettled}
use Rattle.log_file.specs.Log.{Spells, HasNoFault, IsFirstFault, number, with_lf}
use Rattle.log_file.specs.OneLine.{IsOneLine}
use Rattle.log_file.specs.Answering.{Answering}
use Rattle.log_file.specs.Standing.{IsSound, limit_at, whole_text}
use Rattle.log_file.specs.inner.NextLine.{BehindAt, RefusedAt, count_with, with_read}
use Rattle.log_file.proofs.OneLine.{body_outcome, header_outcome}
use Rattle.log_file.proofs.Settled.{settled_front}
use Rattle.log_file.proofs.Spelled.{spelled_quiet}
use Rattle.log_file.proofs.Standing.{ends_at, goes_too_far, line_refused, line_taken}

-- the bytes before the first line feed, and those after it
split_feed : (xs : List ℕ) → IsOneLine xs ⊎ ((l : List ℕ) × ((after : List ℕ) × (xs ≡ with_lf l ++ after) × IsOneLine l))
split_feed [] = inl (All-nil (λ b. eqb b 10 ≡ false))
split_feed (b ∷ xs) = elim (cases_Bool (eqb b 10)) [
  | inl feed ↦ inr ([], (xs, ap (λ (c : ℕ). c ∷ xs) (eqb-true b 10 feed), All-nil (λ b. eqb b 10 ≡ false)))
  | inr other ↦ elim (split_feed xs) [
    | inl one ↦ inl (All-cons (λ b. eqb b 10 ≡ false) b xs other one)
    | inr p ↦ inr (b ∷ p.0, (p.1.0, ap (λ (ys : List ℕ). b ∷ ys) p.1.1, All-cons (λ b. eqb b 10 ≡ false) b p.0 other p.1.2))
  ]
]

module _ (core cores : ℕ) where
  -- a log's spelling, or a fault that stays, or Truncated is the first
  abbrev Answered : List ℕ → Type 0
  Answered bytes =
      ((records : List Record) × Spells core cores bytes records)
      ⊎ (((k : ℕ) × ((f : FormatFault) × IsSettled core cores bytes (At k f))) ⊎ ((k : ℕ) × IsFirstFault core cores bytes k Truncated))

  abbrev reader : Stage → ℕ → Answering
  reader q count = record { core = core; cores = cores; stage = q; count = count; begun = []; fault = None }

  -- a whole line is taken or refused
  outcome : (q : Stage) (count : ℕ) (l : List ℕ)
      → ((r : Option Record) × ((next : Stage) × BehindAt q (reader q count) l r next))
      ⊎ ((k : ℕ) × ((f : FormatFault) × RefusedAt q core cores count l (At k f)))
  outcome stage.Header count l = elim (header_outcome core cores l) [
    | inl taken ↦ inl (None, (stage.Records taken.0, (taken.0, taken.1, refl)))
    | inr refused ↦ inr (1, (refused.0, (refl, refused.1)))
  ]
  outcome (stage.Records format) count l = elim (body_outcome format count l) [
    | inl taken ↦ inl (Some taken.0, (stage.Records format, (taken.1, taken.2, taken.3, refl)))
    | inr (inl end) ↦ inl (None, (stage.Ended format, (end, refl)))
    | inr (inr refused) ↦ inr (count + 2, (refused.0, (refl, refused.1)))
  ]
  outcome (stage.Ended format) count l = inr (count + 3, (TrailingBytes, (refl, refl)))

  -- bytes without a line feed are the last
  last : (q : Stage) (count : ℕ) (records : List Record) (rest : List ℕ) → IsSound q core cores records [] → count ≡ length records → IsOneLine rest
      → Answered (whole_text q core cores records ++ rest)
  last stage.Header count records rest sound count-is one = elim (cases_lt (limit_at stage.Header) (length rest)) [
    | inl long ↦ inr (inl (1, (_, goes_too_far stage.Header core cores count [] rest records sound count-is one (inl long))))
    | inr short ↦ inr (inr (1, ends_at stage.Header core cores count rest records sound count-is one short))
  ]
  last (stage.Records format) count records rest sound count-is one = elim (cases_lt (limit_at (stage.Records format)) (length rest)) [
    | inl long ↦ inr (inl (count + 2, (_, goes_too_far (stage.Records format) core cores count [] rest records sound count-is one (inl long))))
    | inr short ↦ inr (inr (count + 2, ends_at (stage.Records format) core cores count rest records sound count-is one short))
  ]
  last (stage.Ended format) count records [] sound count-is one =
      inl (records, ends_at (stage.Ended format) core cores count [] records sound count-is one (omega arith))
  last (stage.Ended format) count records (b ∷ rest) sound count-is one =
      inr (inl (count + 3, (_, goes_too_far (stage.Ended format) core cores count [] (b ∷ rest) records sound count-is one (inr (tt, omega arith)))))

  walk : (n : ℕ) (q : Stage) (count : ℕ) (records : List Record) (rest : List ℕ) → length rest < n → IsSound q core cores records [] → count ≡ length records
      → Answered (whole_text q core cores records ++ rest)
  walk zero q count records rest lt sound count-is = absurd (omega arith)
  walk (suc n) q count records rest lt sound count-is = elim (split_feed rest) [
    | inl one ↦ last q count records rest sound count-is one
    | inr s ↦
        let whole = whole_text q core cores records in
        rw (s.1.1, ← (append_assoc whole (with_lf s.0) s.1.0)) (elim (outcome q count s.0) [
          | inl o ↦
              let taken = line_taken q (reader q count) s.0 [] o.0 records o.1.0 sound count-is o.1.1 in
              let less : length s.1.0 < n = omega (arith, ap length s.1.1, length-append (with_lf s.0) s.1.0, length-append s.0 (10 ∷ [])) in
              rw (← taken.2) (walk n o.1.0 (count_with count o.0) (with_read records o.0) s.1.0 less taken.0 taken.1)
          | inr o ↦
              let refused = line_refused q (reader q count) s.0 [] (At o.0 o.1.0) records sound count-is s.1.2 o.1.1 in
              inr (inl (o.0, (o.1.0, settled_front core cores (whole ++ with_lf s.0) s.1.0 (At o.0 o.1.0) refused)))
        ])
  ]

  answered : (bytes : List ℕ) → Answered bytes
  answered bytes = walk (suc (length bytes)) stage.Header 0 [] bytes (omega arith) refl refl

-- ---- the laws

number_once : (f g : FormatFault) → number f ≡ number g → f ≡ g
number_once f g e = grind arith

first_once : (core cores : ℕ) (bytes : List ℕ) (k j : ℕ) (f g : FormatFault) → IsFirstFault core cores bytes k f
    → IsFirstFault core cores bytes j g → (k ≡ j) × (f ≡ g)
first_once core cores bytes k j f g p q =
    let least = p.least j g q.holds in
    let other_least = q.least k f p.holds in
    (grind arith, number_once f g (grind arith))

-- the fault of a text that has one stays
now : (core cores : ℕ) (bytes : List ℕ) (k : ℕ) (f : FormatFault) → IsSettled core cores bytes (At k f) → IsFirstFault core cores bytes k f
now core cores bytes k f h = rw append-nil at (h [])

-- a text without a fault spells a log
pub faultless_spells : (core cores : ℕ) (bytes : List ℕ) → HasNoFault core cores bytes
    → (records : List Record) × Spells core cores bytes records
faultless_spells core cores bytes none = elim (answered core cores bytes) [
  | inl p ↦ p
  | inr (inl p) ↦ absurd (none p.0 p.1.0 (now core cores bytes p.0 p.1.0 p.1.1).holds)
  | inr (inr p) ↦ absurd (none p.0 Truncated p.1.holds)
]

-- a first fault other than Truncated stays, however the bytes go on
pub first_stays : (core cores : ℕ) (bytes more : List ℕ) (k : ℕ) (f : FormatFault)
    → IsFirstFault core cores bytes k f → f ≢ Truncated → IsFirstFault core cores (bytes ++ more) k f
first_stays core cores bytes more k f first ne = elim (answered core cores bytes) [
  | inl p ↦ absurd (spelled_quiet core cores bytes p.0 p.1 k f first.holds)
  | inr (inl p) ↦ let same = first_once core cores bytes k p.0 f p.1.0 first (now core cores bytes p.0 p.1.0 p.1.1) in rw (same.0, same.1) (p.1.1 more)
  | inr (inr p) ↦ absurd (ne (first_once core cores bytes k p.0 f Truncated first p.1).1)
]
