-- A whole line is what may stand there, or has a least fault.
use Rattle.std.proofs.Common.{◌≡◌, ◌≢◌, ℕ, ◌<◌, ◌≤◌, ◌⊎◌, List, length, Option, None, Some, refl, sym, ap, ◌∙◌, arith, inl, inr}
use Rattle.std.proofs.lemmas.Bool.{cases_lt, cases_eq, cases_Bool}
use Rattle.mem_op.specs.Limits.{operation_limit}
use Rattle.mem_op.specs.declared.id.Source.{Source}
use Rattle.mem_op.specs.declared.id.Source.TheVariants as source
use Rattle.log_record.specs.declared.act.Act.{Act}
use Rattle.log_record.specs.declared.act.Act.TheVariants as act
use Rattle.log_record.specs.declared.format.Format.{Format}
use Rattle.log_record.specs.declared.record.Record.{Record}
use Rattle.log_record.specs.Line.{format_number, record_text, header_text, end_text, has_act, ActFits, Fits, FitsIn, SourceFits, IsRecordShape, IsSomeHeader, line_limit, limit_of}
use Rattle.log_record.specs.Numbers.{as_u64}
use Rattle.log_record.specs.inner.Reading.{record_of, end_of, header_of}
use Rattle.log_record.proofs.Records.{record_takes, record_again}
use Rattle.log_record.proofs.Ends.{end_takes, end_again, header_takes, header_again}
use Rattle.log_record.proofs.Lines.{header_once, record_no_end, record_once}
use Rattle.log_file.specs.declared.fault.FormatFault.{FormatFault}
use Rattle.log_file.specs.declared.fault.FormatFault.TheVariants.{BadHeader, BadLine, OutOfRange, TooMany, CountDiffers, WrongCore}
use Rattle.log_file.specs.Log.{IsLonger}
use Rattle.log_file.specs.OneLine.{BodyHolds, HeaderIs, LeastHeader, LeastBody}

-- the numbers of a record are in range, or one of them isn't
source_fits : (s : Source) → SourceFits s ⊎ (SourceFits s → ⊥)
source_fits source.Init = inl tt
source_fits (source.Store id) = grind arith

act_fits : (a : Act) → ActFits a ⊎ (ActFits a → ⊥)
act_fits act.Store = inl tt
act_fits (act.Load s) = source_fits s
act_fits (act.Swap s read) = let known = source_fits s in grind arith

record_fits : (r : Record) → Fits r ⊎ (Fits r → ⊥)
record_fits r = let known = act_fits r.act in grind arith

-- what a reader finds in a line that takes just the texts
read : {A : Type 0} (text : A → List ℕ) (of : List ℕ → Option A) → ((l : List ℕ) (a : A) → of l ≡ Some a → l ≡ text a)
    → ((a : A) → of (text a) ≡ Some a) → (l : List ℕ) → ((a : A) × (l ≡ text a)) ⊎ ((a : A) → l ≡ text a → ⊥)
read {A = A} text of takes again l = go (of l) refl
  where
    go : (o : Option A) → of l ≡ o → ((a : A) × (l ≡ text a)) ⊎ ((a : A) → l ≡ text a → ⊥)
    go None e = inr (λ a is. let back : of (text a) ≡ Some a = again a in cc)
    go (Some a) e = inl (a, takes l a e)

-- ---- a later line

module _ (format : Format) (count : ℕ) (l : List ℕ) where
  pub bad_least : BodyHolds format count l BadLine → LeastBody format count l BadLine
  bad_least h = (h, λ g p. grind arith)

  pub too_many : (r : Record) → length l ≤ limit_of format → l ≡ record_text r → FitsIn format r → operation_limit ≤ count → LeastBody format count l TooMany
  too_many r short e fits many = (((r, e, fits.has), many), λ g p. grind (arith, record_once))

  pub count_least : (n : ℕ) → length l ≤ limit_of format → l ≡ end_text n → n ≢ count → LeastBody format count l CountDiffers
  count_least n short e ne = ((n, e, ne), λ g p. grind (arith, record_no_end))

  abbrev pub BodyOutcome : Type 0
  BodyOutcome =
      ((r : Record) × (l ≡ record_text r) × FitsIn format r × (count < operation_limit))
      ⊎ ((l ≡ end_text count) ⊎ ((f : FormatFault) × LeastBody format count l f))

  by_record : (r : Record) → l ≡ record_text r → length l ≤ limit_of format → BodyOutcome
  by_record r is short =
      elim (cases_Bool (has_act format r.act)) [
        | inr none ↦
            let no_record : IsRecordShape format l → ⊥ = λ s. let one = record_once r s.0 (sym is ∙ s.1) in let has = s.2 in cc in
            inr (inr (BadLine, bad_least (inr (no_record, λ s. record_no_end r s.0 (sym is ∙ s.1)))))
        | inl has ↦ elim (record_fits r) [
          | inr bad ↦ inr (inr (OutOfRange, ((r, is, bad), λ g p. grind arith)))
          | inl fits ↦ elim (cases_lt count operation_limit) [
            | inl few ↦ inl (r, is, record { has = has; numbers = fits }, few)
            | inr many ↦ inr (inr (TooMany, too_many r short is (record { has = has; numbers = fits }) many))
          ]
        ]
      ]

  pub body_outcome : BodyOutcome
  body_outcome = elim (cases_lt (limit_of format) (length l)) [
    | inl long ↦ inr (inr (BadLine, bad_least (inl long)))
    | inr short ↦ elim (read record_text record_of record_takes record_again l) [
      | inl p ↦ by_record p.0 p.1 short
      | inr none ↦ elim (read end_text end_of end_takes end_again l) [
        | inr no-end ↦ inr (inr (BadLine, bad_least (inr (λ s. none s.0 s.1, λ s. no-end s.0 s.1))))
        | inl p ↦ elim (cases_eq p.0 count) [
          | inl same ↦ inr (inl (p.1 ∙ ap end_text same))
          | inr ne ↦ inr (inr (CountDiffers, count_least p.0 short p.1 ne))
        ]
      ]
    ]
  ]

-- ---- the first line

module _ (core cores : ℕ) (l : List ℕ) where
  pub header_bad : IsLonger line_limit l ⊎ (IsSomeHeader l → ⊥) → LeastHeader core cores l BadHeader
  header_bad bad = (bad, λ g p. grind arith)

  module _ (format : Format) (c n : ℕ) (short : length l ≤ line_limit) (e : l ≡ header_text (format_number format) c n) where
    header_wrong : c < n → n ≤ 64 → (c ≢ core) ⊎ (n ≢ cores) → LeastHeader core cores l WrongCore
    header_wrong lt few other = ((format, (c, (n, e, other))), λ g p. grind (arith, header_once))

    -- where both numbers fit 64 bits
    pub wrong_core : (a b : ℕ) → Some a ≡ as_u64 c → Some b ≡ as_u64 n → a < b → b ≤ 64 → (a ≢ core) ⊎ (b ≢ cores) → LeastHeader core cores l WrongCore
    wrong_core a b a-read b-read lt few other =
        let a-is : a ≡ c = grind arith in
        let b-is : b ≡ n = grind arith in
        header_wrong (omega arith) (omega arith) (rw (a-is, b-is) at other)

  abbrev pub HeaderOutcome : Type 0
  HeaderOutcome = ((format : Format) × HeaderIs format core cores l) ⊎ ((f : FormatFault) × LeastHeader core cores l f)

  in_range : (c n : ℕ) → ((c < n) × (n ≤ 64)) ⊎ ((c < n) × (n ≤ 64) → ⊥)
  in_range c n = grind arith

  same : (c n : ℕ) → ((c ≡ core) × (n ≡ cores)) ⊎ ((c ≢ core) ⊎ (n ≢ cores))
  same c n = grind arith

  abbrev text : Format × (ℕ × ℕ) → List ℕ
  text x = header_text (format_number x.0) x.1.0 x.1.1

  pub header_outcome : HeaderOutcome
  header_outcome = elim (cases_lt line_limit (length l)) [
    | inl long ↦ inr (BadHeader, header_bad (inl long))
    | inr short ↦ elim (read text header_of header_takes (λ x. header_again x.0 x.1.0 x.1.1) l) [
      | inr none ↦ inr (BadHeader, header_bad (inr (λ s. none (s.0, (s.1.0, s.1.1.0)) s.1.1.1)))
      | inl p ↦ elim (in_range p.0.1.0 p.0.1.1) [
        | inr bad ↦ inr (OutOfRange, ((p.0.0, (p.0.1.0, (p.0.1.1, p.1, bad))), λ g q. grind arith))
        | inl fits ↦ elim (same p.0.1.0 p.0.1.1) [
          | inr other ↦ inr (WrongCore, header_wrong p.0.0 p.0.1.0 p.0.1.1 short p.1 fits.0 fits.1 other)
          | inl both ↦ inl (p.0.0, (rw (← both.0, ← both.1) p.1, omega (arith, both.0, both.1, fits.0), omega (arith, both.1, fits.1)))
        ]
      ]
    ]
  ]
