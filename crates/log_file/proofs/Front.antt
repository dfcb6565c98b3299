-- What a fault at a line says of it, and the header and the records of a text, which have no fault.
use Rattle.std.proofs.Common.{◌≡◌, ℕ, zero, suc, ◌+◌, ◌-◌, ◌<◌, ◌≤◌, ◌⊎◌, List, [], ◌∷◌, ◌++◌, length, eqb, get_or, map, refl, sym, ap, subst, ◌∙◌, arith, inl, inr, length-append}
use Rattle.std.specs.List.{AllByRecursion}
use Rattle.std.specs.Prelude.{codes, if◌then◌else◌, is_some, None}
use Rattle.std.proofs.lemmas.Bool.{cases_lt}
use Rattle.std.proofs.lemmas.List.{get_or-append_right, length-map}
use Rattle.std.proofs.lemmas.List.Splits.{length-slice_split}
use Rattle.mem_op.specs.Limits.{operation_limit}
use Rattle.log_record.specs.declared.format.Format.{Format}
use Rattle.log_record.specs.declared.format.Format.TheVariants.{One, Two}
use Rattle.log_record.specs.declared.record.Record.{Record}
use Rattle.log_record.specs.Line.{format_number, record_text, header_text, end_text, limit_of, FitsIn, line_limit}
use Rattle.log_record.proofs.Lines.{record_short, header_short, end_short, within_limit, record_once, header_once, end_once, record_no_end}
use Rattle.log_record.proofs.Ends.{header_text_is, words_of}
use Rattle.decimal_text.specs.Numbers.{numeral}
use Rattle.decimal_text.specs.Reading.{after}
use Rattle.decimal_text.proofs.Numbers.{after_again}
use Rattle.log_file.specs.declared.fault.FormatFault.{FormatFault}
use Rattle.log_file.specs.declared.fault.FormatFault.TheVariants.{BadHeader, BadLine, TrailingBytes, Truncated}
use Rattle.log_file.specs.Log.{begun, text_of, IsLog, IsWhole, IsBody, IsEnd, IsFirstFault, NoEndBefore, lines_of, line, FaultAt, number, said_format}
use Rattle.log_file.specs.OneLine.{IsOneLine, LeastHeader, LeastBody}
use Rattle.log_file.proofs.Lines.{begun_no_lf, lines_of_last, lines_of_text}

-- ---- the faults at one line

module _ (core cores : ℕ) (lines : List (List ℕ)) where
  -- a fault stands at a line that is there
  placed : (k : ℕ) (g : FormatFault) → 0 < length lines → FaultAt core cores lines k g → (0 < k) × (k ≤ length lines)
  placed k g more p = grind arith

  abbrev IsLeastAt : ℕ → FormatFault → Type 0
  IsLeastAt k f = FaultAt core cores lines k f × ((g : FormatFault) → FaultAt core cores lines k g → number f ≤ number g)

  module _ (format : Format) (k n : ℕ) (l : List ℕ) (said : said_format lines ≡ format) (k-is : k ≡ n + 2) (none : NoEndBefore lines k)
      (at : line lines k ≡ l) where
    record_quiet : (r : Record) (g : FormatFault) → l ≡ record_text r → FitsIn format r → n < operation_limit → k < length lines
        → FaultAt core cores lines k g → ⊥
    record_quiet r g is fits few whole p = grind (arith, record_short, record_once, record_no_end)

    end_quiet : (g : FormatFault) → l ≡ end_text n → n ≤ operation_limit → k < length lines → FaultAt core cores lines k g → ⊥
    end_quiet g is few whole p = grind (arith, within_limit, end_short, record_no_end, end_once)

    body_least : (f : FormatFault) → k ≤ length lines → LeastBody format n l f → IsWhole lines k ⊎ ((f ≡ BadLine) × (limit_of format < length l))
        → IsLeastAt k f
    body_least f there found why = (grind arith, λ g p. let least = found.1 g in grind arith)

    body_short_only : (j : ℕ) (g : FormatFault) → k ≤ j → length lines ≡ k → length l ≤ limit_of format → FaultAt core cores lines j g → g ≡ Truncated
    body_short_only j g from last short p = grind arith

  -- behind the end line
  behind_end : (k j : ℕ) (g : FormatFault) → j ≡ k + 1 → IsEnd lines k → FaultAt core cores lines j g
      → (g ≡ TrailingBytes) × ((0 < length (line lines j)) ⊎ IsWhole lines j)
  behind_end k j g at end p = grind arith

-- the fault of a text is the first, where it is the least of its line, and no line before has one
first_from : (core cores : ℕ) (bytes : List ℕ) (k : ℕ) (f : FormatFault) → FaultAt core cores (lines_of bytes) k f
    → ((g : FormatFault) → FaultAt core cores (lines_of bytes) k g → number f ≤ number g)
    → ((j : ℕ) (g : FormatFault) → j < k → FaultAt core cores (lines_of bytes) j g → ⊥) → IsFirstFault core cores bytes k f
first_from core cores bytes k f holds least none = record {
  holds = holds;
  least = λ j g p. let here = least g in let before = none j g in grind arith;
}

-- where no other fault holds, Truncated is the first
first_cut : (core cores : ℕ) (bytes : List ℕ) (k : ℕ) → ((j : ℕ) (g : FormatFault) → FaultAt core cores (lines_of bytes) j g → g ≡ Truncated)
    → length (lines_of bytes) ≡ k → NoEndBefore (lines_of bytes) k → IsFirstFault core cores bytes k Truncated
first_cut core cores bytes k only last none = record {
  holds = (sym last, none);
  least = λ j g p. let is = only j g p in grind arith;
}

-- ---- a text of no whole line that is right

pub some_line : (bytes : List ℕ) → 0 < length (lines_of bytes)
some_line bytes = omega (arith, length-slice_split (λ b. eqb b 10) bytes)

pub header_refused : (core cores : ℕ) (bytes l : List ℕ) (ls : List (List ℕ)) (f : FormatFault) → lines_of bytes ≡ l ∷ ls → LeastHeader core cores l f
    → (0 < length ls) ⊎ ((f ≡ BadHeader) × (line_limit < length l)) → IsFirstFault core cores bytes 1 f
header_refused core cores bytes l ls f e found why =
    first_from core cores bytes 1 f (grind arith) (λ g p. let least = found.1 g in grind arith)
    (λ j g lt p. omega (arith, placed core cores (lines_of bytes) j g (some_line bytes) p))

pub header_only : (core cores : ℕ) (bytes : List ℕ) → IsOneLine bytes → length bytes ≤ line_limit → (k : ℕ) (g : FormatFault)
    → FaultAt core cores (lines_of bytes) k g → g ≡ Truncated
header_only core cores bytes one short k g p = let e = lines_of_last bytes one in grind arith

pub header_cut : (core cores : ℕ) (bytes : List ℕ) → IsOneLine bytes → length bytes ≤ line_limit → IsFirstFault core cores bytes 1 Truncated
header_cut core cores bytes one short =
    first_cut core cores bytes 1 (header_only core cores bytes one short) (ap length (lines_of_last bytes one)) (λ j lo hi shape. omega arith)

-- ---- a text that begins with the header and the records of a log

record_at : (format : Format) (records : List Record) (rest : List (List ℕ)) (i : ℕ) → AllByRecursion (FitsIn format) records → i < length records
    → (r : Record) × (get_or (map record_text records ++ rest) i [] ≡ record_text r) × FitsIn format r
record_at format [] rest i all lt = absurd (omega arith)
record_at format (r ∷ records) rest zero all lt = (r, refl, all.0)
record_at format (r ∷ records) rest (suc i) all lt = record_at format records rest i all.1 (omega arith)

-- line 1 says the format
said_of : (format : Format) (core cores : ℕ) (lines : List (List ℕ)) → line lines 1 ≡ header_text (format_number format) core cores
    → said_format lines ≡ format
unfolding said_format
said_of format core cores lines e = rw (e, header_text_is format core cores) (by_words format (numeral core ++ (codes " of " ++ numeral cores)))
  where
    by_words : (f : Format) (rest : List ℕ) → (if is_some (after (codes "tardis-log 2 core ") (words_of f ++ rest)) then Two else One) ≡ f
    by_words One rest = let other : after (codes "tardis-log 2 core ") (codes "tardis-log 1 core " ++ rest) ≡ None = unfold after in refl in rw other refl
    by_words Two rest = rw (after_again (codes "tardis-log 2 core ") rest) refl

module _ {format : Format} {core cores : ℕ} {records : List Record} (log : IsLog format core cores records) (rest : List ℕ) where
  abbrev text : List ℕ
  text = text_of (begun format core cores records) ++ rest

  abbrev lines : List (List ℕ)
  lines = lines_of text

  abbrev next : ℕ
  next = length records + 2

  parts : lines ≡ begun format core cores records ++ lines_of rest
  parts = lines_of_text (begun format core cores records) rest (begun_no_lf format core cores records)

  len : length lines ≡ length records + 1 + length (lines_of rest)
  len = ap length parts ∙ omega (arith, length-append (map record_text records) (lines_of rest), length-map records record_text)

  header_line : line lines 1 ≡ header_text (format_number format) core cores
  header_line = ap (λ (ls : List (List ℕ)). line ls 1) parts

  said : said_format lines ≡ format
  said = said_of format core cores lines header_line

  record_line : (j : ℕ) → 1 < j → j < next → (r : Record) × (line lines j ≡ record_text r) × FitsIn format r
  record_line zero lo hi = absurd (omega arith)
  record_line (suc zero) lo hi = absurd (omega arith)
  record_line (suc (suc i)) lo hi =
      let p = record_at format records (lines_of rest) i log.each_fits (omega arith) in
      (p.0, ap (λ (ls : List (List ℕ)). line ls (suc (suc i))) parts ∙ p.1, p.2)

  rest_line : (i : ℕ) → line lines (length records + (2 + i)) ≡ get_or (lines_of rest) i []
  rest_line i =
      ap (λ (ls : List (List ℕ)). line ls (length records + (2 + i))) parts
      ∙ get_or-append_right ([] ∷ begun format core cores records) (lines_of rest) next (length records + (2 + i)) []
      (omega (arith, length-map records record_text)) (omega arith)
      ∙ ap (λ (j : ℕ). get_or (lines_of rest) j []) (let z : (length records + (2 + i)) - next ≡ i = omega arith in z)

  no_end : NoEndBefore lines next
  no_end j lo hi shape = let p = record_line j lo hi in record_no_end p.0 shape.0 (sym p.1 ∙ shape.1)

  body : IsBody lines next
  body = record { later = omega arith; there = omega (arith, len, some_line rest); open_yet = no_end }

  -- no fault stands up to there
  quiet : (j : ℕ) (g : FormatFault) → j < next → FaultAt core cores lines j g → ⊥
  quiet zero g lt p = omega (arith, placed core cores lines 0 g (some_line text) p)
  quiet (suc zero) g lt p = let at = header_line in let n = len in let some = some_line rest in grind (arith, header_short, header_once)
  quiet (suc (suc i)) g lt p =
      let r = record_line (suc (suc i)) (omega arith) lt in
      record_quiet core cores lines format (suc (suc i)) i (record_text r.0) said (omega arith) (λ j lo hi. no_end j lo (omega arith)) r.1 r.0 g refl r.2
      (omega (arith, log.few)) (omega (arith, len, some_line rest)) p

  next_is : (l : List ℕ) (ls : List (List ℕ)) → lines_of rest ≡ l ∷ ls → line lines next ≡ l
  next_is l ls e = rest_line 0 ∙ ap (λ (x : List (List ℕ)). get_or x 0 []) e

  pub body_refused : (l : List ℕ) (ls : List (List ℕ)) (f : FormatFault) → lines_of rest ≡ l ∷ ls → LeastBody format (length records) l f
      → (0 < length ls) ⊎ ((f ≡ BadLine) × (limit_of format < length l)) → IsFirstFault core cores text next f
  body_refused l ls f e found why =
      let h = body_least core cores lines format next (length records) l said refl no_end (next_is l ls e) f body.there found
      (elim why [ inl whole ↦ inl (omega arith, omega (arith, len, ap length e)) | inr long ↦ inr long ]) in
      first_from core cores text next f h.0 h.1 quiet

  pub body_only : IsOneLine rest → length rest ≤ limit_of format → (k : ℕ) (g : FormatFault) → FaultAt core cores lines k g → g ≡ Truncated
  body_only one short k g p =
      let e = lines_of_last rest one in
      elim (cases_lt k next) [
        | inl later ↦ absurd (quiet k g later p)
        | inr from ↦ body_short_only core cores lines format next (length records) rest said refl no_end (next_is rest [] e) k g from
            (omega (arith, len, ap length e)) short p
      ]

  pub body_cut : IsOneLine rest → length rest ≤ limit_of format → IsFirstFault core cores text next Truncated
  body_cut one short = first_cut core cores text next (body_only one short) (omega (arith, len, ap length (lines_of_last rest one))) no_end

  -- ---- behind the end line

  module _ (l : List ℕ) (ls : List (List ℕ)) (e : lines_of rest ≡ end_text (length records) ∷ l ∷ ls) where
    end : IsEnd lines next
    end = record {
      body = body;
      whole = (omega arith, omega (arith, len, ap length e));
      shape = (length records, next_is (end_text (length records)) (l ∷ ls) e);
    }

    behind : line lines (length records + 3) ≡ l
    behind = rest_line 1 ∙ ap (λ (x : List (List ℕ)). get_or x 1 []) e

    quiet_end : (j : ℕ) (g : FormatFault) → j < length records + 3 → FaultAt core cores lines j g → ⊥
    quiet_end j g lt p = elim (cases_lt j next) [
      | inl before ↦ quiet j g before p
      | inr from ↦
          let at : j ≡ next = omega arith in
          end_quiet core cores lines format next (length records) (end_text (length records)) said refl no_end
          (next_is (end_text (length records)) (l ∷ ls) e) g refl log.few (omega (arith, len, ap length e))
          (subst (λ (k : ℕ). FaultAt core cores lines k g) at p)
    ]

    pub trailing : (0 < length l) ⊎ (0 < length ls) → IsFirstFault core cores text (length records + 3) TrailingBytes
    trailing more = first_from core cores text (length records + 3) TrailingBytes (
      (next, end, omega arith),
      elim more [
        | inl some ↦ inl (omega (arith, ap length behind))
        | inr some ↦ inr (omega arith, omega (arith, len, ap length e))
      ],
    ) (λ g p. omega (arith, ap number (behind_end core cores lines next (length records + 3) g (omega arith) end p).0)) quiet_end

    pub spelled : length l ≡ 0 → length ls ≡ 0 → (k : ℕ) (g : FormatFault) → FaultAt core cores lines k g → ⊥
    spelled none last k g p = elim (cases_lt k (length records + 3)) [
      | inl before ↦ quiet_end k g before p
      | inr from ↦
          let at : k ≡ length records + 3 = omega (arith, placed core cores lines k g (some_line text) p, len, ap length e) in
          let found = (behind_end core cores lines next k g (omega arith) end p).1 in
          omega (arith, found, ap length (ap (line lines) at ∙ behind), len, ap length e)
    ]
