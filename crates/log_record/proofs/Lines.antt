-- What every line of a log is like: no line feed in it, short where its numbers are in range, and determined
-- by its text.
use Rattle.std.proofs.Common.{◌≡◌, ℕ, ◌+◌, ◌<◌, ◌≤◌, ◌^◌, List, [], ◌∷◌, ◌++◌, length, refl, sym, ap, subst, ◌∙◌, arith, length-append}
use Rattle.std.specs.Prelude.{codes, true}
use Rattle.std.proofs.lemmas.Fmt.{length-decimal-le}
use Rattle.mem_op.specs.declared.id.Source.{Source}
use Rattle.mem_op.specs.declared.id.Source.TheVariants as source
use Rattle.mem_op.specs.Limits.{operation_limit}
use Rattle.log_record.specs.declared.format.Format.{Format}
use Rattle.log_record.specs.declared.format.Format.TheVariants.{One, Two}
use Rattle.log_record.specs.declared.act.Act.{Act}
use Rattle.log_record.specs.declared.act.Act.TheVariants as act
use Rattle.log_record.specs.declared.record.Record.{Record}
use Rattle.decimal_text.specs.Numbers.{numeral}
use Rattle.log_record.specs.Line.{format_number, source_text, record_text, header_text, end_text, line_limit, limit_of, has_act, FitsIn, ActFits, SourceFits}
use Rattle.log_record.specs.inner.Reading.{Fields, record_of, header_of, end_of}
pub use Rattle.decimal_text.proofs.Lines.{NoLf, NoLf-append, NoLf-all, numeral_no_lf}
use Rattle.decimal_text.proofs.Lines.{const_no_lf}
use Rattle.log_record.proofs.Records.{fields_text, fields_in, lettered_text, record_text_is, record_again}
use Rattle.decimal_text.proofs.Reading.{some_is}
use Rattle.log_record.proofs.Ends.{words_of, header_text_is, header_again, end_again}
use Rattle.decimal_text.proofs.Printing.{numeral_decimal}

-- ---- no line feed

source_no_lf : (s : Source) → NoLf (source_text s)
source_no_lf source.Init = (refl, (refl, (refl, (refl, tt))))
source_no_lf (source.Store id) = NoLf-append (numeral id.core) (46 ∷ numeral id.index) (numeral_no_lf id.core) (refl, numeral_no_lf id.index)

fields_no_lf : (f : Fields) (rest : List ℕ) → NoLf rest → NoLf (fields_text f rest)
fields_no_lf f rest h =
    NoLf-append (numeral f.addr) (32 ∷ (numeral f.value ++ (32 ∷ (numeral f.ts ++ (32 ∷ rest))))) (numeral_no_lf f.addr) (
      refl,
      NoLf-append (numeral f.value) (32 ∷ (numeral f.ts ++ (32 ∷ rest))) (numeral_no_lf f.value)
          (refl, NoLf-append (numeral f.ts) (32 ∷ rest) (numeral_no_lf f.ts) (refl, h)),
    )

lettered_no_lf : (a : Act) (f : Fields) (rank : ℕ) → NoLf (lettered_text a f rank [])
lettered_no_lf act.Store f rank = (refl, (refl, fields_no_lf f (numeral rank ++ []) (NoLf-append (numeral rank) [] (numeral_no_lf rank) tt)))
lettered_no_lf (act.Load s) f rank =
    (refl, (refl, fields_no_lf f (numeral rank ++ (32 ∷ (source_text s ++ []))) (NoLf-append (numeral rank) (32 ∷ (source_text s ++ [])) (numeral_no_lf rank) (refl, NoLf-append (source_text s) [] (source_no_lf s) tt))))
lettered_no_lf (act.Swap s read) f rank = (
  refl,
  (
    refl,
    fields_no_lf f (numeral rank ++ (32 ∷ (source_text s ++ (32 ∷ (numeral read ++ [])))))
        (NoLf-append (numeral rank) (32 ∷ (source_text s ++ (32 ∷ (numeral read ++ [])))) (numeral_no_lf rank)
        (refl, NoLf-append (source_text s) (32 ∷ (numeral read ++ [])) (source_no_lf s) (refl, NoLf-append (numeral read) [] (numeral_no_lf read) tt))),
  ),
)

pub record_no_lf : (r : Record) → NoLf (record_text r)
record_no_lf r = subst NoLf (sym (record_text_is r)) (lettered_no_lf r.act (fields_in r) r.rank)

pub header_no_lf : (format core cores : ℕ) → NoLf (header_text format core cores)
unfolding header_text
header_no_lf format core cores =
    NoLf-append (codes "tardis-log ") (numeral format ++ (codes " core " ++ (numeral core ++ (codes " of " ++ numeral cores)))) (const_no_lf (codes "tardis-log ") refl)
    (NoLf-append (numeral format) (codes " core " ++ (numeral core ++ (codes " of " ++ numeral cores))) (numeral_no_lf format)
    (NoLf-append (codes " core ") (numeral core ++ (codes " of " ++ numeral cores)) (const_no_lf (codes " core ") refl)
    (NoLf-append (numeral core) (codes " of " ++ numeral cores) (numeral_no_lf core)
    (NoLf-append (codes " of ") (numeral cores) (const_no_lf (codes " of ") refl) (numeral_no_lf cores)))))

pub end_no_lf : (count : ℕ) → NoLf (end_text count)
unfolding end_text
end_no_lf count = NoLf-append (codes "end ") (numeral count) (const_no_lf (codes "end ") refl) (numeral_no_lf count)

-- ---- short

numeral_short : (k n : ℕ) → 0 < k → n < 10 ^ k → n < 2 ^ 64 → length (numeral n) ≤ k
numeral_short k n pos small lt = subst (λ (xs : List ℕ). length xs ≤ k) (sym (numeral_decimal n lt)) (length-decimal-le k n pos small lt)

source_short : (s : Source) → SourceFits s → length (source_text s) ≤ 10
source_short source.Init fits = omega arith
source_short (source.Store id) fits =
    omega (arith, length-append (numeral id.core) (46 ∷ numeral id.index), numeral_short 2 id.core (omega arith) (omega arith) (omega arith), numeral_short 7 id.index (omega arith) (omega arith) (omega arith))

fields_short : (f : Fields) (rest : List ℕ) (n : ℕ) → f.addr < 65536 → f.value < 2 ^ 64 → f.ts ≤ 281474976710656 → length rest ≤ n → length (fields_text f rest) ≤ 43 + n
fields_short f rest n a v t le =
    omega (
      arith,
      length-append (numeral f.addr) (32 ∷ (numeral f.value ++ (32 ∷ (numeral f.ts ++ (32 ∷ rest))))),
      length-append (numeral f.value) (32 ∷ (numeral f.ts ++ (32 ∷ rest))),
      length-append (numeral f.ts) (32 ∷ rest),
      numeral_short 5 f.addr (omega arith) (omega arith) (omega arith),
      numeral_short 20 f.value (omega arith) (omega arith) (omega arith),
      numeral_short 15 f.ts (omega arith) (omega arith) (omega arith),
    )

swap_short : (src : Source) (read : ℕ) (f : Fields) (rank : ℕ) → SourceFits src → read < 2 ^ 64 → f.addr < 65536 → f.value < 2 ^ 64 → f.ts ≤ 281474976710656 → rank < 4294967296
    → length (lettered_text (act.Swap src read) f rank []) ≤ 96
swap_short src read f rank fits o a v t k =
    let s : length (numeral rank ++ (32 ∷ (source_text src ++ (32 ∷ (numeral read ++ []))))) ≤ 42 =
    omega (
      arith,
      length-append (numeral rank) (32 ∷ (source_text src ++ (32 ∷ (numeral read ++ [])))),
      length-append (source_text src) (32 ∷ (numeral read ++ [])),
      length-append (numeral read) [],
      source_short src fits,
      numeral_short 10 rank (omega arith) (omega arith) (omega arith),
      numeral_short 20 read (omega arith) (omega arith) (omega arith),
    ) in
    omega (arith, fields_short f (numeral rank ++ (32 ∷ (source_text src ++ (32 ∷ (numeral read ++ []))))) 42 a v t s)

-- a line that is short in either format
pub within_limit : (format : Format) (line : List ℕ) → length line ≤ line_limit → length line ≤ limit_of format
within_limit One line short = short
within_limit Two line short = omega arith

tagged_short : (format : Format) (a : Act) (f : Fields) (rank : ℕ) → has_act format a ≡ true → ActFits a → f.addr < 65536 → f.value < 2 ^ 64 → f.ts ≤ 281474976710656 → rank < 4294967296
    → length (lettered_text a f rank []) ≤ limit_of format
tagged_short format act.Store f rank has fits a v t k =
    let s : length (numeral rank ++ []) ≤ 10 = omega (arith, length-append (numeral rank) [], numeral_short 10 rank (omega arith) (omega arith) (omega arith)) in
    within_limit format (lettered_text act.Store f rank []) (omega (arith, fields_short f (numeral rank ++ []) 10 a v t s))
tagged_short One (act.Swap src read) f rank has fits a v t k = absurd cc
tagged_short Two (act.Swap src read) f rank has fits a v t k = swap_short src read f rank fits.0 fits.1 a v t k
tagged_short format (act.Load src) f rank has fits a v t k =
    let s : length (numeral rank ++ (32 ∷ (source_text src ++ []))) ≤ 21 =
    omega (arith, length-append (numeral rank) (32 ∷ (source_text src ++ [])), length-append (source_text src) [], source_short src fits, numeral_short 10 rank (omega arith) (omega arith) (omega arith)) in
    within_limit format (lettered_text (act.Load src) f rank []) (omega (arith, fields_short f (numeral rank ++ (32 ∷ (source_text src ++ []))) 21 a v t s))

pub record_short : (format : Format) (r : Record) → FitsIn format r → length (record_text r) ≤ limit_of format
record_short format r fits =
    subst (λ (xs : List ℕ). length xs ≤ limit_of format) (sym (record_text_is r))
    (tagged_short format r.act (fields_in r) r.rank fits.has fits.numbers.act fits.numbers.addr fits.numbers.value fits.numbers.ts fits.numbers.rank)

pub header_short : (format : Format) (core cores : ℕ) → core < cores → cores < 65
    → length (header_text (format_number format) core cores) ≤ line_limit
header_short format core cores lt few =
    subst (λ (xs : List ℕ). length xs ≤ 80) (sym (header_text_is format core cores)) (short format)
  where
    behind : length (numeral core ++ (codes " of " ++ numeral cores)) ≤ 8
    behind = omega (
      arith,
      length-append (numeral core) (codes " of " ++ numeral cores),
      numeral_short 2 core (omega arith) (omega arith) (omega arith),
      numeral_short 2 cores (omega arith) (omega arith) (omega arith),
    )

    short : (format : Format) → length (words_of format ++ (numeral core ++ (codes " of " ++ numeral cores))) ≤ 80
    short One = omega (arith, behind, length-append (codes "tardis-log 1 core ") (numeral core ++ (codes " of " ++ numeral cores)))
    short Two = omega (arith, behind, length-append (codes "tardis-log 2 core ") (numeral core ++ (codes " of " ++ numeral cores)))

pub end_short : (count : ℕ) → count ≤ operation_limit → length (end_text count) ≤ line_limit
unfolding end_text
end_short count le = omega (arith, numeral_short 7 count (omega arith) (omega arith) (omega arith))

-- ---- once

pub record_once : (q r : Record) → record_text q ≡ record_text r → q ≡ r
record_once q r e = some_is q r (sym (record_again q) ∙ ap record_of e ∙ record_again r)

pub header_once : (f g : Format) (a b c d : ℕ) → header_text (format_number f) a b ≡ header_text (format_number g) c d
    → (f ≡ g) × (a ≡ c) × (b ≡ d)
header_once f g a b c d e =
    let joined = some_is (f, (a, b)) (g, (c, d)) (sym (header_again f a b) ∙ ap header_of e ∙ header_again g c d) in (
      ap (λ (p : Format × (ℕ × ℕ)). p.0) joined,
      ap (λ (p : Format × (ℕ × ℕ)). p.1.0) joined,
      ap (λ (p : Format × (ℕ × ℕ)). p.1.1) joined,
    )

pub end_once : (m n : ℕ) → end_text m ≡ end_text n → m ≡ n
end_once m n e = some_is m n (sym (end_again m) ∙ ap end_of e ∙ end_again n)

-- ---- no line is another's

-- the first byte, or 0
abbrev first_of : List ℕ → ℕ
first_of [] = 0
first_of (b ∷ bs) = b

tag_at : (a : Act) (f : Fields) (rank : ℕ) → first_of (lettered_text a f rank []) ≤ 88
tag_at act.Store f rank = omega arith
tag_at (act.Load s) f rank = omega arith
tag_at (act.Swap s read) f rank = omega arith

first_of_record : (r : Record) → first_of (record_text r) ≤ 88
first_of_record r = subst (λ (xs : List ℕ). first_of xs ≤ 88) (sym (record_text_is r)) (tag_at r.act (fields_in r) r.rank)

first_of_header : (format core cores : ℕ) → first_of (header_text format core cores) ≡ 116
unfolding header_text
first_of_header format core cores = refl

first_of_end : (count : ℕ) → first_of (end_text count) ≡ 101
unfolding end_text
first_of_end count = refl

pub record_no_header : (r : Record) (format core cores : ℕ) → record_text r ≡ header_text format core cores → ⊥
record_no_header r format core cores e = omega (arith, first_of_record r, ap first_of e, first_of_header format core cores)

pub record_no_end : (r : Record) (count : ℕ) → record_text r ≡ end_text count → ⊥
record_no_end r count e = omega (arith, first_of_record r, ap first_of e, first_of_end count)

pub header_no_end : (format core cores count : ℕ) → header_text format core cores ≡ end_text count → ⊥
header_no_end format core cores count e = omega (arith, first_of_header format core cores, ap first_of e, first_of_end count)
