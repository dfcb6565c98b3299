-- No spelling begins another.
use Rattle.std.proofs.Common.{◌≡◌, ℕ, List, [], ◌∷◌, ◌++◌, length, map, refl, sym, ap, ◌∙◌}
use Rattle.log_record.specs.declared.format.Format.{Format}
use Rattle.log_record.specs.declared.record.Record.{Record}
use Rattle.log_record.specs.Line.{record_text, end_text}
use Rattle.log_record.proofs.Lines.{record_once, header_once, record_no_end}
use Rattle.log_file.specs.Log.{Spells, begun, spelling, lines_of}
use Rattle.log_file.proofs.Lines.{lines_of_end, lines_of_text, begun_no_lf, spelling_text}

spelled_lines : (format : Format) (core cores : ℕ) (records : List Record) (x : List ℕ)
    → lines_of (spelling format core cores records ++ x) ≡ begun format core cores records ++ (end_text (length records) ∷ lines_of x)
spelled_lines format core cores records x =
    ap lines_of (spelling_text format core cores records x)
    ∙ lines_of_text (begun format core cores records) (end_text (length records) ++ 10 ∷ x) (begun_no_lf format core cores records)
    ∙ ap (λ (ls : List (List ℕ)). begun format core cores records ++ ls) (lines_of_end (length records) x)

same_records : (m n : ℕ) (rs qs : List Record) (xs ys : List (List ℕ))
    → map record_text rs ++ (end_text m ∷ xs) ≡ map record_text qs ++ (end_text n ∷ ys) → rs ≡ qs
same_records m n [] [] xs ys e = refl
same_records m n [] (q ∷ qs) xs ys e = absurd (record_no_end q m (cc))
same_records m n (r ∷ rs) [] xs ys e = absurd (record_no_end r n (cc))
same_records m n (r ∷ rs) (q ∷ qs) xs ys e =
    let one = record_once r q (cc) in let rest = same_records m n rs qs xs ys (cc) in cc

pub spelled_once : (f g : Format) (a b c d : ℕ) (rs qs : List Record) (x y : List ℕ) → spelling f a b rs ++ x ≡ spelling g c d qs ++ y
    → (f ≡ g) × (a ≡ c) × (b ≡ d) × (rs ≡ qs)
spelled_once f g a b c d rs qs x y e =
    let lines = sym (spelled_lines f a b rs x) ∙ ap lines_of e ∙ spelled_lines g c d qs y in
    let h = header_once f g a b c d (cc) in
    (h.0, h.1, h.2, same_records (length rs) (length qs) rs qs (lines_of x) (lines_of y) (cc))

-- bytes spell one log at most
pub one_log : (core cores : ℕ) (bytes : List ℕ) (rs qs : List Record) → Spells core cores bytes rs
    → Spells core cores bytes qs → rs ≡ qs
one_log core cores bytes rs qs (f, p) (g, q) =
    (spelled_once f g core cores core cores rs qs [] [] (ap (λ (xs : List ℕ). xs ++ []) (sym p.1 ∙ q.1))).3
