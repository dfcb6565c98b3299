-- A reader that is fed bytes, line by line.
use Rattle.std.proofs.Common.{◌≡◌, ℕ, ◌+◌, ◌<◌, Bool, false, List, [], ◌∷◌, ◌++◌, length, map, None, refl, sym, ap, subst, ◌∙◌, arith, append_assoc, append-nil, ◌==◌, cond, count_by}
use Rattle.std.proofs.lemmas.Bool.{ne_eqb}
use Rattle.std.specs.List.{AllByRecursion, AllZip, slice_split}
use Rattle.std.specs.Str.Lines.{lines, lines_of_parts, strip_carriage_return}
use Rattle.std.proofs.lemmas.Grind.{flat_map-append}
use Rattle.std.proofs.lemmas.List.{map-append}
use Rattle.std.proofs.lemmas.List.Elements.{All-append}
use Rattle.std.proofs.lemmas.List.Splits.{slice_split_at, slice_split_none, length-slice_split}
use Rattle.mem_op.specs.Consistency.{Operation}
use Rattle.trace.specs.declared.fault.TraceFault.{TraceFault}
use Rattle.trace.specs.declared.fault.TraceFault.TheVariants.{BadTraceLine, TooMany, OutOfMemory}
use Rattle.trace.specs.declared.line.TraceLine.{TraceLine}
use Rattle.trace.specs.Grammar.{IsLine}
use Rattle.trace.specs.Growing.{IsOfSize}
use Rattle.trace.specs.Reading.{Reading, WasFed}
use Rattle.trace.specs.Texts.{SpellsTrace, IsFaultAt, HasFirstFault, IsFault}
use Rattle.trace.specs.inner.Taking.{TakesLine}
use Rattle.text_lines.specs.Lines.{IsOneLine, text_of}
use Rattle.text_lines.proofs.Items.{each_push}

-- ---- lines

abbrev is_lf : ℕ → Bool
is_lf b = b == 10

-- the parts of bytes at their line feeds are some
some_parts : (line bytes : List ℕ) → lines_of_parts (line ∷ slice_split is_lf bytes) ≡ strip_carriage_return line ∷ lines bytes
some_parts line bytes = go (slice_split is_lf bytes) (count_by is_lf bytes) (length-slice_split is_lf bytes)
  where
    go : (parts : List (List ℕ)) (n : ℕ) → length parts ≡ n + 1 → lines_of_parts (line ∷ parts) ≡ strip_carriage_return line ∷ lines_of_parts parts
    go [] n e = absurd (omega arith)
    go (part ∷ parts) n e = refl

pub first_line : (line more : List ℕ) → IsOneLine line → lines (line ++ 10 ∷ more) ≡ strip_carriage_return line ∷ lines more
first_line line more one = ap lines_of_parts (slice_split_at is_lf line 10 more one refl) ∙ some_parts line more

pub last_line : (b : ℕ) (bs : List ℕ) → IsOneLine (b ∷ bs) → lines (b ∷ bs) ≡ (b ∷ bs) ∷ []
last_line b bs one =
    ap lines_of_parts (slice_split_none is_lf (b ∷ bs) one)
    ∙ ap (λ t. cond t [] ((b ∷ bs) ∷ [])) (ne_eqb (length (b ∷ bs)) 0 (λ e. omega arith))

-- whole lines before other bytes
pub whole_lines : (whole : List (List ℕ)) (more : List ℕ) → AllByRecursion IsOneLine whole
    → lines (text_of whole ++ more) ≡ map strip_carriage_return whole ++ lines more
whole_lines [] more each = refl
whole_lines (line ∷ whole) more each =
    ap lines (append_assoc (line ++ 10 ∷ []) (text_of whole) more ∙ append_assoc line (10 ∷ []) (text_of whole ++ more))
    ∙ first_line line (text_of whole ++ more) each.0
    ∙ ap (λ rest. strip_carriage_return line ∷ rest) (whole_lines whole more each.1)

-- ---- lists

pub says_push : (ls : List (List ℕ)) (said : List TraceLine) (line : List ℕ) (last : TraceLine) → AllZip IsLine ls said → IsLine line last
    → AllZip IsLine (ls ++ line ∷ []) (said ++ last ∷ [])
says_push [] [] line last says is = (is, tt)
says_push [] (s ∷ said) line last says is = absurd says
says_push (l ∷ ls) [] line last says is = absurd says
says_push (l ∷ ls) (s ∷ said) line last says is = (says.0, says_push ls said line last says.1 is)

-- ---- what was fed

pub fed_nothing : (s : Reading) → s.cores ≡ [] → s.count ≡ 0 → s.begun ≡ [] → s.fault ≡ None → WasFed s []
fed_nothing s none zero empty faultless = record {
  faultless = faultless;
  whole = [];
  each = tt;
  one = subst IsOneLine (sym empty) (λ k d l. absurd (omega arith));
  bytes_are = sym empty;
  said = [];
  says = tt;
  stands = record {
    size = rw none (record { few = omega arith; short = λ core. omega arith });
    trace = none;
    counted = zero;
  };
}

-- the bytes with one more whole line, which begins with those that were begun
text_with_line : (w : List (List ℕ)) (begun part bytes more : List ℕ) → bytes ≡ text_of w ++ begun
    → bytes ++ (part ++ 10 ∷ more) ≡ text_of w ++ ((begun ++ part) ++ 10 ∷ more)
text_with_line w begun part bytes more is =
    ap (λ b. b ++ (part ++ 10 ∷ more)) is
    ∙ append_assoc (text_of w) begun (part ++ 10 ∷ more)
    ∙ ap (λ r. text_of w ++ r) (sym (append_assoc begun part (10 ∷ more)))

-- one more line
pub fed_line : (s t : Reading) (bytes part : List ℕ) (w : WasFed s bytes) → IsOneLine part
    → TakesLine w.said (strip_carriage_return (s.begun ++ part)) t.cores t.count → t.begun ≡ [] → t.fault ≡ s.fault
    → WasFed t (bytes ++ (part ++ 10 ∷ []))
fed_line s t bytes part w one takes empty same =
    let line = s.begun ++ part in
    record {
      faultless = same ∙ w.faultless;
      whole = w.whole ++ line ∷ [];
      each = each_push IsOneLine w.whole line w.each (All-append (λ b. (b == 10) ≡ false) s.begun part w.one one);
      one = subst IsOneLine (sym empty) (λ k d l. absurd (omega arith));
      bytes_are = text_with_line w.whole s.begun part bytes [] w.bytes_are
          ∙ sym (flat_map-append (λ (l : List ℕ). l ++ 10 ∷ []) w.whole (line ∷ []) ∙ ap (λ r. text_of w.whole ++ r) (append-nil (line ++ 10 ∷ [])))
          ∙ sym (append-nil (text_of (w.whole ++ line ∷ []))) ∙ ap (λ b. text_of (w.whole ++ line ∷ []) ++ b) (sym empty);
      said = w.said ++ takes.last ∷ [];
      says = subst (λ ls. AllZip IsLine ls (w.said ++ takes.last ∷ [])) (sym (map-append strip_carriage_return w.whole (line ∷ [])))
          (says_push (map strip_carriage_return w.whole) w.said (strip_carriage_return line) takes.last w.says takes.is_line);
      stands = takes.stands;
    }

-- more of a line
pub fed_more : (s t : Reading) (bytes rest : List ℕ) → WasFed s bytes → IsOneLine rest → t.cores ≡ s.cores → t.count ≡ s.count → t.begun ≡ s.begun ++ rest
    → t.fault ≡ s.fault → WasFed t (bytes ++ rest)
fed_more s t bytes rest w one cores count begun same = record {
  faultless = same ∙ w.faultless;
  whole = w.whole;
  each = w.each;
  one = subst IsOneLine (sym begun) (All-append (λ b. (b == 10) ≡ false) s.begun rest w.one one);
  bytes_are = ap (λ b. b ++ rest) w.bytes_are ∙ append_assoc (text_of w.whole) s.begun rest ∙ ap (λ b. text_of w.whole ++ b) (sym begun);
  said = w.said;
  says = w.says;
  stands = record {
    size = rw cores w.stands.size;
    trace = cores ∙ w.stands.trace;
    counted = count ∙ w.stands.counted;
  };
}

-- ---- faults

first_fault : (bytes : List ℕ) (fault : TraceFault) → HasFirstFault bytes fault → IsFault bytes fault
first_fault bytes (BadTraceLine k) h = h
first_fault bytes (TooMany k) h = h
first_fault bytes OutOfMemory h = tt

fault_of : (s : Reading) (bytes all : List ℕ) (line : List ℕ) (later : List (List ℕ)) (fault : TraceFault) (w : WasFed s bytes)
    → lines all ≡ map strip_carriage_return w.whole ++ line ∷ later → IsFaultAt w.said line fault → IsFault all fault
fault_of s bytes all line later fault w are at = first_fault all fault (record {
  earlier = map strip_carriage_return w.whole;
  line = line;
  later = later;
  lines_are = are;
  before = w.said;
  says = w.says;
  size = subst IsOfSize w.stands.trace w.stands.size;
  fault_at = at;
})

-- the fault of a whole line stays
pub settled : (s : Reading) (bytes part : List ℕ) (fault : TraceFault) (w : WasFed s bytes) → IsOneLine part
    → IsFaultAt w.said (strip_carriage_return (s.begun ++ part)) fault → (more : List ℕ) → IsFault (bytes ++ (part ++ 10 ∷ more)) fault
settled s bytes part fault w one at more =
    let line = s.begun ++ part in
    fault_of s bytes (bytes ++ (part ++ 10 ∷ more)) (strip_carriage_return line) (lines more) fault w
    (ap lines (text_with_line w.whole s.begun part bytes more w.bytes_are)
    ∙ whole_lines w.whole (line ++ 10 ∷ more) w.each
    ∙ ap (λ r. map strip_carriage_return w.whole ++ r) (first_line line more (All-append (λ b. (b == 10) ≡ false) s.begun part w.one one)))
    at

-- ---- the end

-- the lines of the bytes that were fed, where the last one isn't ended
open_lines : (s : Reading) (bytes : List ℕ) (w : WasFed s bytes) → 0 < length s.begun → lines bytes ≡ map strip_carriage_return w.whole ++ s.begun ∷ []
open_lines s bytes w some =
    ap lines w.bytes_are ∙ whole_lines w.whole s.begun w.each ∙ ap (λ r. map strip_carriage_return w.whole ++ r) (last s.begun some w.one)
  where
    last : (begun : List ℕ) → 0 < length begun → IsOneLine begun → lines begun ≡ begun ∷ []
    last [] some one = absurd (omega arith)
    last (b ∷ bs) some one = last_line b bs one

pub ended : (s : Reading) (bytes : List ℕ) → WasFed s bytes → s.begun ≡ [] → SpellsTrace bytes s.cores
ended s bytes w empty = record {
  said = w.said;
  says = subst (λ ls. AllZip IsLine ls w.said)
      (sym (ap lines (w.bytes_are ∙ ap (λ b. text_of w.whole ++ b) empty) ∙ whole_lines w.whole [] w.each ∙ append-nil (map strip_carriage_return w.whole)))
      w.says;
  size = w.stands.size;
  trace = w.stands.trace;
}

pub ended_with : (s : Reading) (bytes : List ℕ) (cores : List (List Operation)) (count : ℕ) (w : WasFed s bytes) → 0 < length s.begun
    → TakesLine w.said s.begun cores count → SpellsTrace bytes cores
ended_with s bytes cores count w some takes = record {
  said = w.said ++ takes.last ∷ [];
  says = subst (λ ls. AllZip IsLine ls (w.said ++ takes.last ∷ [])) (sym (open_lines s bytes w some))
      (says_push (map strip_carriage_return w.whole) w.said s.begun takes.last w.says takes.is_line);
  size = takes.stands.size;
  trace = takes.stands.trace;
}

pub fault_at_end : (s : Reading) (bytes : List ℕ) (fault : TraceFault) (w : WasFed s bytes) → 0 < length s.begun → IsFaultAt w.said s.begun fault
    → IsFault bytes fault
fault_at_end s bytes fault w some at = fault_of s bytes bytes s.begun [] fault w (open_lines s bytes w some) at

-- ---- pieces

pub cut_fault : (bytes taken part behind piece more : List ℕ) → piece ≡ taken ++ (part ++ 10 ∷ behind)
    → (bytes ++ taken) ++ (part ++ 10 ∷ (behind ++ more)) ≡ (bytes ++ piece) ++ more
cut_fault bytes taken part behind piece more is =
    append_assoc bytes taken (part ++ 10 ∷ (behind ++ more))
    ∙ ap (λ r. bytes ++ r) (ap (λ r. taken ++ r) (sym (append_assoc part (10 ∷ behind) more)) ∙ sym (append_assoc taken (part ++ 10 ∷ behind) more) ∙ ap (λ p. p ++ more) (sym is))
    ∙ sym (append_assoc bytes piece more)

pub cut_line : (taken part behind piece rest : List ℕ) → piece ≡ taken ++ rest → rest ≡ part ++ 10 ∷ behind → piece ≡ (taken ++ (part ++ 10 ∷ [])) ++ behind
cut_line taken part behind piece rest is found =
    is ∙ ap (λ r. taken ++ r) (found ∙ sym (append_assoc part (10 ∷ []) behind)) ∙ sym (append_assoc taken (part ++ 10 ∷ []) behind)
