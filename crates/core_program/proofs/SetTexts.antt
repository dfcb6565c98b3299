-- The first line that is wrong in the text of a set, wherever its reader meets it.
use Rattle.std.proofs.Common.{◌≡◌, ℕ, ◌+◌, ◌-◌, ◌<◌, ◌≤◌, List, [], ◌∷◌, ◌++◌, length, take, drop, refl, sym, ap, subst, ◌∙◌, arith, append_assoc, append-nil, length-append}
use Rattle.std.specs.List.{AllByRecursion}
use Rattle.std.proofs.lemmas.List.{length-drop, map_push}
use Rattle.std.proofs.Math.Seq.{take-length}
use Rattle.std.specs.Global.{Vec}
use Rattle.decimal_text.proofs.Lines.{NoLf, const_no_lf}
use Rattle.core_program.specs.declared.format.ProgramFormat.{ProgramFormat}
use Rattle.core_program.specs.declared.format.ProgramFormat.TheVariants.{One}
use Rattle.core_program.specs.declared.instruction.Instruction.{Instruction}
use Rattle.core_program.specs.declared.fault.ProgramFault.{ProgramFault}
use Rattle.core_program.specs.declared.fault.ProgramFault.TheVariants.{BadLine, TooLong, SkipPastEnd, OutOfMemory}
use Rattle.core_program.specs.Answers.{SetLines, SpellsSet, IsBadLine}
use Rattle.core_program.specs.Grammar.{format_number, header_text, core_text, end_text, sections, set_lines, EachFits, IsSection, IsSetOf}
use Rattle.core_program.specs.SetParts.{SetParts}
use Rattle.core_program.specs.Sections.{SectionsInFront, IsSectionsFault, section_lists}
use Rattle.core_program.specs.inner.Sections.{HeaderInFront, IsLineFault}
use Rattle.core_program.proofs.SectionKinds.{IsKind, bad_lines, each_section, limited, unlimited}
use Rattle.core_program.proofs.SectionsOf.{AfterSections, HasSections, NotNext, each_fits_of, line_wrong, too_long_right, too_long_wrong}
use Rattle.core_program.proofs.SetLines.{Next, goes_on, next_core, last_line, has_lines, begun, sections-append, behind_header, end_is_other, filled_up, instruction_no_end, core_no_end, next_of, sections_no_other}
use Rattle.text_lines.specs.Lines.{text_of}
use Rattle.text_lines.proofs.TextLines.{text_of-append, text_of-cons}
use Rattle.text_lines.proofs.Wrong.{CanGoOn, NoneFollows, wrong_behind}

-- the last line of a set, with nothing behind it
abbrev pub IsLast : List ℕ → List (List ℕ) → Type 0
IsLast next more = (next ≡ end_text) × (more ≡ [])

-- ---- the sections of a set

begun_goes_on : (format : ProgramFormat) (Section : ProgramFormat → List Instruction → Type 0) → IsKind Section → (cores : ℕ) (programs : List (List Instruction)) → 1 ≤ cores → cores ≤ 64
    → length programs ≤ cores → AllByRecursion (Section format) programs → CanGoOn (SetLines Section) (begun (header_text (format_number format) cores) programs)
begun_goes_on format Section kind cores programs some few within each =
    let full = filled_up (Section format) (kind.empty format) cores programs within each in
    let set = programs ++ full.0 in
    let more = sections (0 + length programs) full.0 ++ end_text ∷ [] in (
      more,
      (
        record { format = format; programs = set },
        (
          record { some = omega (arith, some, full.1); few = omega (arith, few, full.1); each = full.2 },
          ap (λ (ls : List (List ℕ)). header_text (format_number format) cores ∷ ls)
              (sym (append_assoc (sections 0 programs) (sections (0 + length programs) full.0) (end_text ∷ []))
              ∙ ap (λ (ls : List (List ℕ)). ls ++ end_text ∷ []) (sym (sections-append 0 programs full.0)))
              ∙ ap (λ (n : ℕ). header_text (format_number format) n ∷ (sections 0 set ++ end_text ∷ [])) (sym full.1),
        ),
      ),
    )

next_of_begun : (format : ProgramFormat) (Section : ProgramFormat → List Instruction → Type 0) → IsKind Section → (cores : ℕ)
    (programs : List (List Instruction)) (next : List ℕ) (more : List (List ℕ)) → AllByRecursion (EachFits format) programs
    → SetLines Section (begun (header_text (format_number format) cores) programs ++ next ∷ more) → Next format (Section format) IsLast cores 0 programs next more
next_of_begun format Section kind cores programs next more each (set, p) =
    let b = behind_header format cores set (sections 0 programs ++ next ∷ more) p.1 in
    let all : AllByRecursion (Section format) set.programs = subst (λ (f : ProgramFormat). AllByRecursion (Section f) set.programs) (sym b.0) p.0.each in
    subst (λ (n : ℕ). Next format (Section format) IsLast n 0 programs next more) (sym b.1)
    (next_of format (Section format) (kind.fits format) IsLast end_text [] end_is_other (refl, refl) 0 set.programs programs next more all each (sym b.2))

-- lines that begin a set aren't the lines of a whole one
begun_no_set : (format : ProgramFormat) (Section : ProgramFormat → List Instruction → Type 0) (cores : ℕ) (programs : List (List Instruction))
    → SetLines Section (begun (header_text (format_number format) cores) programs) → ⊥
begun_no_set format Section cores programs (set, p) =
    sections_no_other end_text end_is_other programs (sections 0 set.programs) [] (behind_header format cores set (sections 0 programs) p.1).2

-- a set of this format and so many cores is a text with sections
pub set_has : (format : ProgramFormat) (Section : ProgramFormat → List Instruction → Type 0) → IsKind Section → (cores : ℕ) → 1 ≤ cores → cores ≤ 64
    → HasSections format (SetLines Section) (Section format) IsLast (header_text (format_number format) cores) cores
set_has format Section kind cores some few = record {
  lines = has_lines Section;
  can = λ programs within each. begun_goes_on format Section kind cores programs some few within each;
  next = λ programs next more each g. next_of_begun format Section kind cores programs next more each g;
  unended = λ programs g. begun_no_set format Section cores programs g;
  last_no_lf = λ next more is. subst NoLf (sym is.0) (const_no_lf end_text refl);
  last_other = λ next more is i e. instruction_no_end i (e ∙ is.0);
}

-- ---- the header

-- a set of one program of nothing
abbrev one_empty : SetParts
one_empty = record { format = One; programs = [] ∷ [] }

pub bad_header : (text : List ℕ) → ((format : ProgramFormat) (cores : ℕ) (rest : List ℕ) → HeaderInFront format cores text rest → ⊥) → IsBadLine SetLines text 1
bad_header text none = bad_lines SetLines text 1 (λ Section kind.
    wrong_behind (SetLines Section) [] text text 1 (has_lines Section) refl refl
    (set_lines one_empty, (one_empty, (record { some = omega arith; few = omega arith; each = (kind.empty One, tt) }, refl))) (follows Section) (λ e g. cc))
  where
    follows : (Section : ProgramFormat → List Instruction → Type 0) → NoneFollows (SetLines Section) [] text
    follows Section next more behind (set, p) is =
        let first : next ≡ header_text (format_number set.format) (length set.programs) = cc in
        none set.format (length set.programs) behind (p.0.some, p.0.few, is ∙ ap (λ (l : List ℕ). l ++ 10 ∷ behind) first)

-- ---- the line of a core, and the last line

-- the sections that come after a header
pub after_header : (format : ProgramFormat) (text body rest : List ℕ) (header : List ℕ) (cores line : ℕ) (programs : List (List Instruction)) → text ≡ header ++ 10 ∷ body
    → SectionsInFront format cores body programs rest → line ≡ 2 + length (sections 0 programs) → AfterSections format header cores text programs rest line
after_header format text body rest header cores line programs is there line-is = record {
  within = there.within;
  each = there.each;
  text_is = is ∙ ap (λ (xs : List ℕ). header ++ 10 ∷ xs) there.text ∙ sym (text_of-cons header (sections 0 programs) rest);
  line_is = omega (arith, line-is);
  all = there.whole;
}

pub bad_line_of_set : (format : ProgramFormat) (text rest : List ℕ) (cores line : ℕ) (programs : List (List Instruction)) → 1 ≤ cores → cores ≤ 64
    → AfterSections format (header_text (format_number format) cores) cores text programs rest line → NotNext IsLast cores programs rest → IsBadLine SetLines text line
bad_line_of_set format text rest cores line programs some few stands others = bad_lines SetLines text line (λ Section kind.
    line_wrong format (SetLines Section) (Section format) IsLast (header_text (format_number format) cores) cores (set_has format Section kind cores some few) text rest line programs
    (each_section Section kind format programs stands.each) stands others)

-- the line of a core is missing
pub no_core_line : (format : ProgramFormat) (text rest : List ℕ) (cores line : ℕ) (programs : List (List Instruction)) → 1 ≤ cores → cores ≤ 64
    → AfterSections format (header_text (format_number format) cores) cores text programs rest line → length programs < cores
    → ((behind : List ℕ) → rest ≡ core_text (length programs) ++ 10 ∷ behind → ⊥) → IsBadLine SetLines text line
no_core_line format text rest cores line programs some few stands less none =
    bad_line_of_set format text rest cores line programs some few stands (record {
      no_core = λ l behind is. none behind is;
      no_last = λ same next more behind last is. absurd (omega (arith, less, same));
    })

-- the last line is
pub no_last_line : (format : ProgramFormat) (text rest : List ℕ) (cores line : ℕ) (programs : List (List Instruction)) → 1 ≤ cores → cores ≤ 64
    → AfterSections format (header_text (format_number format) cores) cores text programs rest line → length programs ≡ cores
    → ((behind : List ℕ) → rest ≡ end_text ++ 10 ∷ behind → ⊥) → IsBadLine SetLines text line
no_last_line format text rest cores line programs some few stands count none =
    bad_line_of_set format text rest cores line programs some few stands (record {
      no_core = λ less behind is. absurd (omega (arith, less, count));
      no_last = λ same next more behind last is. none behind (is ∙ ap (λ (l : List ℕ). l ++ 10 ∷ behind) last.0);
    })

-- ---- the last line

-- the sections of all cores and the last line
whole : (format : ProgramFormat) (text rest behind : List ℕ) (cores line : ℕ) (programs : List (List Instruction)) → AfterSections format (header_text (format_number format) cores) cores text programs rest line
    → rest ≡ end_text ++ 10 ∷ behind → text ≡ text_of (begun (header_text (format_number format) cores) programs ++ end_text ∷ []) ++ behind
whole format text rest behind cores line programs stands is =
    let front = begun (header_text (format_number format) cores) programs in
    stands.text_is ∙ ap (λ (xs : List ℕ). text_of front ++ xs) (is ∙ sym (text_of-cons end_text [] behind))
    ∙ sym (append_assoc (text_of front) (text_of (end_text ∷ [])) behind)
    ∙ ap (λ (xs : List ℕ). xs ++ behind) (sym (text_of-append front (end_text ∷ [])))

lines_of_set : (format : ProgramFormat) (cores : ℕ) (programs : List (List Instruction)) → length programs ≡ cores
    → begun (header_text (format_number format) cores) programs ++ end_text ∷ [] ≡ set_lines (record { format = format; programs = programs })
lines_of_set format cores programs count = ap (λ (n : ℕ). header_text (format_number format) n ∷ (sections 0 programs ++ end_text ∷ [])) (sym count)

set_of : (Section : List Instruction → Type 0) (cores : ℕ) (programs : List (List Instruction)) → 1 ≤ cores → cores ≤ 64
    → AllByRecursion Section programs → length programs ≡ cores → IsSetOf Section programs
set_of Section cores programs some few each count = record { some = omega (arith, some, count); few = omega (arith, few, count); each = each }

pub spelled : (format : ProgramFormat) (text rest : List ℕ) (cores line : ℕ) (programs : List (List Instruction)) → 1 ≤ cores → cores ≤ 64
    → AfterSections format (header_text (format_number format) cores) cores text programs rest line → length programs ≡ cores → rest ≡ end_text ++ 10 ∷ []
    → SpellsSet text (record { format = format; programs = programs })
spelled format text rest cores line programs some few stands count is =
    let all = begun (header_text (format_number format) cores) programs ++ end_text ∷ [] in (
      set_of (IsSection format) cores programs some few stands.each count,
      whole format text rest [] cores line programs stands is ∙ append-nil (text_of all) ∙ ap text_of (lines_of_set format cores programs count),
    )

pub more_behind : (format : ProgramFormat) (text rest behind : List ℕ) (cores line k : ℕ) (programs : List (List Instruction)) → 1 ≤ cores → cores ≤ 64
    → AfterSections format (header_text (format_number format) cores) cores text programs rest line
    → length programs ≡ cores → rest ≡ end_text ++ 10 ∷ behind → 0 < length behind → k ≡ line + 1 → IsBadLine SetLines text k
more_behind format text rest behind cores line k programs some few stands count is more k-is = bad_lines SetLines text k (λ Section kind.
    wrong_behind (SetLines Section) front text behind k (has_lines Section) (whole format text rest behind cores line programs stands is)
    (omega (arith, length-append (begun (header_text (format_number format) cores) programs) (end_text ∷ []), stands.line_is, k-is))
    ([], (record { format = format; programs = programs }, (set_of (Section format) cores programs some few (each_section Section kind format programs stands.each) count, append-nil front ∙ lines_of_set format cores programs count)))
    (follows Section kind) (λ e g. omega (arith, ap length e)))
  where
    front : List (List ℕ)
    front = begun (header_text (format_number format) cores) programs ++ end_text ∷ []

    by_next : (Section : ProgramFormat → List Instruction → Type 0) (next : List ℕ) (others : List (List ℕ)) → Next format (Section format) IsLast cores 0 programs end_text (next ∷ others) → ⊥
    by_next Section next others (goes_on i before last longer fit next-is at section less) = instruction_no_end i (sym next-is)
    by_next Section next others (next_core next-is less) = core_no_end (0 + length programs) (sym next-is)
    by_next Section next others (last_line last same) = let wrong : next ∷ others ≡ [] = last.1 in cc

    follows : (Section : ProgramFormat → List Instruction → Type 0) → IsKind Section → NoneFollows (SetLines Section) front behind
    follows Section kind next others after g there =
        by_next Section next others
        (next_of_begun format Section kind cores programs end_text (next ∷ others) (each_fits_of format programs stands.each)
        (subst (SetLines Section) (append_assoc (begun (header_text (format_number format) cores) programs) (end_text ∷ []) (next ∷ others)) g))

-- ---- what a reader of sections refuses

pub sections_refused : (format : ProgramFormat) (text body : List ℕ) (cores : ℕ) (fault : ProgramFault) → HeaderInFront format cores text body
    → IsSectionsFault format cores body fault → IsLineFault text fault
sections_refused format text body cores (BadLine k) there h = absurd h
sections_refused format text body cores (SkipPastEnd k) there h = absurd h
sections_refused format text body cores OutOfMemory there h = tt
sections_refused format text body cores (TooLong k) (some, few, is) h =
    let header = header_text (format_number format) cores in
    let line = 2 + length (sections 0 h.before) in
    let stands : AfterSections format header cores text h.before h.rest line = after_header format text body h.rest header cores line h.before is h.in_front refl in
    let from = h.core ∙ ap (λ (xs : List ℕ). core_text (length h.before) ++ 10 ∷ xs) h.many.text in (
      too_long_wrong format IsLast header cores text h.rest h.many.rest line k h.before h.many.program stands from h.more h.many.each_fits h.many.long (omega (arith, h.line))
          (SetLines IsSection) (set_has format IsSection limited cores some few),
      too_long_right format IsLast header cores text h.rest h.many.rest line k h.before h.many.program stands from h.more h.many.each_fits h.many.long (omega (arith, h.line))
          (SetLines EachFits) (set_has format EachFits unlimited cores some few),
    )

-- ---- lists that vectors hold

-- all bytes after a place
pub rest_is : (xs : List ℕ) (n : ℕ) → drop n xs ≡ take (length xs - n) (drop n xs)
rest_is xs n = sym (ap (λ (k : ℕ). take k (drop n xs)) (sym (length-drop n xs)) ∙ take-length (drop n xs))

pub section_lists_push : (old new : List (Vec Instruction)) (section : Vec Instruction) → new ≡ old ++ section ∷ []
    → section_lists old ++ section.items ∷ [] ≡ section_lists new
section_lists_push old new section is =
    sym (ap section_lists is ∙ map_push (λ (v : Vec Instruction). v.items) old section)
