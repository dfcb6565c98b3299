-- Sections, read one by one.
use Rattle.std.proofs.Common.{◌≡◌, ℕ, ◌+◌, ◌-◌, ◌*◌, ◌<◌, ◌≤◌, List, [], ◌∷◌, ◌++◌, length, drop, refl, sym, ap, subst, ◌∙◌, arith, append_assoc, length-append}
use Rattle.std.proofs.lemmas.List.{take-append-drop}
use Rattle.std.proofs.Math.Seq.{drop-append_seam}
use Rattle.core_program.specs.declared.format.ProgramFormat.{ProgramFormat}
use Rattle.core_program.specs.declared.instruction.Instruction.{Instruction}
use Rattle.core_program.specs.declared.fault.ProgramFault.{ProgramFault}
use Rattle.core_program.specs.declared.fault.ProgramFault.TheVariants.{BadLine, TooLong, SkipPastEnd, OutOfMemory}
use Rattle.core_program.specs.declared.section.Section.{Section}
use Rattle.core_program.specs.declared.sections.Sections.{Sections}
use Rattle.core_program.specs.Grammar.{core_text, program_lines, sections, IsSection}
use Rattle.core_program.specs.Sections.{AreSectionsOf, IsSectionsFault, NoCoreInFront, SectionsInFront, section_lists}
use Rattle.core_program.specs.inner.Sections.{IsSectionFault, IsSectionOf}
use Rattle.core_program.proofs.SectionsOf.{FromSection, length-begun}
use Rattle.core_program.proofs.SetLines.{sections_push}
use Rattle.text_lines.specs.Lines.{text_of}
use Rattle.text_lines.proofs.Items.{each_push}
use Rattle.text_lines.proofs.TextLines.{text_of-append, text_of-cons}

-- the sections before core `core`, and the line after them
pub record SectionsSoFar (format : ProgramFormat) (cores : ℕ) (text : List ℕ) (programs : List (List Instruction)) (rest : List ℕ) (line core : ℕ) : Type 0 where
  pub in_front : SectionsInFront format cores text programs rest
  pub line_is : line ≡ 2 + length (sections 0 programs)
  pub line_small : line ≤ 2 + length programs * 4097
  pub count : length programs ≡ core

pub none_so_far : (format : ProgramFormat) (cores : ℕ) (text : List ℕ) → SectionsSoFar format cores text [] text 2 0
none_so_far format cores text = record {
  in_front = record { within = omega arith; each = tt; text = refl; whole = λ wrong. absurd (omega arith) };
  line_is = refl;
  line_small = omega arith;
  count = refl;
}

more_text : (text rest behind : List ℕ) (programs : List (List Instruction)) (program : List Instruction) → text ≡ text_of (sections 0 programs) ++ rest
    → FromSection rest program (length programs) behind → text ≡ text_of (sections 0 (programs ++ program ∷ [])) ++ behind
more_text text rest behind programs program is more =
    is ∙ ap (λ (xs : List ℕ). text_of (sections 0 programs) ++ xs) (more ∙ sym (text_of-cons (core_text (length programs)) (program_lines program) behind))
    ∙ sym (append_assoc (text_of (sections 0 programs)) (text_of (core_text (length programs) ∷ program_lines program)) behind)
    ∙ ap (λ (xs : List ℕ). xs ++ behind) (sym (text_of-append (sections 0 programs) (core_text (length programs) ∷ program_lines program)))
    ∙ ap (λ (ls : List (List ℕ)). text_of ls ++ behind) (sym (sections_push programs program))

pub one_more_section : (format : ProgramFormat) (cores : ℕ) (text rest behind : List ℕ) (line next core : ℕ) (programs : List (List Instruction)) (section : Section)
    → SectionsSoFar format cores text programs rest line core → rest ≡ core_text core ++ 10 ∷ behind → core < cores → IsSectionOf format behind section
    → next ≡ line + (1 + length section.instructions.items)
    → SectionsSoFar format cores text (programs ++ section.instructions.items ∷ []) (drop section.taken behind) next (core + 1)
one_more_section format cores text rest behind line next core programs section far is less found next-is =
    let program = section.instructions.items in
    let counted = length-append programs (program ∷ []) in
    let from : FromSection rest program (length programs) (drop section.taken behind) =
    is ∙ ap (λ (n : ℕ). core_text n ++ 10 ∷ behind) (sym far.count)
    ∙ ap (λ (xs : List ℕ). core_text (length programs) ++ 10 ∷ xs) (sym (take-append-drop section.taken behind) ∙ ap (λ (xs : List ℕ). xs ++ drop section.taken behind) found.text) in
    record {
      in_front = record {
        within = omega (arith, counted, far.count, less);
        each = each_push (IsSection format) programs program far.in_front.each found.is_section;
        text = more_text text rest (drop section.taken behind) programs program far.in_front.text from;
        whole = λ some. found.all;
      };
      line_is = omega (arith, length-begun programs program, far.line_is, next-is);
      line_small = omega (arith, counted, far.line_small, found.is_section.few, next-is);
      count = omega (arith, counted, far.count);
    }

-- the bytes after the first ones
pub behind_front : (text front rest : List ℕ) → text ≡ front ++ rest → drop (length text - length rest) text ≡ rest
behind_front text front rest is =
    let n : length text - length rest ≡ length front = omega (arith, ap length is, length-append front rest) in
    rw (n, is) (drop-append_seam front rest)

pub all_sections : (format : ProgramFormat) (cores : ℕ) (text rest : List ℕ) (line core : ℕ) (found : Sections) → cores ≤ 64
    → SectionsSoFar format cores text (section_lists found.programs.items) rest line core → found.taken ≡ length text - length rest → found.line ≡ line
    → (core < cores → NoCoreInFront core rest) → AreSectionsOf format cores text found
all_sections format cores text rest line core found few far taken-is line-is none =
    let programs = section_lists found.programs.items in
    let behind : drop found.taken text ≡ rest = ap (λ (n : ℕ). drop n text) taken-is ∙ behind_front text (text_of (sections 0 programs)) rest far.in_front.text in
    record {
      taken = omega (arith, taken-is);
      in_front = subst (λ (xs : List ℕ). SectionsInFront format cores text programs xs) (sym behind) far.in_front;
      line = line-is ∙ far.line_is;
      line_small = omega (arith, line-is, far.line_small, far.in_front.within, few);
      all = λ less. subst (λ (xs : List ℕ). NoCoreInFront (length programs) xs) (sym behind)
          (subst (λ (n : ℕ). NoCoreInFront n rest) (sym far.count) (none (omega (arith, less, far.count))));
    }

pub section_refused : (format : ProgramFormat) (cores : ℕ) (text rest behind : List ℕ) (line core : ℕ) (programs : List (List Instruction)) (fault : ProgramFault)
    → SectionsSoFar format cores text programs rest line core → rest ≡ core_text core ++ 10 ∷ behind → core < cores
    → IsSectionFault format (line + 1) behind fault → IsSectionsFault format cores text fault
section_refused format cores text rest behind line core programs (BadLine k) far is less h = absurd h
section_refused format cores text rest behind line core programs (SkipPastEnd k) far is less h = absurd h
section_refused format cores text rest behind line core programs OutOfMemory far is less h = tt
section_refused format cores text rest behind line core programs (TooLong k) far is less (at, many) = record {
  before = programs;
  rest = rest;
  in_front = far.in_front;
  more = omega (arith, far.count, less);
  behind = behind;
  core = is ∙ ap (λ (n : ℕ). core_text n ++ 10 ∷ behind) (sym far.count);
  many = many;
  line = omega (arith, at, far.line_is);
}
