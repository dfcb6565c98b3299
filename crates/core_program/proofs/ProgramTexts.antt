-- The first line that is wrong in the text of a program.
use Rattle.std.proofs.Common.{◌≡◌, ℕ, ◌+◌, ◌<◌, List, [], ◌∷◌, ◌++◌, length, take, drop, sym, ap, subst, ◌∙◌, arith, append_assoc, append-nil, length-append}
use Rattle.std.proofs.lemmas.List.{length-map, map-append, take-append-drop, length-take-le, length-drop}
use Rattle.core_program.specs.declared.format.ProgramFormat.{ProgramFormat}
use Rattle.core_program.specs.declared.instruction.Instruction.{Instruction}
use Rattle.core_program.specs.declared.fault.ProgramFault.{ProgramFault}
use Rattle.core_program.specs.declared.fault.ProgramFault.TheVariants.{BadLine, TooLong, SkipPastEnd, OutOfMemory}
use Rattle.core_program.specs.Answers.{ProgramLines, IsBadLine, IsTooLong, IsProgramFault}
use Rattle.core_program.specs.Grammar.{instruction_text, program_lines, FitsIn, EachFits, IsSection}
use Rattle.core_program.specs.inner.Sections.{IsSectionFault}
use Rattle.core_program.specs.Sections.{InstructionInFront, IsTooMany, NoInstructionInFront}
use Rattle.core_program.proofs.Instructions.{instruction_no_lf}
use Rattle.core_program.proofs.SectionKinds.{IsKind, bad_lines}
use Rattle.text_lines.specs.Lines.{text_of, BeginsText}
use Rattle.text_lines.proofs.Items.{SoFar, each_push, lines_push}
use Rattle.text_lines.proofs.TextLines.{text_of-append}
use Rattle.text_lines.proofs.Wrong.{EachNoLf, HasLines, NoneFollows, begins, no_bytes, wrong_behind}

pub program_lines_no_lf : (program : List Instruction) → EachNoLf (program_lines program)
program_lines_no_lf [] = tt
program_lines_no_lf (i ∷ program) = (instruction_no_lf i, program_lines_no_lf program)

has_lines : (format : ProgramFormat) (Section : ProgramFormat → List Instruction → Type 0) → HasLines (ProgramLines format Section)
has_lines format Section lines g = subst EachNoLf (sym g.1.1) (program_lines_no_lf g.0)

-- each line of instructions is an instruction's
pub line_of_program : (format : ProgramFormat) (program : List Instruction) (front : List (List ℕ)) (next : List ℕ) (more : List (List ℕ)) → EachFits format program
    → front ++ next ∷ more ≡ program_lines program → (i : Instruction) × (FitsIn format i × (next ≡ instruction_text i))
line_of_program format [] [] next more fits e = absurd cc
line_of_program format [] (l ∷ front) next more fits e = absurd cc
line_of_program format (i ∷ program) [] next more fits e = (i, (fits.0, cc))
line_of_program format (i ∷ program) (l ∷ front) next more fits e = line_of_program format program front next more fits.1 cc

-- where no instruction comes first, no line of a program does
none_follows : (format : ProgramFormat) (Section : ProgramFormat → List Instruction → Type 0) → IsKind Section → (front : List (List ℕ)) (rest : List ℕ)
    → NoInstructionInFront format rest → NoneFollows (ProgramLines format Section) front rest
none_follows format Section kind front rest none = λ next more behind g is.
    let there = line_of_program format g.0 front next more (kind.fits format g.0 g.1.0) g.1.1 in
    none there.0 behind (there.1.0, is ∙ ap (λ (l : List ℕ). l ++ 10 ∷ behind) there.1.1)

pub bad_line : (format : ProgramFormat) (text rest : List ℕ) (program : List Instruction) (k : ℕ) → IsSection format program → text ≡ text_of (program_lines program) ++ rest
    → NoInstructionInFront format rest → 0 < length rest → k ≡ length program + 1 → IsBadLine (ProgramLines format) text k
bad_line format text rest program k section is none more k-is =
    bad_lines (ProgramLines format) text k (λ Section kind.
    wrong_behind (ProgramLines format Section) (program_lines program) text rest k (has_lines format Section) is (omega (arith, k-is, length-map program instruction_text))
    ([], (program, (kind.section format program section, append-nil (program_lines program))))
    (none_follows format Section kind (program_lines program) rest none) (λ e g. omega (arith, ap length e)))

each_fits_take : (format : ProgramFormat) (n : ℕ) (program : List Instruction) → EachFits format program → EachFits format (take n program)
each_fits_take format n program fits = each_fits_front (take n program) (drop n program) (subst (EachFits format) (sym (take-append-drop n program)) fits)
  where
    each_fits_front : (front back : List Instruction) → EachFits format (front ++ back) → EachFits format front
    each_fits_front [] back fits = tt
    each_fits_front (i ∷ front) back fits = (fits.0, each_fits_front front back fits.1)

-- the first 4,096 of more instructions
pub first_section : (format : ProgramFormat) (program : List Instruction) → EachFits format program → length program ≡ 4097 → IsSection format (take 4096 program)
first_section format program fits long = record {
  few = omega (arith, length-take-le 4096 program (omega (arith, long)));
  each_fits = each_fits_take format 4096 program fits;
}

-- the lines of the first 4,096 instructions, and those after them
pub cut_lines : (program : List Instruction) (rest : List ℕ)
    → text_of (program_lines program) ++ rest ≡ text_of (program_lines (take 4096 program)) ++ (text_of (program_lines (drop 4096 program)) ++ rest)
cut_lines program rest =
    let front = program_lines (take 4096 program) in
    let back = program_lines (drop 4096 program) in
    let cut : program_lines program ≡ front ++ back = ap program_lines (sym (take-append-drop 4096 program)) ∙ map-append instruction_text (take 4096 program) (drop 4096 program) in
    ap (λ (ls : List (List ℕ)). text_of ls ++ rest) cut ∙ ap (λ (xs : List ℕ). xs ++ rest) (text_of-append front back)
    ∙ append_assoc (text_of front) (text_of back) rest

-- there are bytes of lines
pub some_bytes : (program : List Instruction) (rest : List ℕ) → 0 < length program → text_of (program_lines program) ++ rest ≡ [] → ⊥
some_bytes program rest some e = no_bytes (program_lines program) rest (omega (arith, length-map program instruction_text)) e

pub too_long : (format : ProgramFormat) (text rest : List ℕ) (program : List Instruction) → EachFits format program → length program ≡ 4097
    → text ≡ text_of (program_lines program) ++ rest → IsTooLong (ProgramLines format) text 4097
too_long format text rest program fits long is =
    let front = program_lines (take 4096 program) in
    let back = text_of (program_lines (drop 4096 program)) ++ rest in
    let counted : length front ≡ 4096 = length-map (take 4096 program) instruction_text ∙ length-take-le 4096 program (omega (arith, long)) in (
      wrong_behind (ProgramLines format IsSection) front text back 4097 (has_lines format IsSection) (is ∙ cut_lines program rest)
          (omega (arith, counted)) ([], (take 4096 program, (first_section format program fits long, append-nil front)))
          (λ next more behind g e. omega (arith, g.1.0.few, ap length g.1.1, length-append front (next ∷ more), length-map g.0 instruction_text, counted))
          (λ e g. some_bytes (drop 4096 program) rest (omega (arith, length-drop 4096 program, long)) e),
      subst (BeginsText (ProgramLines format EachFits) text) (length-map program instruction_text ∙ long)
          (begins (ProgramLines format EachFits) (program_lines program) text rest is ([], (program, (fits, append-nil (program_lines program))))),
    )

pub section_refused : (format : ProgramFormat) (text : List ℕ) (fault : ProgramFault) → IsSectionFault format 1 text fault → IsProgramFault format text fault
section_refused format text (BadLine k) h = absurd h
section_refused format text (TooLong k) (at, many) =
    subst (IsTooLong (ProgramLines format) text) (sym at) (too_long format text many.rest many.program many.each_fits many.long many.text)
section_refused format text (SkipPastEnd k) h = absurd h
section_refused format text OutOfMemory h = tt

-- one more than a section may have
pub too_many : (format : ProgramFormat) (text rest behind : List ℕ) (program : List Instruction) (i : Instruction) → SoFar instruction_text (FitsIn format) text program rest
    → InstructionInFront format i rest behind → length program ≡ 4096 → IsTooMany format text
too_many format text rest behind program i far there full = record {
  program = program ++ i ∷ [];
  each_fits = each_push (FitsIn format) program i far.each_fits there.0;
  long = omega (arith, length-append program (i ∷ []), full);
  rest = behind;
  text = far.text_is ∙ ap (λ (xs : List ℕ). text_of (program_lines program) ++ xs) there.1 ∙ sym (lines_push instruction_text program i behind);
}
