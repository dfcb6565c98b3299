-- Texts that have sections after their first line, and the first line that is wrong in the sections.
use Rattle.std.proofs.Common.{◌≡◌, ℕ, ◌+◌, ◌<◌, ◌≤◌, List, [], ◌∷◌, ◌++◌, length, take, drop, zero-add, sym, ap, subst, ◌∙◌, arith, append_assoc, length-append}
use Rattle.std.specs.List.{AllByRecursion}
use Rattle.std.proofs.lemmas.List.{length-map, length-drop, length-take-le}
use Rattle.decimal_text.proofs.Lines.{NoLf}
use Rattle.core_program.specs.declared.format.ProgramFormat.{ProgramFormat}
use Rattle.core_program.specs.declared.instruction.Instruction.{Instruction}
use Rattle.core_program.specs.Grammar.{instruction_text, core_text, program_lines, sections, EachFits, IsSection}
use Rattle.core_program.specs.Sections.{NoInstructionInFront}
use Rattle.core_program.proofs.Instructions.{instruction_no_lf}
use Rattle.core_program.proofs.SectionKinds.{each_section, unlimited}
use Rattle.core_program.proofs.ProgramTexts.{first_section, cut_lines, some_bytes}
use Rattle.core_program.proofs.SetLines.{Next, goes_on, next_core, last_line, begun, begun_push, instruction_no_core, core_no_lf}
use Rattle.text_lines.specs.Lines.{text_of, BeginsText, IsFirstWrong}
use Rattle.text_lines.proofs.Items.{each_push}
use Rattle.text_lines.proofs.TextLines.{text_of-append, text_of-cons, line_once}
use Rattle.text_lines.proofs.Wrong.{HasLines, CanGoOn, NoneFollows, begins, wrong_behind}

-- texts of a grammar that have this first line, then sections of so many cores, and then a last part
pub record HasSections (format : ProgramFormat) (Grammar : List (List ℕ) → Type 0) (Section : List Instruction → Type 0) (Last : List ℕ → List (List ℕ) → Type 0) (header : List ℕ) (cores : ℕ) : Type 0 where
  pub lines : HasLines Grammar
  pub can : (programs : List (List Instruction)) → length programs ≤ cores → AllByRecursion Section programs → CanGoOn Grammar (begun header programs)
  pub next : (programs : List (List Instruction)) (next : List ℕ) (more : List (List ℕ)) → AllByRecursion (EachFits format) programs
      → Grammar (begun header programs ++ next ∷ more) → Next format Section Last cores 0 programs next more
  pub unended : (programs : List (List Instruction)) → Grammar (begun header programs) → ⊥
  pub last_no_lf : (next : List ℕ) (more : List (List ℕ)) → Last next more → NoLf next
  pub last_other : (next : List ℕ) (more : List (List ℕ)) → Last next more → (i : Instruction) → instruction_text i ≡ next → ⊥

-- the sections of these programs were read, and this line is the next
pub record AfterSections (format : ProgramFormat) (header : List ℕ) (cores : ℕ) (text : List ℕ) (programs : List (List Instruction)) (rest : List ℕ) (line : ℕ) : Type 0 where
  pub within : length programs ≤ cores
  pub each : AllByRecursion (IsSection format) programs
  pub text_is : text ≡ text_of (begun header programs) ++ rest
  pub line_is : line ≡ length (sections 0 programs) + 2
  pub all : 0 < length programs → NoInstructionInFront format rest

-- neither the line of the next core, where there is one, nor the last part, where there is none, begins the rest
pub record NotNext (Last : List ℕ → List (List ℕ) → Type 0) (cores : ℕ) (programs : List (List Instruction)) (rest : List ℕ) : Type 0 where
  pub no_core : length programs < cores → (behind : List ℕ) → rest ≡ core_text (length programs) ++ 10 ∷ behind → ⊥
  pub no_last : length programs ≡ cores → (next : List ℕ) (more : List (List ℕ)) (behind : List ℕ) → Last next more → rest ≡ next ++ 10 ∷ behind → ⊥

pub each_fits_of : (format : ProgramFormat) (programs : List (List Instruction)) → AllByRecursion (IsSection format) programs → AllByRecursion (EachFits format) programs
each_fits_of = each_section EachFits unlimited

-- ---- a line that is wrong

pub line_wrong : (format : ProgramFormat) (Grammar : List (List ℕ) → Type 0) (Section : List Instruction → Type 0) (Last : List ℕ → List (List ℕ) → Type 0) (header : List ℕ) (cores : ℕ)
    → HasSections format Grammar Section Last header cores → (text rest : List ℕ) (line : ℕ) (programs : List (List Instruction)) → AllByRecursion Section programs
    → AfterSections format header cores text programs rest line → NotNext Last cores programs rest → IsFirstWrong Grammar text line
line_wrong format Grammar Section Last header cores has text rest line programs each stands others =
    wrong_behind Grammar (begun header programs) text rest line has.lines stands.text_is (omega (arith, stands.line_is))
    (has.can programs stands.within each) follows (λ e g. has.unended programs g)
  where
    by_next : (next : List ℕ) (more : List (List ℕ)) (behind : List ℕ) → rest ≡ next ++ 10 ∷ behind → Next format Section Last cores 0 programs next more → ⊥
    by_next next more behind is (goes_on i before last longer fit next-is at section less) =
        stands.all (omega (arith, ap length at, length-append before (last ∷ []))) i behind
        (fit, is ∙ ap (λ (l : List ℕ). l ++ 10 ∷ behind) next-is)
    by_next next more behind is (next_core next-is less) =
        others.no_core less behind
        (is ∙ ap (λ (l : List ℕ). l ++ 10 ∷ behind) (next-is ∙ ap core_text (zero-add (length programs))))
    by_next next more behind is (last_line last same) = others.no_last same next more behind last is

    follows : NoneFollows Grammar (begun header programs) rest
    follows next more behind g is =
        by_next next more behind is (has.next programs next more (each_fits_of format programs stands.each) g)

-- ---- one more section

-- the line of a core and the lines of its section come before the bytes
section_text : (header : List ℕ) (programs : List (List Instruction)) (program : List Instruction) (rest : List ℕ)
    → text_of (begun header (programs ++ program ∷ [])) ++ rest
    ≡ text_of (begun header programs) ++ (core_text (length programs) ++ 10 ∷ (text_of (program_lines program) ++ rest))
section_text header programs program rest =
    ap (λ (ls : List (List ℕ)). text_of ls ++ rest) (begun_push header programs program)
    ∙ ap (λ (xs : List ℕ). xs ++ rest) (text_of-append (begun header programs) (core_text (length programs) ∷ program_lines program))
    ∙ append_assoc (text_of (begun header programs)) (text_of (core_text (length programs) ∷ program_lines program)) rest
    ∙ ap (λ (xs : List ℕ). text_of (begun header programs) ++ xs) (text_of-cons (core_text (length programs)) (program_lines program) rest)

-- the text from the sections of some programs on
abbrev pub FromSection : List ℕ → List Instruction → ℕ → List ℕ → Type 0
FromSection rest program core behind = rest ≡ core_text core ++ 10 ∷ (text_of (program_lines program) ++ behind)

pub with_section : (header text rest behind : List ℕ) (programs : List (List Instruction)) (program : List Instruction)
    → text ≡ text_of (begun header programs) ++ rest → FromSection rest program (length programs) behind
    → text ≡ text_of (begun header (programs ++ program ∷ [])) ++ behind
with_section header text rest behind programs program text-is is =
    text-is ∙ ap (λ (xs : List ℕ). text_of (begun header programs) ++ xs) is ∙ sym (section_text header programs program behind)

pub length-begun : (programs : List (List Instruction)) (program : List Instruction)
    → length (sections 0 (programs ++ program ∷ [])) ≡ length (sections 0 programs) + 1 + length program
length-begun programs program =
    let pushed : length (begun [] (programs ++ program ∷ [])) ≡ length (begun [] programs ++ core_text (length programs) ∷ program_lines program) = ap length (begun_push [] programs program) in
    omega (arith, pushed, length-append (begun [] programs) (core_text (length programs) ∷ program_lines program), length-map program instruction_text)

-- ---- a section that is too long

last_is : (before programs : List (List Instruction)) (last program : List Instruction) → programs ++ program ∷ [] ≡ before ++ last ∷ [] → program ≡ last
last_is [] [] last program e = cc
last_is [] (p ∷ programs) last program e = absurd (omega (arith, ap length e, length-append programs (program ∷ [])))
last_is (b ∷ before) [] last program e = absurd (omega (arith, ap length e, length-append before (last ∷ [])))
last_is (b ∷ before) (p ∷ programs) last program e = last_is before programs last program cc

-- the first line of instructions is an instruction's
first_instruction : (program : List Instruction) (rest line behind : List ℕ) → 0 < length program → ((i : Instruction) → instruction_text i ≡ line → ⊥) → NoLf line
    → text_of (program_lines program) ++ rest ≡ line ++ 10 ∷ behind → ⊥
first_instruction [] rest line behind some other none e = omega arith
first_instruction (i ∷ program) rest line behind some other none e =
    other i
    (line_once (instruction_text i) line (text_of (program_lines program) ++ rest) behind (instruction_no_lf i) none
    (sym (text_of-cons (instruction_text i) (program_lines program) rest) ∙ e)).0

module _ (format : ProgramFormat) (Last : List ℕ → List (List ℕ) → Type 0) (header : List ℕ) (cores : ℕ) (text rest behind : List ℕ) (line k : ℕ) (programs : List (List Instruction)) (program : List Instruction)
    (stands : AfterSections format header cores text programs rest line) (is : FromSection rest program (length programs) behind) (more : length programs < cores)
    (fits : EachFits format program) (long : length program ≡ 4097) (k-is : k ≡ line + 1 + 4096) where
  abbrev front : List Instruction
  front = take 4096 program

  abbrev back : List ℕ
  back = text_of (program_lines (drop 4096 program)) ++ behind

  section : IsSection format front
  section = first_section format program fits long

  counted : length front ≡ 4096
  counted = length-take-le 4096 program (omega (arith, long))

  cut : FromSection rest front (length programs) back
  cut = is ∙ ap (λ (xs : List ℕ). core_text (length programs) ++ 10 ∷ xs) (cut_lines program behind)

  some-left : 0 < length (drop 4096 program)
  some-left = omega (arith, length-drop 4096 program, long)

  -- with sections of a limited length no line follows
  pub too_long_wrong : (Grammar : List (List ℕ) → Type 0) → HasSections format Grammar (IsSection format) Last header cores → IsFirstWrong Grammar text k
  too_long_wrong Grammar has =
      wrong_behind Grammar (begun header (programs ++ front ∷ [])) text back k has.lines
      (with_section header text rest back programs front stands.text_is cut) (omega (arith, length-begun programs front, counted, stands.line_is, k-is))
      (has.can (programs ++ front ∷ []) (omega (arith, more, length-append programs (front ∷ []))) (each_push (IsSection format) programs front stands.each section))
      follows (λ e g. some_bytes (drop 4096 program) behind (omega (arith, length-drop 4096 program, long)) e)
    where
      by_next : (next : List ℕ) (others : List (List ℕ)) (after : List ℕ) → back ≡ next ++ 10 ∷ after → Next format (IsSection format) Last cores 0 (programs ++ front ∷ []) next others → ⊥
      by_next next others after there (goes_on i before last longer fit next-is at longer-section less) =
          omega (arith, ap length (last_is before programs last front at), counted, longer-section.few, less)
      by_next next others after there (next_core next-is less) =
          first_instruction (drop 4096 program) behind (core_text (0 + length (programs ++ front ∷ []))) after some-left
          (λ i e. instruction_no_core i (0 + length (programs ++ front ∷ [])) e) (core_no_lf (0 + length (programs ++ front ∷ [])))
          (there ∙ ap (λ (l : List ℕ). l ++ 10 ∷ after) next-is)
      by_next next others after there (last_line last same) =
          first_instruction (drop 4096 program) behind next after some-left (has.last_other next others last) (has.last_no_lf next others last) there

      follows : NoneFollows Grammar (begun header (programs ++ front ∷ [])) back
      follows next others after g there =
          by_next next others after there
          (has.next (programs ++ front ∷ []) next others (each_fits_of format (programs ++ front ∷ []) (each_push (IsSection format) programs front stands.each section)) g)

  -- with sections of any length it is right
  pub too_long_right : (Grammar : List (List ℕ) → Type 0) → HasSections format Grammar (EachFits format) Last header cores → BeginsText Grammar text k
  too_long_right Grammar has =
      subst (BeginsText Grammar text) (omega (arith, length-begun programs program, stands.line_is, k-is, long))
      (begins Grammar (begun header (programs ++ program ∷ [])) text behind (with_section header text rest behind programs program stands.text_is is)
      (has.can (programs ++ program ∷ []) (omega (arith, more, length-append programs (program ∷ [])))
      (each_push (EachFits format) programs program (each_fits_of format programs stands.each) fits)))
