-- The text of a program or a set is no other's, and its first fault is the only one.
use Rattle.std.proofs.Common.{◌≡◌, ℕ, suc, true, false, List, [], ◌∷◌, ◌++◌, length, refl, sym, ap, subst, ◌∙◌, arith, append_assoc}
use Rattle.std.specs.List.{AllByRecursion}
use Rattle.std.proofs.lemmas.List.{append_cancel_left}
use Rattle.core_program.specs.declared.format.ProgramFormat.{ProgramFormat}
use Rattle.core_program.specs.declared.instruction.Instruction.{Instruction}
use Rattle.core_program.specs.declared.fault.ProgramFault.{ProgramFault}
use Rattle.core_program.specs.declared.fault.ProgramFault.TheVariants.{BadLine, TooLong, SkipPastEnd, OutOfMemory}
use Rattle.core_program.specs.Answers.{ProgramLines, SetLines, SkipsAt, SkipsInSetAt, IsLeast, SpellsProgram, SpellsSet, IsBadLine, IsTooLong, IsTextFault, IsProgramFault, IsSetFault}
use Rattle.core_program.specs.Grammar.{instruction_text, core_text, end_text, program_lines, sections, set_lines, EachFits, Fits, IsSection}
use Rattle.core_program.specs.SetParts.{SetParts}
use Rattle.core_program.specs.Shape.{IsProgram}
use Rattle.core_program.specs.TextLaws.{AtMostOneFault}
use Rattle.core_program.proofs.Instructions.{instruction_no_lf, instruction_once}
use Rattle.core_program.proofs.Jumps.{among}
use Rattle.core_program.proofs.SetLines.{equal, first_longer, second_longer, compared, set_no_lf, behind_header, instruction_no_core, instruction_no_end, core_no_end}
use Rattle.text_lines.specs.Lines.{IsText, BeginsText, IsFirstWrong}
use Rattle.text_lines.proofs.Items.{AreLines, spelled_once}
use Rattle.text_lines.proofs.Wrong.{text_once, wrong_once}

-- ---- one text

lines : AreLines instruction_text Fits
lines = record { no_lf = instruction_no_lf; once = instruction_once }

each_in_range : (format : ProgramFormat) (program : List Instruction) → EachFits format program → AllByRecursion Fits program
each_in_range format [] each = tt
each_in_range format (i ∷ program) each = (each.0.numbers, each_in_range format program each.1)

pub one_program : (left right : ProgramFormat) (bytes : List ℕ) (p q : List Instruction) → SpellsProgram left bytes p → SpellsProgram right bytes q → p ≡ q
one_program left right bytes p q (s, p-is) (t, q-is) =
    spelled_once lines bytes p q (each_in_range left p s.each_fits, p-is) (each_in_range right q t.each_fits, q-is)

-- no instruction's line comes after the sections that are read
no_instruction : (core : ℕ) (rest : List (List Instruction)) (i : Instruction) (lines : List (List ℕ)) → sections core rest ++ end_text ∷ [] ≡ instruction_text i ∷ lines → ⊥
no_instruction core [] i lines is = instruction_no_end i cc
no_instruction core (p ∷ rest) i lines is = instruction_no_core i core cc

sections_once : (format : ProgramFormat) (core : ℕ) (s t : List (List Instruction)) → AllByRecursion (IsSection format) s → AllByRecursion (IsSection format) t
    → sections core s ++ end_text ∷ [] ≡ sections core t ++ end_text ∷ [] → s ≡ t
sections_once format core [] [] f g e = refl
sections_once format core [] (q ∷ t) f g e = absurd (core_no_end core cc)
sections_once format core (p ∷ s) [] f g e = absurd (core_no_end core cc)
sections_once format core (p ∷ s) (q ∷ t) f g e =
    let behind-s = sections (suc core) s ++ end_text ∷ [] in
    let behind-t = sections (suc core) t ++ end_text ∷ [] in
    let tails : program_lines p ++ behind-s ≡ program_lines q ++ behind-t =
    sym (append_assoc (program_lines p) (sections (suc core) s) (end_text ∷ []))
    ∙ append_cancel_left (core_text core ∷ []) ((program_lines p ++ sections (suc core) s) ++ end_text ∷ []) ((program_lines q ++ sections (suc core) t) ++ end_text ∷ []) e
    ∙ append_assoc (program_lines q) (sections (suc core) t) (end_text ∷ []) in
    elim (compared format p q behind-s behind-t f.0.each_fits g.0.each_fits tails) [
      | equal same rest-is ↦ (let rest : s ≡ t = sections_once format (suc core) s t f.1 g.1 rest-is in cc)
      | first_longer i lines fits less is ↦ absurd (no_instruction (suc core) t i lines is)
      | second_longer i lines less is ↦ absurd (no_instruction (suc core) s i lines is)
    ]

pub one_set : (bytes : List ℕ) (s t : SetParts) → SpellsSet bytes s → SpellsSet bytes t → s ≡ t
one_set bytes s t (f, s-is) (g, t-is) =
    let lines = text_once (set_lines s) (set_lines t) (set_no_lf s) (set_no_lf t) (sym s-is ∙ t-is) in
    let behind = behind_header s.format (length s.programs) t (sections 0 s.programs ++ end_text ∷ []) lines in
    let each : AllByRecursion (IsSection s.format) t.programs = subst (λ (x : ProgramFormat). AllByRecursion (IsSection x) t.programs) (sym behind.0) g.each in
    let programs : s.programs ≡ t.programs = sections_once s.format 0 s.programs t.programs f.each each behind.2 in
    let format : s.format ≡ t.format = behind.0 in
    λ i. record { format = format i; programs = programs i }

-- ---- one fault

no_jump : (program : List Instruction) (k : ℕ) → IsProgram program → SkipsAt program k → ⊥
no_jump program k is s = let wrong : true ≡ false = sym s.passes ∙ is.inside s.index in cc

no_jump_in_set : (set : List (List Instruction)) (k : ℕ) → AllByRecursion IsProgram set → SkipsInSetAt set k → ⊥
no_jump_in_set set k each s = no_jump s.program s.place (among IsProgram set s.core s.program each s.of_core) s.skips

least_once : (Holds : ℕ → Type 0) (j k : ℕ) → IsLeast Holds j → IsLeast Holds k → j ≡ k
least_once Holds j k p q = let a = p.1 k q.0 in let b = q.1 j p.0 in omega arith

module _ {A : Type 0} (Lines : (ProgramFormat → List Instruction → Type 0) → List (List ℕ) → Type 0) (Spells : List ℕ → A → Type 0) (Skips : A → ℕ → Type 0)
    (once : (bytes : List ℕ) (x y : A) → Spells bytes x → Spells bytes y → x ≡ y) (is_text : (bytes : List ℕ) (x : A) → Spells bytes x → IsText (Lines IsSection) bytes) where
  quiet : (bytes : List ℕ) (x : A) (fault : ProgramFault) → Spells bytes x → ((k : ℕ) → Skips x k → ⊥) → IsTextFault Lines Spells Skips bytes fault → fault ≡ OutOfMemory
  quiet bytes x (BadLine k) spells none h = absurd (h.0.no_text (is_text bytes x spells))
  quiet bytes x (TooLong k) spells none h = absurd (h.0.no_text (is_text bytes x spells))
  quiet bytes x (SkipPastEnd k) spells none (other, (others, least)) = absurd (none k (subst (λ (y : A). Skips y k) (once bytes other x others spells) least.0))
  quiet bytes x OutOfMemory spells none h = refl

  first_once : (bytes : List ℕ) (j k : ℕ) → IsFirstWrong (Lines IsSection) bytes j → IsFirstWrong (Lines IsSection) bytes k → j ≡ k
  first_once bytes j k p q = wrong_once (Lines IsSection) bytes j k p q

  -- a line isn't both bad and too long
  one_kind : (bytes : List ℕ) (j k : ℕ) → IsBadLine Lines bytes j → IsTooLong Lines bytes k → ⊥
  one_kind bytes j k p q = p.1 (subst (BeginsText (Lines EachFits) bytes) (first_once bytes k j q.0 p.0) q.1)

  one_fault : AtMostOneFault (IsTextFault Lines Spells Skips)
  one_fault bytes (BadLine j) (BadLine k) p q f g = ap (λ (n : ℕ). BadLine n) (first_once bytes j k p.0 q.0)
  one_fault bytes (BadLine j) (TooLong k) p q f g = absurd (one_kind bytes j k p q)
  one_fault bytes (BadLine j) (SkipPastEnd k) p (x, (spells, least)) f g = absurd (p.0.no_text (is_text bytes x spells))
  one_fault bytes (TooLong j) (BadLine k) p q f g = absurd (one_kind bytes k j q p)
  one_fault bytes (TooLong j) (TooLong k) p q f g = ap (λ (n : ℕ). TooLong n) (first_once bytes j k p.0 q.0)
  one_fault bytes (TooLong j) (SkipPastEnd k) p (x, (spells, least)) f g = absurd (p.0.no_text (is_text bytes x spells))
  one_fault bytes (SkipPastEnd j) (BadLine k) (x, (spells, least)) q f g = absurd (q.0.no_text (is_text bytes x spells))
  one_fault bytes (SkipPastEnd j) (TooLong k) (x, (spells, least)) q f g = absurd (q.0.no_text (is_text bytes x spells))
  one_fault bytes (SkipPastEnd j) (SkipPastEnd k) (x, (x-spells, x-least)) (y, (y-spells, y-least)) f g =
      ap (λ (n : ℕ). SkipPastEnd n) (least_once (Skips y) j k (subst (λ (z : A). IsLeast (Skips z) j) (once bytes x y x-spells y-spells) x-least) y-least)
  one_fault bytes OutOfMemory other p q f g = absurd (f refl)
  one_fault bytes (BadLine j) OutOfMemory p q f g = absurd (g refl)
  one_fault bytes (TooLong j) OutOfMemory p q f g = absurd (g refl)
  one_fault bytes (SkipPastEnd j) OutOfMemory p q f g = absurd (g refl)

program_text : (format : ProgramFormat) (bytes : List ℕ) (program : List Instruction) → SpellsProgram format bytes program → IsText (ProgramLines format IsSection) bytes
program_text format bytes program (section, is) = (program_lines program, ((program, (section, refl)), is))

set_text : (bytes : List ℕ) (set : SetParts) → SpellsSet bytes set → IsText (SetLines IsSection) bytes
set_text bytes set (all, is) = (set_lines set, ((set, (all, refl)), is))

pub program_quiet : (format : ProgramFormat) (bytes : List ℕ) (program : List Instruction) (fault : ProgramFault) → SpellsProgram format bytes program → IsProgram program
    → IsProgramFault format bytes fault → fault ≡ OutOfMemory
program_quiet format bytes program fault spells is =
    quiet (ProgramLines format) (SpellsProgram format) SkipsAt (one_program format format) (program_text format) bytes program fault spells (λ k. no_jump program k is)

pub set_quiet : (bytes : List ℕ) (set : SetParts) (fault : ProgramFault) → SpellsSet bytes set → AllByRecursion IsProgram set.programs
    → IsSetFault bytes fault → fault ≡ OutOfMemory
set_quiet bytes set fault spells each =
    quiet SetLines SpellsSet (λ s. SkipsInSetAt s.programs) one_set set_text bytes set fault spells (λ k. no_jump_in_set set.programs k each)

pub one_program_fault : (format : ProgramFormat) → AtMostOneFault (IsProgramFault format)
one_program_fault format = one_fault (ProgramLines format) (SpellsProgram format) SkipsAt (one_program format format) (program_text format)

pub one_set_fault : AtMostOneFault IsSetFault
one_set_fault = one_fault SetLines SpellsSet (λ s. SkipsInSetAt s.programs) one_set set_text
