-- The fault of a line that is wrong, wherever the reader of a test meets it.
use Rattle.std.proofs.Common.{◌≡◌, ℕ, ◌+◌, ◌<◌, List, [], ◌∷◌, ◌++◌, length, map, refl, sym, ap, subst, ◌∙◌, arith, append_assoc, length-append}
use Rattle.std.proofs.lemmas.List.{length-map}
use Rattle.decimal_text.proofs.Lines.{const_no_lf}
use Rattle.core_program.specs.declared.format.ProgramFormat.{ProgramFormat}
use Rattle.core_program.specs.declared.format.ProgramFormat.TheVariants.{One}
use Rattle.core_program.specs.declared.instruction.Instruction.{Instruction}
use Rattle.core_program.specs.declared.fault.ProgramFault.{ProgramFault}
use Rattle.core_program.specs.declared.fault.ProgramFault.TheVariants as program
use Rattle.core_program.specs.Answers.{IsBadLine}
use Rattle.core_program.specs.Grammar.{core_text, end_text, format_number, sections, EachFits, IsSection}
use Rattle.core_program.specs.Lines.{text_of, IsFirstWrong}
use Rattle.core_program.specs.Sections.{IsSectionsFault, NoCoreInFront}
use Rattle.core_program.proofs.SectionKinds.{IsKind, bad_lines, each_section, limited, unlimited}
use Rattle.core_program.proofs.SectionsOf.{AfterSections, NotNext, each_fits_of, line_wrong, too_long_right, too_long_wrong}
use Rattle.core_program.proofs.SetLines.{begun, sections_no_lf, sections_no_other}
use Rattle.core_program.proofs.SetTexts.{after_header}
use Rattle.litmus.specs.Tests.{IsInstructionLine, LitmusLines, Spells}
use Rattle.litmus.specs.TestFaultTexts.{from_program}
use Rattle.litmus.specs.TestGrammar.{forbid_text, header_text, last_lines, show_text, AreForbidden, AreShown}
use Rattle.litmus.specs.Parts.{ShownParts}
use Rattle.litmus.specs.declared.litmus_fault.LitmusFault.{LitmusFault}
use Rattle.litmus.specs.declared.litmus_fault.LitmusFault.TheVariants.{BadLitmusLine, BadLine, TooLong, SkipPastEnd, OutOfMemory}
use Rattle.litmus.specs.inner.Ending.{BeginsInstruction, IsEnding, IsEndingFault, IsWrongLine, NoShowInFront, show_missing, end_missing, bytes_after, memory_short}
use Rattle.litmus.specs.inner.Reading.{head_text, HeadParts, IsHead}
use Rattle.litmus.specs.inner.Whole.{IsLineFault}
use Rattle.litmus.proofs.Headers.{head_no_lf, header_no_lf}
use Rattle.litmus.proofs.LastLines.{Comes, IsLast, comes_behind, forbids_no_lf, goes, has, has_lines, heading, heading_is, one_more, the_end, whole}
use Rattle.litmus.proofs.WordLines.{forbid_no_end, show_is_other, show_no_lf}
use Rattle.text_lines.specs.Items.{ItemInFront, NoItemInFront}
use Rattle.text_lines.proofs.TextLines.{text_of-append, text_of-cons}
use Rattle.text_lines.proofs.Wrong.{EachNoLf, EachNoLf-append, NoneFollows, lines_once, wrong_behind}

-- ---- the first line

-- a first line that a test may have
any_head : HeadParts
any_head = record { format = One; name = 48 ∷ []; cores = 1 }

any_is_head : IsHead any_head
unfolding any_head
any_is_head = record { is_name = record { some = omega arith; few = omega arith; each = (refl, tt) }; some = omega arith; few = omega arith }

pub bad_header : (text : List ℕ) → NoItemInFront head_text IsHead text → IsLineFault text (BadLitmusLine 1)
bad_header text none = (bad_lines LitmusLines text 1 wrong, λ x. omega (arith, x.line))
  where
    follows : (Section : ProgramFormat → List Instruction → Type 0) → NoneFollows (LitmusLines Section) [] text
    follows Section next more behind (t, (is, e)) there =
        let first : next ≡ head_text (heading t) = cc in
        none (heading t) behind (heading_is Section t is, there ∙ ap (λ (l : List ℕ). l ++ 10 ∷ behind) first)

    wrong : (Section : ProgramFormat → List Instruction → Type 0) → IsKind Section → IsFirstWrong (LitmusLines Section) text 1
    wrong Section kind =
        let can = goes any_head any_is_head Section kind [] (omega arith) tt in
        wrong_behind (LitmusLines Section) [] text text 1 (has_lines Section) refl refl (head_text any_head ∷ can.0, can.1) (follows Section) (λ e g. cc)

-- ---- instruction lines

-- the lines before an instruction line are all lines before it
instruction_line_lines : (text rest : List ℕ) (line : ℕ) (front : List (List ℕ)) → EachNoLf front → line ≡ length front + 1 → text ≡ text_of front ++ rest
    → (x : IsInstructionLine text line) → (front ≡ header_text (format_number x.format) x.name x.cores ∷ sections 0 x.programs) × (rest ≡ x.rest)
instruction_line_lines text rest line front none line-is is x =
    lines_once front (header_text (format_number x.format) x.name x.cores ∷ sections 0 x.programs) rest x.rest none (header_no_lf (format_number x.format) x.name x.cores x.is_name, sections_no_lf 0 x.programs)
    (omega (arith, line-is, x.line)) (sym is ∙ x.text)

-- programs have lines where there are some
some_lines : (programs : List (List Instruction)) → 0 < length programs → 0 < length (sections 0 programs)
some_lines [] some = absurd (omega (arith, some))
some_lines (p ∷ programs) some = omega arith

some_programs : (programs : List (List Instruction)) → 0 < length (sections 0 programs) → 0 < length programs
some_programs [] some = absurd (omega (arith, some))
some_programs (p ∷ programs) some = omega arith

-- ---- sections that are too long

pub sections_refused : (h : HeadParts) (text body : List ℕ) (fault : ProgramFault) → ItemInFront head_text IsHead h text body → IsSectionsFault h.format h.cores body fault
    → IsLineFault text (from_program fault)
sections_refused h text body (program.BadLine k) there s = absurd s
sections_refused h text body (program.SkipPastEnd k) there s = absurd s
sections_refused h text body program.OutOfMemory there s = tt
sections_refused h text body (program.TooLong k) (is, text-is) s =
    let line = 2 + length (sections 0 s.before) in
    let stands : AfterSections h.format (head_text h) h.cores text s.before s.rest line = after_header h.format text body s.rest (head_text h) h.cores line s.before text-is s.in_front refl in
    let from = s.core ∙ ap (λ (xs : List ℕ). core_text (length s.before) ++ 10 ∷ xs) s.many.text in (
      too_long_wrong h.format (IsLast h.cores) (head_text h) h.cores text s.rest s.many.rest line k s.before s.many.program stands from s.more s.many.each_fits s.many.long (omega (arith, s.line))
          (LitmusLines IsSection) (has h is IsSection limited),
      too_long_right h.format (IsLast h.cores) (head_text h) h.cores text s.rest s.many.rest line k s.before s.many.program stands from s.more s.many.each_fits s.many.long (omega (arith, s.line))
          (LitmusLines EachFits) (has h is EachFits unlimited),
    )

-- ---- behind sections

module _ (h : HeadParts) (is : IsHead h) (text rest : List ℕ) (line : ℕ) (programs : List (List Instruction))
    (stands : AfterSections h.format (head_text h) h.cores text programs rest line) where
  -- where sections may go on, the wrong line is an instruction line or not, as it begins
  wrong_told : (fault : LitmusFault) → IsWrongLine line (length programs) rest fault → NotNext (IsLast h.cores) h.cores programs rest → IsLineFault text fault
  wrong_told fault wrong others = go fault wrong
    where
      bad : IsBadLine LitmusLines text line
      bad = bad_lines LitmusLines text line (λ Section kind.
          line_wrong h.format (LitmusLines Section) (Section h.format) (IsLast h.cores) (head_text h) h.cores (has h is Section kind) text rest line programs (each_section Section kind h.format programs stands.each) stands others)

      no_instruction : (0 < length programs → BeginsInstruction rest → ⊥) → IsInstructionLine text line → ⊥
      no_instruction none x =
          let same = instruction_line_lines text rest line (begun (head_text h) programs) (head_no_lf h is, sections_no_lf 0 programs) (omega (arith, stands.line_is)) stands.text_is x in
          let sections-are : sections 0 programs ≡ sections 0 x.programs = cc in
          none (some_programs programs (omega (arith, ap length sections-are, some_lines x.programs x.some)))
          (subst BeginsInstruction (sym same.1) (record { there = x.there; no_core = x.no_core; no_show = x.no_show }))

      go : (f : LitmusFault) → IsWrongLine line (length programs) rest f → IsLineFault text f
      go (BadLine k) (at, some, begins) =
          subst (λ (n : ℕ). IsLineFault text (BadLine n)) (sym at) (
            bad,
            record {
              format = h.format;
              name = h.name;
              is_name = is.is_name;
              cores = h.cores;
              programs = programs;
              some = some;
              each = each_fits_of h.format programs stands.each;
              rest = rest;
              text = stands.text_is;
              line = stands.line_is;
              there = begins.there;
              no_core = begins.no_core;
              no_show = begins.no_show;
            },
          )
      go (BadLitmusLine k) (at, none) = subst (λ (n : ℕ). IsLineFault text (BadLitmusLine n)) (sym at) (bad, no_instruction none)
      go (TooLong k) w = absurd w
      go (SkipPastEnd k) w = absurd w
      go OutOfMemory w = absurd w

  -- the line of a core is missing
  pub no_core_line : (fault : LitmusFault) → IsWrongLine line (length programs) rest fault → length programs < h.cores → NoCoreInFront (length programs) rest → IsLineFault text fault
  no_core_line fault wrong less none =
      wrong_told fault wrong (record { no_core = λ l behind there. none behind there; no_last = λ same next more behind last there. absurd (omega (arith, less, same)) })

  module _ (count : length programs ≡ h.cores) where
    missing_show : (fault : LitmusFault) → IsWrongLine line h.cores rest fault → NoShowInFront h.cores rest → IsLineFault text fault
    missing_show fault wrong none =
        wrong_told fault (subst (λ (n : ℕ). IsWrongLine line n rest fault) (sym count) wrong) (record {
          no_core = λ less behind there. absurd (omega (arith, less, count));
          no_last = λ same next more behind last there. none last.0 behind (last.2, there ∙ ap (λ (l : List ℕ). l ++ 10 ∷ behind) last.4);
        })

    module _ (shown : List ShownParts) (forbidden : List (List ℕ)) (are_shown : AreShown h.cores shown) (are_forbidden : AreForbidden (length shown) forbidden) where
      -- the lines up to the forbidden outcomes, and these
      abbrev front_of : List (List ℕ) → List (List ℕ)
      front_of tail = begun (head_text h) programs ++ show_text shown ∷ (map forbid_text forbidden ++ tail)

      regroup : (tail more : List (List ℕ)) → front_of tail ++ more ≡ front_of (tail ++ more)
      regroup tail more =
          append_assoc (begun (head_text h) programs) (show_text shown ∷ (map forbid_text forbidden ++ tail)) more
          ∙ ap (λ (ls : List (List ℕ)). begun (head_text h) programs ++ show_text shown ∷ ls) (append_assoc (map forbid_text forbidden) tail more)

      up_to : (tail : List (List ℕ)) (behind after last : List ℕ) → rest ≡ show_text shown ++ 10 ∷ behind → behind ≡ text_of (map forbid_text forbidden) ++ after → after ≡ text_of tail ++ last
          → text ≡ text_of (front_of tail) ++ last
      up_to tail behind after last first next end =
          let front = begun (head_text h) programs in
          let forbids = map forbid_text forbidden in
          stands.text_is ∙ ap (λ (xs : List ℕ). text_of front ++ xs) (first ∙ ap (λ (xs : List ℕ). show_text shown ++ 10 ∷ xs)
          (next ∙ ap (λ (xs : List ℕ). text_of forbids ++ xs) end ∙ sym (append_assoc (text_of forbids) (text_of tail) last) ∙ ap (λ (xs : List ℕ). xs ++ last) (sym (text_of-append forbids tail)))
          ∙ sym (text_of-cons (show_text shown) (forbids ++ tail) last))
          ∙ sym (append_assoc (text_of front) (text_of (show_text shown ∷ (forbids ++ tail))) last)
          ∙ ap (λ (xs : List ℕ). xs ++ last) (sym (text_of-append front (show_text shown ∷ (forbids ++ tail))))

      -- after these lines the text can go on, but neither does nor ends as a test's
      wrong_behind_them : (tail more : List (List ℕ)) (last : List ℕ) (k : ℕ) → tail ++ more ≡ end_text ∷ [] → EachNoLf tail → text ≡ text_of (front_of tail) ++ last → k ≡ line + 1 + length forbidden + length tail
          → ((next : List ℕ) (others : List (List ℕ)) (behind : List ℕ) → Comes (length shown) (length forbidden) (tail ++ next ∷ others) → last ≡ next ++ 10 ∷ behind → ⊥)
          → (last ≡ [] → Comes (length shown) (length forbidden) tail → ⊥) → IsLineFault text (BadLitmusLine k)
      wrong_behind_them tail more last k both none text-is k-is goes_wrong ends_wrong = (bad_lines LitmusLines text k wrong, no_instruction)
        where
          lines-are : length (front_of tail) ≡ line + length forbidden + length tail
          lines-are = omega (
            arith,
            length-append (begun (head_text h) programs) (show_text shown ∷ (map forbid_text forbidden ++ tail)),
            length-append (map forbid_text forbidden) tail,
            length-map forbidden forbid_text,
            stands.line_is,
          )

          wrong : (Section : ProgramFormat → List Instruction → Type 0) → IsKind Section → IsFirstWrong (LitmusLines Section) text k
          wrong Section kind =
              let each = each_fits_of h.format programs stands.each in
              let test = whole h is Section programs shown forbidden count (each_section Section kind h.format programs stands.each) are_shown are_forbidden in
              let can = subst (LitmusLines Section) (sym (regroup tail more ∙ ap front_of both)) test in
              wrong_behind (LitmusLines Section) (front_of tail) text last k (has_lines Section) text-is (omega (arith, k-is, lines-are)) (more, can)
              (λ next others behind g there.
              goes_wrong next others behind (comes_behind h is Section kind programs shown forbidden (tail ++ next ∷ others) each are_shown (subst (LitmusLines Section) (regroup tail (next ∷ others)) g)) there)
              (λ ended g. ends_wrong ended (comes_behind h is Section kind programs shown forbidden tail each are_shown g))

          no_instruction : IsInstructionLine text k → ⊥
          no_instruction x =
              let same = instruction_line_lines text last k (front_of tail)
              (EachNoLf-append (begun (head_text h) programs) (show_text shown ∷ (map forbid_text forbidden ++ tail)) (head_no_lf h is, sections_no_lf 0 programs)
              (show_no_lf shown, EachNoLf-append (map forbid_text forbidden) tail (forbids_no_lf forbidden) none)) (omega (arith, k-is, lines-are)) text-is x in
              let behind : sections 0 x.programs ≡ sections 0 programs ++ show_text shown ∷ (map forbid_text forbidden ++ tail) = cc in
              sections_no_other (show_text shown) (show_is_other shown) x.programs (sections 0 programs) (map forbid_text forbidden ++ tail) behind

    pub ending_refused : (fault : LitmusFault) → IsEndingFault h.cores line rest fault → IsLineFault text fault
    ending_refused fault (show_missing none wrong) = missing_show fault wrong none
    ending_refused fault (end_missing shown forbidden behind after (are, first) front none fault-is) =
        subst (IsLineFault text) (sym fault-is)
        (wrong_behind_them shown forbidden are front.are [] (end_text ∷ []) after (line + 1 + length forbidden) refl tt (up_to shown forbidden are front.are [] behind after after first front.text refl) (omega arith)
        (λ next others l comes there. goes_wrong next others l comes there) (λ ended comes. nothing comes))
      where
        goes_wrong : (next : List ℕ) (others : List (List ℕ)) (l : List ℕ) → Comes (length shown) (length forbidden) (next ∷ others) → after ≡ next ++ 10 ∷ l → ⊥
        goes_wrong next others l (one_more values more is less same) there =
            let same_line : next ≡ forbid_text values = cc in
            front.all less values l (is, there ∙ ap (λ (xs : List ℕ). xs ++ 10 ∷ l) same_line)
        goes_wrong next others l (the_end same) there =
            let same_line : next ≡ end_text = cc in
            none l (there ∙ ap (λ (xs : List ℕ). xs ++ 10 ∷ l) same_line)

        nothing : Comes (length shown) (length forbidden) [] → ⊥
        nothing (one_more values more is less same) = cc
        nothing (the_end same) = cc
    ending_refused fault (bytes_after shown forbidden behind after last (are, first) front there left fault-is) =
        subst (IsLineFault text) (sym fault-is)
        (wrong_behind_them shown forbidden are front.are (end_text ∷ []) [] last (line + 2 + length forbidden) refl (const_no_lf end_text refl, tt)
        (up_to shown forbidden are front.are (end_text ∷ []) behind after last first front.text (there ∙ sym (text_of-cons end_text [] last))) (omega arith)
        (λ next others l comes from. no_more next others comes) (λ ended comes. left ended))
      where
        no_more : (next : List ℕ) (others : List (List ℕ)) → Comes (length shown) (length forbidden) (end_text ∷ next ∷ others) → ⊥
        no_more next others (one_more values more is less same) =
            let same_line : forbid_text values ≡ end_text = cc in
            forbid_no_end values same_line
        no_more next others (the_end same) = cc
    ending_refused fault (memory_short fault-is) = subst (IsLineFault text) (sym fault-is) tt

    pub test_spelled : (shown : List ShownParts) (forbidden : List (List ℕ)) → IsEnding h.cores rest shown forbidden
        → Spells text (record { name = h.name; format = h.format; programs = programs; shown = shown; forbidden = forbidden })
    unfolding whole
    test_spelled shown forbidden ending =
        let front = begun (head_text h) programs in
        let test = whole h is IsSection programs shown forbidden count stands.each ending.are_shown ending.are_forbidden in (
          test.1.0,
          stands.text_is ∙ ap (λ (xs : List ℕ). text_of front ++ xs) ending.text ∙ sym (text_of-append front (last_lines shown forbidden)) ∙ ap text_of test.1.1,
        )
