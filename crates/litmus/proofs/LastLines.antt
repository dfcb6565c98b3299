-- The lines of a test, and what may come after some of them.
use Rattle.std.proofs.Common.{◌≡◌, ℕ, ◌+◌, ◌<◌, ◌≤◌, List, [], ◌∷◌, ◌++◌, length, map, refl, sym, ap, subst, ◌∙◌, arith, append_assoc}
use Rattle.std.specs.List.{AllByRecursion}
use Rattle.decimal_text.proofs.Lines.{NoLf, const_no_lf}
use Rattle.core_program.specs.declared.format.ProgramFormat.{ProgramFormat}
use Rattle.core_program.specs.declared.instruction.Instruction.{Instruction}
use Rattle.core_program.specs.Grammar.{end_text, sections, EachFits}
use Rattle.core_program.proofs.SectionKinds.{IsKind}
use Rattle.core_program.proofs.SectionsOf.{HasSections}
use Rattle.core_program.proofs.SetLines.{Next, goes_on, next_core, last_line, begun, filled_up, next_of, sections-append, sections_no_lf, sections_no_other}
use Rattle.litmus.specs.Tests.{LitmusLines}
use Rattle.litmus.specs.TestGrammar.{forbid_text, last_lines, litmus_lines, show_text, AreForbidden, AreShown, IsOutcome, IsTestOf}
use Rattle.litmus.specs.Parts.{LitmusParts, ShownParts}
use Rattle.litmus.specs.inner.Reading.{head_text, HeadParts, IsHead}
use Rattle.litmus.proofs.Headers.{head_no_lf, head_once}
use Rattle.litmus.proofs.WordLines.{forbid_no_end, forbid_no_lf, show_is_other, show_no_lf, show_once}
use Rattle.text_lines.proofs.Wrong.{CanGoOn, EachNoLf, EachNoLf-append, HasLines}

-- ---- no line feed

pub forbids_no_lf : (forbidden : List (List ℕ)) → EachNoLf (map forbid_text forbidden)
forbids_no_lf [] = tt
forbids_no_lf (values ∷ forbidden) = (forbid_no_lf values, forbids_no_lf forbidden)

-- what the first line of a test tells
abbrev pub heading : LitmusParts → HeadParts
heading t = record { format = t.format; name = t.name; cores = length t.programs }

pub heading_is : (Section : ProgramFormat → List Instruction → Type 0) (t : LitmusParts) → IsTestOf Section t → IsHead (heading t)
heading_is Section t is = record { is_name = is.name; some = is.programs.some; few = is.programs.few }

pub has_lines : (Section : ProgramFormat → List Instruction → Type 0) → HasLines (LitmusLines Section)
has_lines Section lines (t, (is, e)) =
    subst EachNoLf (sym e) (
      head_no_lf (heading t) (heading_is Section t is),
      EachNoLf-append (sections 0 t.programs) (last_lines t.shown t.forbidden) (sections_no_lf 0 t.programs)
          (show_no_lf t.shown, EachNoLf-append (map forbid_text t.forbidden) (end_text ∷ []) (forbids_no_lf t.forbidden) (const_no_lf end_text refl, tt)),
    )

-- ---- the lines after the sections

-- those of a test of so many cores
abbrev pub IsLast : ℕ → List ℕ → List (List ℕ) → Type 0
IsLast cores next more =
    (shown : List ShownParts) × (forbidden : List (List ℕ)) × AreShown cores shown × AreForbidden (length shown) forbidden
    × (next ≡ show_text shown) × (more ≡ map forbid_text forbidden ++ end_text ∷ [])

-- a register that any test may show
one_register : List ShownParts
one_register = record { core = 0; register = 0 } ∷ []

one_shown : (cores : ℕ) → 1 ≤ cores → AreShown cores one_register
unfolding one_register
one_shown cores some = record { some = omega arith; few = omega arith; each = ((omega (arith, some), omega arith), tt) }

-- what comes after so many lines of forbidden outcomes: one more and other lines, or the last line
pub data Comes (count n : ℕ) (lines : List (List ℕ)) : Type 0 where
  one_more : (values : List ℕ) (others : List (List ℕ)) → IsOutcome count values → n < 16 → lines ≡ forbid_text values ∷ others → Comes count n lines
  the_end : lines ≡ end_text ∷ [] → Comes count n lines

comes : (count : ℕ) (xs ys lines : List (List ℕ)) → AreForbidden count ys → map forbid_text xs ++ lines ≡ map forbid_text ys ++ end_text ∷ [] → Comes count (length xs) lines
comes count xs ys lines are e = go xs ys are.each (omega (arith, are.few)) e
  where
    go : (us vs : List (List ℕ)) → AllByRecursion (IsOutcome count) vs → length vs + length xs ≤ 16 + length us
        → map forbid_text us ++ lines ≡ map forbid_text vs ++ end_text ∷ [] → Comes count (length xs) lines
    go [] [] each within e = the_end e
    go [] (v ∷ vs) each within e = one_more v (map forbid_text vs ++ end_text ∷ []) each.0 (omega (arith, within)) e
    go (u ∷ us) [] each within e = absurd (forbid_no_end u cc)
    go (u ∷ us) (v ∷ vs) each within e = go us vs each.1 (omega (arith, within)) cc

-- ---- tests of one first line

module _ (h : HeadParts) (is : IsHead h) where
  -- the lines of such a test
  unfoldable pub whole : (Section : ProgramFormat → List Instruction → Type 0) (programs : List (List Instruction)) (shown : List ShownParts) (forbidden : List (List ℕ))
      → length programs ≡ h.cores → AllByRecursion (Section h.format) programs → AreShown h.cores shown → AreForbidden (length shown) forbidden
      → LitmusLines Section (begun (head_text h) programs ++ last_lines shown forbidden)
  whole Section programs shown forbidden count each are_shown are_forbidden = (
    record { name = h.name; format = h.format; programs = programs; shown = shown; forbidden = forbidden },
    (
      record {
        name = is.is_name;
        programs = record { some = omega (arith, is.some, count); few = omega (arith, is.few, count); each = each };
        shown = subst (λ (n : ℕ). AreShown n shown) (sym count) are_shown;
        forbidden = are_forbidden;
      },
      ap (λ (n : ℕ). head_text (record { format = h.format; name = h.name; cores = n }) ∷ (sections 0 programs ++ last_lines shown forbidden)) (sym count),
    ),
  )

  pub goes : (Section : ProgramFormat → List Instruction → Type 0) → IsKind Section → (programs : List (List Instruction)) → length programs ≤ h.cores → AllByRecursion (Section h.format) programs
      → CanGoOn (LitmusLines Section) (begun (head_text h) programs)
  goes Section kind programs within each =
      let full = filled_up (Section h.format) (kind.empty h.format) h.cores programs within each in
      let more = sections (0 + length programs) full.0 in
      let last = last_lines one_register [] in (
        more ++ last,
        subst (LitmusLines Section)
            (ap (λ (ls : List (List ℕ)). head_text h ∷ ls) (ap (λ (ls : List (List ℕ)). ls ++ last) (sections-append 0 programs full.0) ∙ append_assoc (sections 0 programs) more last))
            (whole Section (programs ++ full.0) one_register [] full.1 full.2 (one_shown h.cores is.some) (record { few = omega arith; each = tt })),
      )

  -- the lines of a test after its first
  behind_first : (Section : ProgramFormat → List Instruction → Type 0) (t : LitmusParts) (lines : List (List ℕ)) → IsTestOf Section t → head_text h ∷ lines ≡ litmus_lines t
      → (h ≡ heading t) × (lines ≡ sections 0 t.programs ++ last_lines t.shown t.forbidden)
  behind_first Section t lines test e =
      let first : head_text h ≡ head_text (heading t) = cc in
      (head_once h (heading t) is (heading_is Section t test) first, cc)

  next_line : (Section : ProgramFormat → List Instruction → Type 0) → IsKind Section → (programs : List (List Instruction)) (next : List ℕ) (more : List (List ℕ))
      → AllByRecursion (EachFits h.format) programs → LitmusLines Section (begun (head_text h) programs ++ next ∷ more) → Next h.format (Section h.format) (IsLast h.cores) h.cores 0 programs next more
  next_line Section kind programs next more each (t, (test, e)) =
      let b = behind_first Section t (sections 0 programs ++ next ∷ more) test e in
      let count : h.cores ≡ length t.programs = ap (λ (g : HeadParts). g.cores) b.0 in
      let last : IsLast h.cores (show_text t.shown) (map forbid_text t.forbidden ++ end_text ∷ []) =
      (t.shown, t.forbidden, subst (λ (n : ℕ). AreShown n t.shown) (sym count) test.shown, test.forbidden, refl, refl) in
      let all : AllByRecursion (Section h.format) t.programs = subst (λ (g : HeadParts). AllByRecursion (Section g.format) t.programs) (sym b.0) test.programs.each in
      subst (λ (n : ℕ). Next h.format (Section h.format) (IsLast h.cores) n 0 programs next more) (sym count)
      (next_of h.format (Section h.format) (kind.fits h.format) (IsLast h.cores) (show_text t.shown) (map forbid_text t.forbidden ++ end_text ∷ []) (show_is_other t.shown) last 0 t.programs programs next more
      all each (sym b.1))

  pub has : (Section : ProgramFormat → List Instruction → Type 0) → IsKind Section → HasSections h.format (LitmusLines Section) (Section h.format) (IsLast h.cores) (head_text h) h.cores
  has Section kind = record {
    lines = has_lines Section;
    can = goes Section kind;
    next = next_line Section kind;
    unended = λ programs g. sections_no_other (show_text g.0.shown) (show_is_other g.0.shown) programs (sections 0 g.0.programs) (map forbid_text g.0.forbidden ++ end_text ∷ [])
        (behind_first Section g.0 (sections 0 programs) g.1.0 g.1.1).1;
    last_no_lf = λ next more last. subst NoLf (sym last.4) (show_no_lf last.0);
    last_other = λ next more last i e. (show_is_other last.0).no_instruction i (e ∙ last.4);
  }

  -- what comes after a line of shown registers and lines of forbidden outcomes
  pub comes_behind : (Section : ProgramFormat → List Instruction → Type 0) → IsKind Section → (programs : List (List Instruction)) (shown : List ShownParts) (forbidden lines : List (List ℕ))
      → AllByRecursion (EachFits h.format) programs → AreShown h.cores shown → LitmusLines Section (begun (head_text h) programs ++ show_text shown ∷ (map forbid_text forbidden ++ lines))
      → Comes (length shown) (length forbidden) lines
  comes_behind Section kind programs shown forbidden lines each are g = by_next (next_line Section kind programs (show_text shown) (map forbid_text forbidden ++ lines) each g)
    where
      by_next : Next h.format (Section h.format) (IsLast h.cores) h.cores 0 programs (show_text shown) (map forbid_text forbidden ++ lines) → Comes (length shown) (length forbidden) lines
      by_next (goes_on i before last longer fits is at section less) = absurd ((show_is_other shown).no_instruction i (sym is))
      by_next (next_core is less) = absurd ((show_is_other shown).no_core (0 + length programs) (sym is))
      by_next (last_line (ys, others, are_ys, are_others, same, rest) count) =
          let once : shown ≡ ys = show_once h.cores is.few shown ys are are_ys same in
          comes (length shown) forbidden others lines (subst (λ (zs : List ShownParts). AreForbidden (length zs) others) (sym once) are_others) rest
