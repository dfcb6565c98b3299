-- The first jump past the end of its program among the sections of a set.
use Rattle.std.proofs.Common.{◌≡◌, ℕ, zero, suc, ◌+◌, ◌*◌, ◌<◌, ◌≤◌, ◌⊎◌, true, false, List, [], ◌∷◌, ◌++◌, length, take, get_or, Some, refl, sym, ap, subst, ◌∙◌, arith, inl, inr, length-append}
use Rattle.std.specs.Prelude.{slice_get}
use Rattle.std.specs.Global.{Vec}
use Rattle.std.specs.List.{AllByRecursion}
use Rattle.std.proofs.lemmas.Bool.{cases_lt}
use Rattle.std.proofs.lemmas.List.{length-map}
use Rattle.decimal_text.proofs.Reading.{some_is}
use Rattle.core_program.specs.declared.format.ProgramFormat.{ProgramFormat}
use Rattle.core_program.specs.declared.instruction.Instruction.{Instruction}
use Rattle.core_program.specs.Answers.{SkipsInSetAt, IsLeast}
use Rattle.core_program.specs.Grammar.{instruction_text, program_lines, sections, IsSection}
use Rattle.core_program.specs.Least.{IsLeastWhere}
use Rattle.core_program.specs.Sections.{section_lists}
use Rattle.core_program.specs.Shape.{IsProgram, is_skip_past_end}
use Rattle.core_program.proofs.SectionsOf.{length-begun}
use Rattle.text_lines.proofs.Items.{each_push}

-- the lines of the sections before one, and that section with them
length-sections-take : (core n m : ℕ) (set : List (List Instruction)) (program : List Instruction) → n < m → slice_get set n ≡ Some program
    → length (sections core (take n set)) + 1 + length program ≤ length (sections core (take m set))
length-sections-take core n m [] program lt at = absurd cc
length-sections-take core n zero (p ∷ set) program lt at = absurd (omega arith)
length-sections-take core zero (suc m) (p ∷ set) program lt at =
    let is : p ≡ program = cc in
    omega (arith, ap length is, length-append (program_lines p) (sections (suc core) (take m set)), length-map p instruction_text)
length-sections-take core (suc n) (suc m) (p ∷ set) program lt at =
    omega (
      arith,
      length-sections-take (suc core) n m set program (omega arith) at,
      length-append (program_lines p) (sections (suc core) (take n set)),
      length-append (program_lines p) (sections (suc core) (take m set)),
    )

-- an element put first
among_first : {X : Type 0} (P : X → Type 0) (xs : List X) (n k : ℕ) (x : X) → AllByRecursion P (take n xs) → k < n → slice_get xs k ≡ Some x → P x
among_first P [] n k x all lt at = absurd cc
among_first P (y ∷ xs) zero k x all lt at = absurd (omega arith)
among_first P (y ∷ xs) (suc n) zero x all lt at = let is : y ≡ x = cc in subst P is all.0
among_first P (y ∷ xs) (suc n) (suc k) x all lt at = among_first P xs n k x all.1 (omega arith) at

-- the first jump of a section, where no section before has any
pub first_jump : (set : List (List Instruction)) (n i k : ℕ) (program : List Instruction) → AllByRecursion IsProgram (take n set)
    → slice_get set n ≡ Some program → IsLeastWhere (is_skip_past_end program) (Some i) → i < length program
    → k ≡ length (sections 0 (take n set)) + 3 + i → IsLeast (SkipsInSetAt set) k
first_jump set n i k program before at first inside k-is = (
  record {
    core = n;
    program = program;
    of_core = at;
    place = i + 1;
    skips = record { index = i; passes = first.0; line = refl };
    line = omega (arith, k-is);
  },
  least,
)
  where
    by_place : (core other : ℕ) (q : List Instruction) → slice_get set core ≡ Some q → (i' : ℕ) → is_skip_past_end q i' ≡ true
        → other ≡ 1 + length (sections 0 (take core set)) + 1 + (i' + 1) → (core < n) ⊎ (n ≤ core) → (n < core) ⊎ (core ≤ n) → k ≤ other
    by_place core other q there i' passes other-is (inl lt) side =
        let whole = among_first IsProgram set n core q before lt there in
        let wrong : true ≡ false = sym passes ∙ whole.inside i' in
        absurd cc
    by_place core other q there i' passes other-is (inr le) (inl gt) =
        omega (arith, length-sections-take 0 n core set program gt at, k-is, other-is, inside)
    by_place core other q there i' passes other-is (inr le) (inr ge) =
        let same : core ≡ n = omega arith in
        let q-is : q ≡ program = some_is q program (sym there ∙ ap (slice_get set) same ∙ at) in
        let passes' : is_skip_past_end program i' ≡ true = ap (λ (p : List Instruction). is_skip_past_end p i') (sym q-is) ∙ passes in
        elim (cases_lt i' i) [
          | inl lt ↦ let wrong : true ≡ false = sym passes' ∙ first.1 i' lt in absurd cc
          | inr le' ↦ omega (arith, ap (λ (c : ℕ). length (sections 0 (take c set))) same, k-is, other-is)
        ]

    least : (other : ℕ) → SkipsInSetAt set other → k ≤ other
    least other s =
        by_place s.core other s.program s.of_core s.skips.index s.skips.passes (omega (arith, s.skips.line, s.line))
        (cases_lt s.core n) (cases_lt n s.core)

-- ---- one more section

pub among : {X : Type 0} (P : X → Type 0) (xs : List X) (k : ℕ) (x : X) → AllByRecursion P xs → slice_get xs k ≡ Some x → P x
among P [] k x all at = absurd cc
among P (y ∷ xs) zero x all at = let is : y ≡ x = cc in subst P is all.0
among P (y ∷ xs) (suc k) x all at = among P xs k x all.1 at

take_push : {X : Type 0} (xs : List X) (n : ℕ) (x : X) → slice_get xs n ≡ Some x → take (suc n) xs ≡ take n xs ++ x ∷ []
take_push [] n x at = absurd cc
take_push (y ∷ xs) zero x at = let is : y ≡ x = cc in ap (λ z. z ∷ []) is
take_push (y ∷ xs) (suc n) x at = ap (λ zs. y ∷ zs) (take_push xs n x at)

-- the section at a place
section_at : (sections : List (Vec Instruction)) (n : ℕ) (section : Vec Instruction) → n < length sections → section ≡ get_or sections n section
    → slice_get (section_lists sections) n ≡ Some section.items
section_at [] n section lt is = absurd (omega arith)
section_at (v ∷ sections) zero section lt is = ap (λ (w : Vec Instruction). Some w.items) (sym is)
section_at (v ∷ sections) (suc n) section lt is = section_at sections n section (omega arith) is

-- the section that comes next
pub next_section : (format : ProgramFormat) (sections : List (Vec Instruction)) (n : ℕ) (section : Vec Instruction) → AllByRecursion (IsSection format) (section_lists sections)
    → (n < length sections) × (section ≡ get_or sections n section)
    → (slice_get (section_lists sections) n ≡ Some section.items) × IsSection format section.items
next_section format sections n section each (lt, is) =
    let at = section_at sections n section lt is in
    (at, among (IsSection format) (section_lists sections) n section.items each at)

-- what is known of the sections so far
pub record NoJumps (set programs : List (List Instruction)) (n line : ℕ) : Type 0 where
  pub programs_are : programs ≡ take n set
  pub each : AllByRecursion IsProgram (take n set)
  pub line_is : line ≡ length (sections 0 (take n set)) + 3
  pub line_small : line ≤ 3 + n * 4097

-- the lines of the sections up to the next one
pub length-sections-next : (set : List (List Instruction)) (n : ℕ) (program : List Instruction) → slice_get set n ≡ Some program
    → length (sections 0 (take (suc n) set)) ≡ length (sections 0 (take n set)) + 1 + length program
length-sections-next set n program at = ap (λ ps. length (sections 0 ps)) (take_push set n program at) ∙ length-begun (take n set) program

pub one_more_program : (set programs more : List (List Instruction)) (n m line next : ℕ) (program : List Instruction) → NoJumps set programs n line
    → slice_get set n ≡ Some program → IsProgram program → more ≡ programs ++ program ∷ [] → m ≡ n + 1 → next ≡ line + (length program + 1)
    → NoJumps set more m next
one_more_program set programs more n m line next program so-far at is more-is m-is next-is =
    let next-m : m ≡ suc n = omega arith in
    let pushed : take m set ≡ take n set ++ program ∷ [] = ap (λ (k : ℕ). take k set) next-m ∙ take_push set n program at in
    record {
      programs_are = more-is ∙ ap (λ (ps : List (List Instruction)). ps ++ program ∷ []) so-far.programs_are ∙ sym pushed;
      each = subst (AllByRecursion IsProgram) (sym pushed) (each_push IsProgram (take n set) program so-far.each is);
      line_is = omega (arith, ap (λ (k : ℕ). length (sections 0 (take k set))) next-m, length-sections-next set n program at, so-far.line_is, next-is);
      line_small = omega (arith, so-far.line_small, is.short, next-is, m-is);
    }
