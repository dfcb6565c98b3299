-- The lines of a set of programs, and what may come after some of them.
use Rattle.std.proofs.Common.{◌≡◌, ◌≢◌, ℕ, zero, suc, ◌+◌, ◌-◌, ◌<◌, ◌≤◌, List, [], ◌∷◌, ◌++◌, length, zero-add, refl, sym, ap, subst, ◌∙◌, arith, append_assoc, append-nil, length-append}
use Rattle.std.specs.Prelude.{codes, replicate}
use Rattle.std.specs.List.{AllByRecursion}
use Rattle.std.proofs.lemmas.List.{append_cancel_left, length-replicate}
use Rattle.decimal_text.specs.Numbers.{numeral}
use Rattle.decimal_text.proofs.Lines.{NoLf, NoLf-append, numeral_no_lf, const_no_lf}
use Rattle.core_program.specs.declared.instruction.Instruction.{Instruction}
use Rattle.core_program.specs.declared.instruction.Instruction.TheVariants.{Load, Store, StoreRegister, Add, SkipIfZero, Swap}
use Rattle.core_program.specs.declared.format.ProgramFormat.{ProgramFormat}
use Rattle.core_program.specs.Answers.{SetLines}
use Rattle.core_program.specs.Grammar.{instruction_text, header_text, core_text, end_text, format_number, program_lines, sections, set_lines, FitsIn, EachFits}
use Rattle.core_program.specs.SetParts.{SetParts}
use Rattle.core_program.proofs.Headers.{header_once}
use Rattle.core_program.proofs.Instructions.{instruction_once}
use Rattle.core_program.proofs.ProgramTexts.{program_lines_no_lf}
use Rattle.text_lines.proofs.Wrong.{EachNoLf, EachNoLf-append, HasLines}

-- ---- no line feed

pub core_no_lf : (core : ℕ) → NoLf (core_text core)
unfolding core_text
core_no_lf core = NoLf-append (codes "core ") (numeral core) (const_no_lf (codes "core ") refl) (numeral_no_lf core)

pub header_no_lf : (format cores : ℕ) → NoLf (header_text format cores)
unfolding header_text
header_no_lf format cores =
    NoLf-append (codes "tardis-programs ") (numeral format ++ (codes " cores " ++ numeral cores)) (const_no_lf (codes "tardis-programs ") refl)
    (NoLf-append (numeral format) (codes " cores " ++ numeral cores) (numeral_no_lf format)
    (NoLf-append (codes " cores ") (numeral cores) (const_no_lf (codes " cores ") refl) (numeral_no_lf cores)))

pub sections_no_lf : (core : ℕ) (programs : List (List Instruction)) → EachNoLf (sections core programs)
sections_no_lf core [] = tt
sections_no_lf core (program ∷ programs) =
    (core_no_lf core, EachNoLf-append (program_lines program) (sections (suc core) programs) (program_lines_no_lf program) (sections_no_lf (suc core) programs))

pub set_no_lf : (set : SetParts) → EachNoLf (set_lines set)
set_no_lf set = (
  header_no_lf (format_number set.format) (length set.programs),
  EachNoLf-append (sections 0 set.programs) (end_text ∷ []) (sections_no_lf 0 set.programs) (const_no_lf end_text refl, tt),
)

pub has_lines : (Section : ProgramFormat → List Instruction → Type 0) → HasLines (SetLines Section)
has_lines Section lines g = subst EachNoLf (sym g.1.1) (set_no_lf g.0)

-- ---- lines of different kinds

-- the first byte, or 0
abbrev first_of : List ℕ → ℕ
first_of [] = 0
first_of (b ∷ bs) = b

-- the first byte of an instruction's line is l, s, a or j
instruction_first : (i : Instruction) → (first_of (instruction_text i) ≢ 99) × (first_of (instruction_text i) ≢ 101)
unfolding instruction_text
instruction_first (Load to addr) = (λ e. omega (arith, e), λ e. omega (arith, e))
instruction_first (Store addr value) = (λ e. omega (arith, e), λ e. omega (arith, e))
instruction_first (StoreRegister addr from) = (λ e. omega (arith, e), λ e. omega (arith, e))
instruction_first (Add to from value) = (λ e. omega (arith, e), λ e. omega (arith, e))
instruction_first (SkipIfZero tested skip) = (λ e. omega (arith, e), λ e. omega (arith, e))
instruction_first (Swap to addr value) = (λ e. omega (arith, e), λ e. omega (arith, e))

pub core_first : (core : ℕ) → first_of (core_text core) ≡ 99
unfolding core_text
core_first core = refl

pub instruction_no_core : (i : Instruction) (core : ℕ) → instruction_text i ≡ core_text core → ⊥
instruction_no_core i core e = (instruction_first i).0 (ap first_of e ∙ core_first core)

pub instruction_no_end : (i : Instruction) → instruction_text i ≡ end_text → ⊥
instruction_no_end i e = (instruction_first i).1 (ap first_of e)

pub core_no_end : (core : ℕ) → core_text core ≡ end_text → ⊥
core_no_end core e = omega (arith, ap first_of e, core_first core)

-- ---- what may come after sections

pub sections-append : (core : ℕ) (front back : List (List Instruction)) → sections core (front ++ back) ≡ sections core front ++ sections (core + length front) back
sections-append core [] back = ap (λ (c : ℕ). sections c back) (omega arith)
sections-append core (program ∷ front) back =
    ap (λ (ls : List (List ℕ)). core_text core ∷ (program_lines program ++ ls))
    (sections-append (suc core) front back ∙ ap (λ (c : ℕ). sections (suc core) front ++ sections c back) (omega arith))
    ∙ ap (λ (ls : List (List ℕ)). core_text core ∷ ls)
    (sym (append_assoc (program_lines program) (sections (suc core) front) (sections (core + suc (length front)) back)))

-- what two programs have in common at their fronts: they are one, or one goes on where the other ends
pub data Compared (format : ProgramFormat) (p q : List Instruction) (xs ys : List (List ℕ)) : Type 0 where
  equal : p ≡ q → xs ≡ ys → Compared format p q xs ys
  first_longer : (i : Instruction) (more : List (List ℕ)) → FitsIn format i → length q < length p → ys ≡ instruction_text i ∷ more → Compared format p q xs ys
  second_longer : (i : Instruction) (more : List (List ℕ)) → length p < length q → xs ≡ instruction_text i ∷ more → Compared format p q xs ys

pub compared : (format : ProgramFormat) (p q : List Instruction) (xs ys : List (List ℕ)) → EachFits format p → EachFits format q → program_lines p ++ xs ≡ program_lines q ++ ys
    → Compared format p q xs ys
compared format [] [] xs ys f g e = equal refl e
compared format [] (j ∷ q) xs ys f g e = second_longer j (program_lines q ++ ys) (omega arith) e
compared format (i ∷ p) [] xs ys f g e = first_longer i (program_lines p ++ xs) f.0 (omega arith) (sym e)
compared format (i ∷ p) (j ∷ q) xs ys f g e = elim (compared format p q xs ys f.1 g.1 cc) [
  | equal p-is xs-is ↦ (let first : i ≡ j = instruction_once i j f.0.numbers g.0.numbers cc in equal (cc) xs-is)
  | first_longer k more fits longer is ↦ first_longer k more fits (omega arith) is
  | second_longer k more longer is ↦ second_longer k more (omega arith) is
]

-- What may come after the sections of these programs, where `count` sections come before a last part of a text: one more
-- instruction of the last of them, the line of the next core, or the first line of the last part and what is behind it.
pub data Next (format : ProgramFormat) (Section : List Instruction → Type 0) (Last : List ℕ → List (List ℕ) → Type 0) (count core : ℕ) (programs : List (List Instruction)) (next : List ℕ) (more : List (List ℕ)) : Type 0 where
  goes_on : (i : Instruction) (before : List (List Instruction)) (last longer : List Instruction) → FitsIn format i → next ≡ instruction_text i
      → programs ≡ before ++ last ∷ [] → Section longer → length last < length longer → Next format Section Last count core programs next more
  next_core : next ≡ core_text (core + length programs) → length programs < count → Next format Section Last count core programs next more
  last_line : Last next more → length programs ≡ count → Next format Section Last count core programs next more

-- after one more program
next_behind : (format : ProgramFormat) (Section : List Instruction → Type 0) (Last : List ℕ → List (List ℕ) → Type 0) (count core : ℕ) (program : List Instruction) (programs : List (List Instruction)) (next : List ℕ) (more : List (List ℕ))
    → Next format Section Last count (suc core) programs next more → Next format Section Last (suc count) core (program ∷ programs) next more
next_behind format Section Last count core program programs next more (goes_on i before last longer fits is at section less) =
    goes_on i (program ∷ before) last longer fits is (ap (λ (ps : List (List Instruction)). program ∷ ps) at) section less
next_behind format Section Last count core program programs next more (next_core is less) =
    next_core (is ∙ ap core_text (omega arith)) (omega arith)
next_behind format Section Last count core program programs next more (last_line is count-is) = last_line is (omega arith)

-- a line that is neither an instruction's nor a core's
pub record IsOther (line : List ℕ) : Type 0 where
  pub no_instruction : (i : Instruction) → instruction_text i ≡ line → ⊥
  pub no_core : (core : ℕ) → core_text core ≡ line → ⊥

pub end_is_other : IsOther end_text
end_is_other = record { no_instruction = instruction_no_end; no_core = core_no_end }

pub next_of : (format : ProgramFormat) (Section : List Instruction → Type 0) → ((p : List Instruction) → Section p → EachFits format p) → (Last : List ℕ → List (List ℕ) → Type 0)
    → (line : List ℕ) (others : List (List ℕ)) → IsOther line → Last line others → (core : ℕ)
    → (set programs : List (List Instruction)) (next : List ℕ) (more : List (List ℕ)) → AllByRecursion Section set
    → AllByRecursion (EachFits format) programs → sections core set ++ line ∷ others ≡ sections core programs ++ next ∷ more
    → Next format Section Last (length set) core programs next more
next_of format Section fits Last line others other is core [] [] next more all each e =
    let line-is : line ≡ next = cc in
    let others-is : others ≡ more = cc in
    last_line (subst (λ (l : List ℕ). Last l more) line-is (subst (λ (ls : List (List ℕ)). Last line ls) others-is is)) refl
next_of format Section fits Last line others other is core (p ∷ set) [] next more all each e =
    let here : core_text core ≡ next = cc in
    next_core (sym here ∙ ap core_text (omega arith)) (omega arith)
next_of format Section fits Last line others other is core [] (q ∷ programs) next more all each e = absurd (other.no_core core cc)
next_of format Section fits Last line others other is core (p ∷ set) (q ∷ programs) next more all each e =
    by_compared (compared format p q (sections (suc core) set ++ line ∷ others) (sections (suc core) programs ++ next ∷ more) (fits p all.0) each.0 tails)
    (λ rest-is. next_behind format Section Last (length set) core q programs next more (next_of format Section fits Last line others other is (suc core) set programs next more all.1 each.1 rest-is))
  where
    tails : program_lines p ++ (sections (suc core) set ++ line ∷ others) ≡ program_lines q ++ (sections (suc core) programs ++ next ∷ more)
    tails =
        sym (append_assoc (program_lines p) (sections (suc core) set) (line ∷ others))
        ∙ append_cancel_left (core_text core ∷ []) ((program_lines p ++ sections (suc core) set) ++ line ∷ others) ((program_lines q ++ sections (suc core) programs) ++ next ∷ more) e
        ∙ append_assoc (program_lines q) (sections (suc core) programs) (next ∷ more)

    -- the first line after the section of q
    first_behind : (rest : List (List Instruction)) (i : Instruction) (lines : List (List ℕ)) → programs ≡ rest → FitsIn format i → length q < length p
        → sections (suc core) rest ++ next ∷ more ≡ instruction_text i ∷ lines → Next format Section Last (suc (length set)) core (q ∷ programs) next more
    first_behind [] i lines none fit less is-i = goes_on i [] q p fit (cc) (ap (λ (ps : List (List Instruction)). q ∷ ps) none) all.0 less
    first_behind (r ∷ rest) i lines at fit less is-i = absurd (instruction_no_core i (suc core) cc)

    -- the first line after the section of p
    no_instruction : (rest : List (List Instruction)) (i : Instruction) (lines : List (List ℕ)) → sections (suc core) rest ++ line ∷ others ≡ instruction_text i ∷ lines → ⊥
    no_instruction [] i lines is-i = other.no_instruction i cc
    no_instruction (r ∷ rest) i lines is-i = instruction_no_core i (suc core) cc

    by_compared : Compared format p q (sections (suc core) set ++ line ∷ others) (sections (suc core) programs ++ next ∷ more)
        → (sections (suc core) set ++ line ∷ others ≡ sections (suc core) programs ++ next ∷ more → Next format Section Last (suc (length set)) core (q ∷ programs) next more)
        → Next format Section Last (suc (length set)) core (q ∷ programs) next more
    by_compared (equal p-is rest-is) again = again rest-is
    by_compared (first_longer i lines fit less is-i) again = first_behind programs i lines refl fit less is-i
    by_compared (second_longer i lines less is-i) again = absurd (no_instruction set i lines is-i)

-- ---- sets that go on

abbrev pub empties : ℕ → List (List Instruction)
empties n = replicate n []

pub each_empty : (Section : List Instruction → Type 0) → Section [] → (n : ℕ) → AllByRecursion Section (empties n)
each_empty Section none zero = tt
each_empty Section none (suc n) = (none, each_empty Section none n)

pub each-append : (Section : List Instruction → Type 0) (front back : List (List Instruction)) → AllByRecursion Section front → AllByRecursion Section back → AllByRecursion Section (front ++ back)
each-append Section [] back p q = q
each-append Section (program ∷ front) back p q = (p.0, each-append Section front back p.1 q)

-- the header and the sections of some programs
abbrev pub begun : List ℕ → List (List Instruction) → List (List ℕ)
begun header programs = header ∷ sections 0 programs

-- sections of no instruction may come after some, up to a number of cores
pub filled_up : (Section : List Instruction → Type 0) → Section [] → (cores : ℕ) (programs : List (List Instruction)) → length programs ≤ cores
    → AllByRecursion Section programs
    → (more : List (List Instruction)) × (length (programs ++ more) ≡ cores) × AllByRecursion Section (programs ++ more)
filled_up Section none cores programs within each =
    let empty = empties (cores - length programs) in (
      empty,
      omega (arith, within, length-append programs empty, length-replicate {A = List Instruction} (cores - length programs) []),
      each-append Section programs empty each (each_empty Section none (cores - length programs)),
    )

-- none of these lines is this one
abbrev NoneIs : List ℕ → List (List ℕ) → Type 0
NoneIs line lines = AllByRecursion (λ l. l ≡ line → ⊥) lines

program_has_none : (line : List ℕ) → IsOther line → (program : List Instruction) (lines : List (List ℕ)) → NoneIs line lines → NoneIs line (program_lines program ++ lines)
program_has_none line other [] lines none = none
program_has_none line other (i ∷ program) lines none = (other.no_instruction i, program_has_none line other program lines none)

sections_have_none : (line : List ℕ) → IsOther line → (core : ℕ) (programs : List (List Instruction)) → NoneIs line (sections core programs)
sections_have_none line other core [] = tt
sections_have_none line other core (program ∷ programs) =
    (other.no_core core, program_has_none line other program (sections (suc core) programs) (sections_have_none line other (suc core) programs))

is_among : (line : List ℕ) (front more : List (List ℕ)) → NoneIs line (front ++ line ∷ more) → ⊥
is_among line [] more none = none.0 refl
is_among line (l ∷ front) more none = is_among line front more none.1

-- no line of sections is another than an instruction's and a core's
pub sections_no_other : (line : List ℕ) → IsOther line → (programs : List (List Instruction)) (front more : List (List ℕ)) → sections 0 programs ≡ front ++ line ∷ more → ⊥
sections_no_other line other programs front more e = is_among line front more (subst (NoneIs line) e (sections_have_none line other 0 programs))

-- the lines after the header
pub behind_header : (format : ProgramFormat) (cores : ℕ) (set : SetParts) (lines : List (List ℕ)) → header_text (format_number format) cores ∷ lines ≡ set_lines set
    → (format ≡ set.format) × (cores ≡ length set.programs) × (lines ≡ sections 0 set.programs ++ end_text ∷ [])
behind_header format cores set lines e =
    let once = header_once format set.format cores (length set.programs) cc in
    (once.0, once.1, cc)

-- the lines of one more section
pub sections_push : (programs : List (List Instruction)) (program : List Instruction)
    → sections 0 (programs ++ program ∷ []) ≡ sections 0 programs ++ core_text (length programs) ∷ program_lines program
sections_push programs program =
    sections-append 0 programs (program ∷ [])
    ∙ ap (λ (n : ℕ). sections 0 programs ++ sections n (program ∷ [])) (zero-add (length programs))
    ∙ ap (λ (ls : List (List ℕ)). sections 0 programs ++ core_text (length programs) ∷ ls) (append-nil (program_lines program))

pub begun_push : (header : List ℕ) (programs : List (List Instruction)) (program : List Instruction)
    → begun header (programs ++ program ∷ []) ≡ begun header programs ++ core_text (length programs) ∷ program_lines program
begun_push header programs program = ap (λ (ls : List (List ℕ)). header ∷ ls) (sections_push programs program)
