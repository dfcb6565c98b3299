-- Bytes that spell a trace have no fault, and others have one first fault.
use Rattle.std.proofs.Common.{◌≡◌, ◌≤◌, ◌+◌, ℕ, zero, suc, List, [], ◌∷◌, ◌++◌, length, refl, sym, ap, subst, ◌∙◌, ◌⊎◌, inl, inr, arith, length-append}
use Rattle.std.specs.Prelude.{◌≢◌, fold}
use Rattle.std.specs.List.{AllZip}
use Rattle.mem_op.specs.Consistency.{Operation}
use Rattle.mem_op.specs.Limits.{operation_limit}
use Rattle.flat_replay.specs.Accesses.{own_operations}
use Rattle.trace.specs.declared.fault.TraceFault.{TraceFault}
use Rattle.trace.specs.declared.fault.TraceFault.TheVariants.{BadTraceLine, TooMany, OutOfMemory}
use Rattle.trace.specs.declared.line.TraceLine.{TraceLine}
use Rattle.trace.specs.declared.line.TraceLine.TheVariants.{Nothing, Performs}
use Rattle.trace.specs.Grammar.{IsLine}
use Rattle.trace.specs.Growing.{with_operation, IsOfSize}
use Rattle.trace.specs.Laws.{SpelledIsRead, AtMostOneFault}
use Rattle.trace.specs.Texts.{with_line, trace_of, SpellsTrace, IsFaultAt, HasFirstFault, IsFault}
use Rattle.trace.proofs.LineTexts.{line_once}

-- ---- no line takes an operation away

own_with : (core : ℕ) (operation : Operation) (cores : List (List Operation))
    → length (own_operations (with_operation core operation cores) core) ≡ length (own_operations cores core) + 1
own_with zero operation [] = refl
own_with (suc core) operation [] = own_with core operation []
own_with zero operation (own ∷ others) = length-append own (operation ∷ [])
own_with (suc core) operation (own ∷ others) = own_with core operation others

grows_with : (core : ℕ) (operation : Operation) (cores : List (List Operation)) (k : ℕ)
    → length (own_operations cores k) ≤ length (own_operations (with_operation core operation cores) k)
grows_with zero operation [] k = omega arith
grows_with (suc core) operation [] k = omega arith
grows_with zero operation (own ∷ others) zero = omega (arith, length-append own (operation ∷ []))
grows_with zero operation (own ∷ others) (suc k) = omega arith
grows_with (suc core) operation (own ∷ others) zero = omega arith
grows_with (suc core) operation (own ∷ others) (suc k) = grows_with core operation others k

grows_line : (cores : List (List Operation)) (line : TraceLine) (k : ℕ)
    → length (own_operations cores k) ≤ length (own_operations (with_line cores line) k)
grows_line cores Nothing k = omega arith
grows_line cores (Performs core operation) k = grows_with core operation cores k

grows : (cores : List (List Operation)) (said : List TraceLine) (k : ℕ)
    → length (own_operations cores k) ≤ length (own_operations (fold with_line cores said) k)
grows cores [] k = omega arith
grows cores (line ∷ said) k = omega (arith, grows_line cores line k, grows (with_line cores line) said k)

fold-append : (cores : List (List Operation)) (before after : List TraceLine)
    → fold with_line cores (before ++ after) ≡ fold with_line (fold with_line cores before) after
fold-append cores [] after = refl
fold-append cores (line ∷ before) after = fold-append (with_line cores line) before after

-- a line that a trace of its size has, has no fault there
no_fault_there : (before after : List TraceLine) (line : List ℕ) (here : TraceLine) (fault : TraceFault)
    → IsLine line here → IsOfSize (trace_of (before ++ here ∷ after)) → IsFaultAt before line fault → fault ≡ OutOfMemory
no_fault_there before after line here (BadTraceLine k) is size (counted, none) = absurd (none here is)
no_fault_there before after line here (TooMany k) is size (counted, (core, operation, there, full)) =
    let then : List (List Operation) = with_operation core operation (trace_of before) in
    let same : trace_of (before ++ here ∷ after) ≡ fold with_line then after =
    fold-append [] before (here ∷ after) ∙ ap (λ said. fold with_line (with_line (trace_of before) said) after) (line_once line here (Performs core operation) is there) in
    let short = subst (λ (cores : List (List Operation)). length (own_operations cores core) ≤ operation_limit) same (size.short core) in
    absurd (omega (arith, own_with core operation (trace_of before), grows then after core))
no_fault_there before after line here OutOfMemory is size at = refl

-- ---- where a line stands among those that say something

-- a line says something, after lines that said these
pub record SaysThere (line : List ℕ) (before said : List TraceLine) : Type 0 where
  pub here : TraceLine
  pub is_line : IsLine line here
  pub after : List TraceLine
  pub said_are : said ≡ before ++ here ∷ after

says_longer : (x y : TraceLine) (line : List ℕ) (before said : List TraceLine) → x ≡ y → SaysThere line before said
    → SaysThere line (x ∷ before) (y ∷ said)
says_longer x y line before said first there = record {
  here = there.here;
  is_line = there.is_line;
  after = there.after;
  said_are = ap (λ z. z ∷ said) (sym first) ∙ ap (λ zs. x ∷ zs) there.said_are;
}

pub says_there : (earlier later : List (List ℕ)) (line : List ℕ) (before said : List TraceLine) → AllZip IsLine earlier before
    → AllZip IsLine (earlier ++ line ∷ later) said → SaysThere line before said
says_there [] later line [] [] says all = absurd all
says_there [] later line [] (y ∷ said) says all = record { here = y; is_line = all.0; after = said; said_are = refl }
says_there [] later line (x ∷ before) said says all = absurd says
says_there (l ∷ earlier) later line [] said says all = absurd says
says_there (l ∷ earlier) later line (x ∷ before) [] says all = absurd all
says_there (l ∷ earlier) later line (x ∷ before) (y ∷ said) says all =
    says_longer x y line before said (line_once l x y says.0 all.0) (says_there earlier later line before said says.1 all.1)

no_first_fault : (bytes : List ℕ) (cores : List (List Operation)) (fault : TraceFault) → SpellsTrace bytes cores → HasFirstFault bytes fault
    → fault ≡ OutOfMemory
no_first_fault bytes cores fault spells first =
    let there = says_there first.earlier first.later first.line first.before spells.said first.says
    (subst (λ (ls : List (List ℕ)). AllZip IsLine ls spells.said) first.lines_are spells.says) in
    no_fault_there first.before there.after first.line there.here fault there.is_line
    (subst IsOfSize (spells.trace ∙ ap trace_of there.said_are) spells.size) first.fault_at

pub spelled : SpelledIsRead
spelled bytes cores (BadTraceLine k) spells bad = no_first_fault bytes cores (BadTraceLine k) spells bad
spelled bytes cores (TooMany k) spells bad = no_first_fault bytes cores (TooMany k) spells bad
spelled bytes cores OutOfMemory spells bad = refl

-- ---- the lines of two faults

-- two lines are the same one, or one of them says something before the other
abbrev pub AreOneOr : List ℕ → List ℕ → List TraceLine → List TraceLine → Type 0
AreOneOr l m p q = ((p ≡ q) × (l ≡ m)) ⊎ (SaysThere l p q ⊎ SaysThere m q p)

one_longer : (x y : TraceLine) (l m : List ℕ) (p q : List TraceLine) → x ≡ y → AreOneOr l m p q → AreOneOr l m (x ∷ p) (y ∷ q)
one_longer x y l m p q first (inl same) = inl (ap (λ z. z ∷ p) first ∙ ap (λ zs. y ∷ zs) same.0, same.1)
one_longer x y l m p q first (inr (inl there)) = inr (inl (says_longer x y l p q first there))
one_longer x y l m p q first (inr (inr there)) = inr (inr (says_longer y x m q p (sym first) there))

pub one_or : (e f ls ms : List (List ℕ)) (l m : List ℕ) (p q : List TraceLine) → e ++ l ∷ ls ≡ f ++ m ∷ ms → AllZip IsLine e p → AllZip IsLine f q
    → AreOneOr l m p q
one_or [] [] ls ms l m [] [] same a b = inl (refl, cc)
one_or [] [] ls ms l m [] (y ∷ q) same a b = absurd b
one_or [] f ls ms l m (x ∷ p) q same a b = absurd a
one_or [] (k ∷ f) ls ms l m [] [] same a b = absurd b
one_or [] (k ∷ f) ls ms l m [] (y ∷ q) same a b =
    let is : k ≡ l = cc in
    inr (inl (record { here = y; is_line = subst (λ line. IsLine line y) is b.0; after = q; said_are = refl }))
one_or (j ∷ e) f ls ms l m [] q same a b = absurd a
one_or (j ∷ e) [] ls ms l m (x ∷ p) (y ∷ q) same a b = absurd b
one_or (j ∷ e) [] ls ms l m (x ∷ p) [] same a b =
    let is : j ≡ m = cc in
    inr (inr (record { here = x; is_line = subst (λ line. IsLine line x) is a.0; after = p; said_are = refl }))
one_or (j ∷ e) (k ∷ f) ls ms l m (x ∷ p) [] same a b = absurd b
one_or (j ∷ e) (k ∷ f) ls ms l m (x ∷ p) (y ∷ q) same a b =
    let is : k ≡ j = cc in
    let rest : e ++ l ∷ ls ≡ f ++ m ∷ ms = cc in
    one_longer x y l m p q (line_once j x y a.0 (subst (λ line. IsLine line y) is b.0)) (one_or e f ls ms l m p q rest a.1 b.1)

-- a line has one fault
fault_once : (before : List TraceLine) (line : List ℕ) (f g : TraceFault) → IsFaultAt before line f → IsFaultAt before line g
    → f ≢ OutOfMemory → g ≢ OutOfMemory → f ≡ g
fault_once before line (BadTraceLine j) (BadTraceLine k) a b p q = ap (λ (n : ℕ). BadTraceLine n) (a.0 ∙ sym b.0)
fault_once before line (BadTraceLine j) (TooMany k) a (counted, (core, operation, there, full)) p q = absurd (a.1 (Performs core operation) there)
fault_once before line (TooMany j) (BadTraceLine k) (counted, (core, operation, there, full)) b p q = absurd (b.1 (Performs core operation) there)
fault_once before line (TooMany j) (TooMany k) a b p q = ap (λ (n : ℕ). TooMany n) (a.0 ∙ sym b.0)
fault_once before line OutOfMemory g a b p q = absurd (p refl)
fault_once before line (BadTraceLine j) OutOfMemory a b p q = absurd (q refl)
fault_once before line (TooMany j) OutOfMemory a b p q = absurd (q refl)

first_once : (bytes : List ℕ) (f g : TraceFault) → HasFirstFault bytes f → HasFirstFault bytes g → f ≢ OutOfMemory → g ≢ OutOfMemory → f ≡ g
first_once bytes f g a b p q = go (one_or a.earlier b.earlier a.later b.later a.line b.line a.before b.before (sym a.lines_are ∙ b.lines_are) a.says b.says)
  where
    go : AreOneOr a.line b.line a.before b.before → f ≡ g
    go (inl same) =
        fault_once b.before b.line f g
        (subst (λ line. IsFaultAt b.before line f) same.1 (subst (λ before. IsFaultAt before a.line f) same.0 a.fault_at))
        b.fault_at p q
    go (inr (inl there)) =
        absurd (p (no_fault_there a.before there.after a.line there.here f there.is_line (subst IsOfSize (ap trace_of there.said_are) b.size) a.fault_at))
    go (inr (inr there)) =
        absurd (q (no_fault_there b.before there.after b.line there.here g there.is_line (subst IsOfSize (ap trace_of there.said_are) a.size) b.fault_at))

first_of : (bytes : List ℕ) (fault : TraceFault) → IsFault bytes fault → fault ≢ OutOfMemory → HasFirstFault bytes fault
first_of bytes (BadTraceLine k) is some = is
first_of bytes (TooMany k) is some = is
first_of bytes OutOfMemory is some = absurd (some refl)

pub at_most_one : AtMostOneFault
at_most_one bytes f g a b p q = first_once bytes f g (first_of bytes f a p) (first_of bytes g b q) p q
