-- The lines of steps: whether a line is one, and of which.
use Rattle.std.proofs.Common.{rules, ◌≡◌, ◌≢◌, ℕ, ◌<◌, ◌^◌, ◌==◌, List, [], ◌∷◌, ◌++◌, Option, Some, None, refl, sym, ap, ◌∙◌, arith}
use Rattle.std.specs.Prelude.{codes, flat_map, option_map, if◌then◌else◌}
use Rattle.decimal_text.specs.Numbers.{numeral}
use Rattle.std.proofs.lemmas.Option.{none-some, some_pair_parts}
use Rattle.mem_op.specs.declared.id.OpId.{OpId}
use Rattle.refutation.specs.declared.step.Range.{Range}
use Rattle.refutation.specs.declared.state.State.{State}
use Rattle.refutation.specs.declared.step.Step.{Step}
use Rattle.refutation.specs.declared.step.Step.TheVariants.{Read, FromRead, WriteOrder, Cycle, States}
use Rattle.refutation.specs.Grammar.{state_text, id_text, range_text, reason_text, name_text, fields_text, IdFits, RangeFits, Fits}
use Rattle.refutation.specs.inner.Reading.{named_at, source_at}
use Rattle.refutation.specs.inner.StateLines.{PartInFront}
use Rattle.refutation.specs.inner.Telling.{TellsWords, TellsReason, TellsStep, TellsLine}
use Rattle.refutation.proofs.Parts.{named_takes, named_again}
use Rattle.refutation.proofs.StateTexts.{StatesSoFar}
use Rattle.text_lines.specs.Words.{spaced}
use Rattle.text_lines.proofs.Fields.{field_below_again, field_below_takes}

-- ---- names

abbrev pub first_of : List ℕ → ℕ
first_of [] = 0
first_of (b ∷ bs) = b

-- the name that begins with a letter
abbrev pub name_of : ℕ → List ℕ
name_of b = if b == 114 then codes "read " else (if b == 102 then codes "from-read " else (if b == 119 then codes "write-order " else (if b == 115 then codes "states" else codes "cycle :")))

pub name_first : (step : Step) (rest : List ℕ) → name_of (first_of (name_text step ++ rest)) ≡ name_text step
name_first step rest = search rules

-- a line that begins with none of the names is no step's
pub line-none : (line : List ℕ) → ((rest : List ℕ) → line ≢ codes "read " ++ rest) → ((rest : List ℕ) → line ≢ codes "from-read " ++ rest)
    → ((rest : List ℕ) → line ≢ codes "write-order " ++ rest) → ((rest : List ℕ) → line ≢ codes "cycle :" ++ rest) → ((rest : List ℕ) → line ≢ codes "states" ++ rest) → TellsLine line None
line-none line a b c d e (Read read ranges) fits is = a (fields_text (Read read ranges)) is
line-none line a b c d e (FromRead source write path) fits is = b (fields_text (FromRead source write path)) is
line-none line a b c d e (WriteOrder source write path) fits is = c (fields_text (WriteOrder source write path)) is
line-none line a b c d e (Cycle path) fits is = d (fields_text (Cycle path)) is
line-none line a b c d e (States addresses set) fits is = e (fields_text (States addresses set)) is

-- ---- a number, a write and a path

-- what a number of the text is, and what comes after it
source_again : (bytes : List ℕ) (source : ℕ) (write : OpId) (path : List ℕ) → source < 2 ^ 64 → bytes ≡ reason_text source write path → source_at bytes ≡ Some (source, id_text write ++ (codes " :" ++ spaced numeral path))
unfolding reason_text
source_again bytes source write path low is = ap source_at is ∙ field_below_again (2 ^ 64) source (id_text write ++ (codes " :" ++ spaced numeral path)) low

pub reason_no_source : (bytes : List ℕ) → source_at bytes ≡ None → TellsReason bytes None
reason_no_source bytes none source write path low fits each is = none-some _ (sym none ∙ source_again bytes source write path low is)

module _ (bytes rest : List ℕ) (found : ℕ) (e : source_at bytes ≡ Some (found, rest)) where
  -- what is named there
  named_there : (source : ℕ) (write : OpId) (path : List ℕ) → source < 2 ^ 64 → IdFits write → bytes ≡ reason_text source write path → named_at rest ≡ Some (write, spaced numeral path)
  named_there source write path low fits is =
      ap named_at (some_pair_parts _ _ _ _ (sym e ∙ source_again bytes source write path low is)).1 ∙ named_again write (spaced numeral path) fits

  pub reason_no_write : named_at rest ≡ None → TellsReason bytes None
  reason_no_write none source write path low fits each is = none-some _ (sym none ∙ named_there source write path low fits is)

  pub reason-told : (words : List ℕ) (write : OpId) (path : Option (List ℕ)) → TellsWords numeral (λ n. n < 2 ^ 64) words path → named_at rest ≡ Some (write, words)
      → TellsReason bytes (option_map (λ p. record { source = found; write = write; path = p }) path)
  unfolding reason_text
  reason-told words write (Some path) told f =
      let s = field_below_takes (2 ^ 64) bytes (found, rest) e in
      let w = named_takes rest (write, words) f in
      (s.1, w.1, told.0, s.0 ∙ ap (λ xs. numeral found ++ 32 ∷ xs) (w.0 ∙ ap (λ xs. id_text write ++ (codes " :" ++ xs)) told.1))
  reason-told words write None told f = λ source id path low fits each is.
      told path each (some_pair_parts _ _ _ _ (sym f ∙ named_there source id path low fits is)).1

-- ---- a read and its ranges

-- none, where no fields of the kind are there
read-none : (bytes : List ℕ) → ((read : OpId) (ranges : List Range) → Fits (Read read ranges) → named_at bytes ≡ Some (read, spaced range_text ranges) → ⊥) → TellsStep (codes "read ") bytes None
unfolding fields_text
read-none bytes none (Read read ranges) fits name is = none read ranges fits (ap named_at is ∙ named_again read (spaced range_text ranges) fits.0)
read-none bytes none step fits name is = absurd (let e = ap first_of name in omega (arith, e))

pub read-no_read : (bytes : List ℕ) → named_at bytes ≡ None → TellsStep (codes "read ") bytes None
read-no_read bytes none = read-none bytes (λ read ranges fits there. none-some _ (sym none ∙ there))

pub read-told : (bytes words : List ℕ) (read : OpId) (found : Option (List Range)) → TellsWords range_text RangeFits words found → named_at bytes ≡ Some (read, words)
    → TellsStep (codes "read ") bytes (option_map (λ ranges. Read read ranges) found)
unfolding fields_text
read-told bytes words read (Some ranges) told e =
    let r = named_takes bytes (read, words) e in
    ((r.1, told.0), refl, r.0 ∙ ap (λ xs. id_text read ++ (codes " :" ++ xs)) told.1)
read-told bytes words read None told e = read-none bytes (λ id ranges fits there. told ranges fits.1 (some_pair_parts _ _ _ _ (sym e ∙ there)).1)

-- ---- a set of states

pub states-told : (fields a text rest : List ℕ) (s : List State) → PartInFront [] fields a text → StatesSoFar text s rest → rest ≡ []
    → TellsStep (codes "states") fields (Some (States a s))
unfolding fields_text
states-told fields a text rest s front far none = search rules

-- none, where no fields of the kind are there
pub states-none : (fields : List ℕ) → ((b : List ℕ) (t : List State) → Fits (States b t) → fields ≡ spaced numeral b ++ flat_map state_text t → ⊥)
    → TellsStep (codes "states") fields None
unfolding fields_text
states-none fields none = search rules
