-- What is read as an instruction is its line, with numbers in range, and the line of such an instruction is read as it.
use Rattle.std.proofs.Common.{◌≡◌, ℕ, ◌<◌, ◌≤◌, ◌^◌, true, cond, eqb, List, [], ◌∷◌, ◌++◌, Option, Some, None, refl, sym, ap, subst, ◌∙◌, arith, inl, inr}
use Rattle.std.specs.Prelude.{codes}
use Rattle.std.specs.List.{join_with_byte, AllByRecursion}
use Rattle.std.proofs.lemmas.Bool.{cases_Bool, cond-true, cond-false, eqb-false, ne_eqb}
use Rattle.decimal_text.specs.Numbers.{numeral}
use Rattle.decimal_text.specs.Reading.{◌>>=◌, after, last_number}
use Rattle.decimal_text.proofs.Lines.{NoLf, NoLf-append, numeral_no_lf, const_no_lf}
use Rattle.decimal_text.proofs.Numbers.{after_takes, after_again}
use Rattle.decimal_text.proofs.Reading.{bind_some, some_is, last_takes, last_again}
use Rattle.core_program.specs.declared.instruction.Instruction.{Instruction}
use Rattle.core_program.specs.declared.instruction.Instruction.TheVariants.{Load, Store, StoreRegister, Add, SkipIfZero, Swap}
use Rattle.core_program.specs.declared.format.ProgramFormat.{ProgramFormat}
use Rattle.core_program.specs.declared.format.ProgramFormat.TheVariants.{One, Two}
use Rattle.core_program.specs.Grammar.{fields_of, instruction_text, register_text, Fits, FitsIn}
use Rattle.core_program.specs.Shape.{has_instruction}
use Rattle.core_program.specs.inner.Reading.{register_at, last_register, last_skip, load_of, store_of, store_register_of, add_of, skip_of, swap_of, swap_in, instruction_of}
use Rattle.text_lines.specs.Fields.{below, field_below, last_below}
use Rattle.text_lines.proofs.Fields.{IsNamed, below_is, below_again, field_below_again, field_below_takes, last_below_again, last_below_takes, named_or}
use Rattle.text_lines.proofs.Items.{AreLines, IsReading, are_lines}

-- ---- fields

-- what is read at the front is a number's text and a space
record IsField (text : ℕ → List ℕ) (InRange : ℕ → Type 0) (read : List ℕ → Option (ℕ × List ℕ)) : Type 0 where
  takes : (bytes : List ℕ) (x : ℕ × List ℕ) → read bytes ≡ Some x → (bytes ≡ text x.0 ++ 32 ∷ x.1) × InRange x.0

-- what is read is a number's text that is all there is
record IsLast (text : ℕ → List ℕ) (InRange : ℕ → Type 0) (read : List ℕ → Option ℕ) : Type 0 where
  takes : (bytes : List ℕ) (n : ℕ) → read bytes ≡ Some n → (bytes ≡ text n) × InRange n

register_field : IsField register_text (λ n. n < 16) register_at
unfolding register_at
register_field = record {
  takes = λ bytes x e.
      let a = bind_some (after (codes "r") bytes) (field_below 16) x e in
      let n = field_below_takes 16 a.0 x a.2 in
      (after_takes (codes "r") bytes a.0 a.1 ∙ ap (λ (r : List ℕ). codes "r" ++ r) n.0, n.1);
}

register_again : (n : ℕ) (rest : List ℕ) → n < 16 → register_at (114 ∷ (numeral n ++ 32 ∷ rest)) ≡ Some (n, rest)
unfolding register_at
register_again n rest lt = rw (after_again (codes "r") (numeral n ++ 32 ∷ rest)) (field_below_again 16 n rest lt)

addr_field : IsField numeral (λ n. n < 65536) (field_below 65536)
addr_field = record { takes = field_below_takes 65536 }

register_last : IsLast register_text (λ n. n < 16) last_register
unfolding last_register
register_last = record {
  takes = λ bytes n e.
      let a = bind_some (after (codes "r") bytes) (last_below 16) n e in
      let t = last_below_takes 16 a.0 n a.2 in
      (after_takes (codes "r") bytes a.0 a.1 ∙ ap (λ (r : List ℕ). codes "r" ++ r) t.0, t.1);
}

last_register_again : (n : ℕ) → n < 16 → last_register (114 ∷ numeral n) ≡ Some n
unfolding last_register
last_register_again n lt = rw (after_again (codes "r") (numeral n)) (last_below_again 16 n lt)

number_last : (limit : ℕ) → IsLast numeral (λ n. n < limit) (last_below limit)
number_last limit = record { takes = last_below_takes limit }

last_skip_takes : (bytes : List ℕ) (n : ℕ) → last_skip bytes ≡ Some n → (bytes ≡ numeral n) × (1 ≤ n) × (n ≤ 4095)
unfolding last_skip
last_skip_takes bytes n e =
    let a = bind_some (last_number bytes) (λ k. cond (eqb k 0) None (below 4096 k)) n e in
    elim (cases_Bool (eqb a.0 0)) [
      | inl zero-is ↦ let wrong : None ≡ Some n = sym (cond-true (eqb a.0 0) None (below 4096 a.0) zero-is) ∙ a.2 in absurd cc
      | inr other ↦
          let g = below_is 4096 a.0 n (sym (cond-false (eqb a.0 0) None (below 4096 a.0) other) ∙ a.2) in
          let some = eqb-false a.0 0 other in
          (subst (λ (k : ℕ). bytes ≡ numeral k) g.0 (last_takes bytes a.0 a.1), omega (arith, g.0, some), omega (arith, g.1))
    ]

last_skip_again : (n : ℕ) → 1 ≤ n → n ≤ 4095 → last_skip (numeral n) ≡ Some n
unfolding last_skip
last_skip_again n some few =
    rw (last_again n) (cond-false (eqb n 0) None (below 4096 n) (ne_eqb n 0 (λ e. omega (arith, e))) ∙ below_again 4096 n (omega arith))

skip_last : IsLast numeral (λ n. (1 ≤ n) × (n ≤ 4095)) last_skip
skip_last = record { takes = λ bytes n e. let t = last_skip_takes bytes n e in (t.0, (t.1, t.2)) }

module _ {A : Type 0} {text others : ℕ → List ℕ} {InRange InOther : ℕ → Type 0} {read : List ℕ → Option (ℕ × List ℕ)} {end : List ℕ → Option ℕ}
    (field : IsField text InRange read) (last : IsLast others InOther end) where
  -- two fields that are all there is
  two : (make : ℕ → ℕ → A) (bytes : List ℕ) (i : A) → (read bytes >>= λ x. end x.1 >>= λ n. Some (make x.0 n)) ≡ Some i
      → (m n : ℕ) × InRange m × InOther n × (bytes ≡ text m ++ 32 ∷ others n) × (make m n ≡ i)
  two make bytes i e =
      let a = bind_some (read bytes) (λ x. end x.1 >>= λ n. Some (make x.0 n)) i e in
      let b = bind_some (end a.0.1) (λ n. Some (make a.0.0 n)) i a.2 in
      let r = field.takes bytes a.0 a.1 in
      let d = last.takes a.0.1 b.0 b.1 in
      (a.0.0, b.0, r.1, d.1, r.0 ∙ ap (λ (x : List ℕ). text a.0.0 ++ 32 ∷ x) d.0, some_is (make a.0.0 b.0) i b.2)

  -- and another before them
  three : {first : ℕ → List ℕ} {InFirst : ℕ → Type 0} {start : List ℕ → Option (ℕ × List ℕ)} → IsField first InFirst start → (make : ℕ → ℕ → ℕ → A) (bytes : List ℕ) (i : A)
      → (start bytes >>= λ w. read w.1 >>= λ x. end x.1 >>= λ n. Some (make w.0 x.0 n)) ≡ Some i
      → (l m n : ℕ) × InFirst l × InRange m × InOther n × (bytes ≡ first l ++ 32 ∷ (text m ++ 32 ∷ others n)) × (make l m n ≡ i)
  three {first} {start} another make bytes i e =
      let a = bind_some (start bytes) (λ w. read w.1 >>= λ x. end x.1 >>= λ n. Some (make w.0 x.0 n)) i e in
      let r = another.takes bytes a.0 a.1 in
      let t = two (make a.0.0) a.0.1 i a.2 in
      (a.0.0, t.0, t.1, r.1, t.2, t.3, r.0 ∙ ap (λ (x : List ℕ). first a.0.0 ++ 32 ∷ x) t.4, t.5)

-- ---- instructions

-- the line of an instruction of this format, in range, is a name and these fields
abbrev Named : ProgramFormat → List ℕ → List ℕ → Instruction → Type 0
Named format name fields i = IsNamed instruction_text (FitsIn format) name fields i

named_is : (format : ProgramFormat) (name bytes fields : List ℕ) (i j : Instruction) → bytes ≡ fields → j ≡ i → has_instruction format j ≡ true → Fits j
    → name ++ fields ≡ instruction_text j → Named format name bytes i
named_is format name bytes fields i j is same has fits text =
    subst (λ (k : Instruction). Named format name bytes k) same
    (ap (λ (x : List ℕ). name ++ x) is ∙ text, record { has = has; numbers = fits })

load_takes : (format : ProgramFormat) (bytes : List ℕ) (i : Instruction) → load_of bytes ≡ Some i → Named format (codes "ld ") bytes i
unfolding load_of instruction_text
load_takes format bytes i e =
    let t = two register_field (number_last 65536) (λ to addr. Load to addr) bytes i e in
    named_is format (codes "ld ") bytes (register_text t.0 ++ 32 ∷ numeral t.1) i (Load t.0 t.1) t.4 t.5 refl (t.2, t.3) refl

store_takes : (format : ProgramFormat) (bytes : List ℕ) (i : Instruction) → store_of bytes ≡ Some i → Named format (codes "st ") bytes i
unfolding store_of instruction_text
store_takes format bytes i e =
    let t = two addr_field (number_last (2 ^ 64)) (λ addr value. Store addr value) bytes i e in
    named_is format (codes "st ") bytes (numeral t.0 ++ 32 ∷ numeral t.1) i (Store t.0 t.1) t.4 t.5 refl (t.2, t.3) refl

store_register_takes : (format : ProgramFormat) (bytes : List ℕ) (i : Instruction) → store_register_of bytes ≡ Some i → Named format (codes "sr ") bytes i
unfolding store_register_of instruction_text
store_register_takes format bytes i e =
    let t = two addr_field register_last (λ addr from. StoreRegister addr from) bytes i e in
    named_is format (codes "sr ") bytes (numeral t.0 ++ 32 ∷ register_text t.1) i (StoreRegister t.0 t.1) t.4 t.5 refl (t.2, t.3) refl

add_takes : (format : ProgramFormat) (bytes : List ℕ) (i : Instruction) → add_of bytes ≡ Some i → Named format (codes "ai ") bytes i
unfolding add_of instruction_text
add_takes format bytes i e =
    let t = three register_field (number_last (2 ^ 64)) register_field (λ to from value. Add to from value) bytes i e in
    named_is format (codes "ai ") bytes (register_text t.0 ++ 32 ∷ (register_text t.1 ++ 32 ∷ numeral t.2)) i (Add t.0 t.1 t.2) t.6 t.7 refl (t.3, t.4, t.5) refl

skip_takes : (format : ProgramFormat) (bytes : List ℕ) (i : Instruction) → skip_of bytes ≡ Some i → Named format (codes "jz ") bytes i
unfolding skip_of instruction_text
skip_takes format bytes i e =
    let t = two register_field skip_last (λ tested skip. SkipIfZero tested skip) bytes i e in
    named_is format (codes "jz ") bytes (register_text t.0 ++ 32 ∷ numeral t.1) i (SkipIfZero t.0 t.1) t.4 t.5 refl (t.2, t.3.0, t.3.1) refl

swap_takes : (bytes : List ℕ) (i : Instruction) → swap_of bytes ≡ Some i → Named Two (codes "sw ") bytes i
unfolding swap_of instruction_text
swap_takes bytes i e =
    let t = three addr_field (number_last (2 ^ 64)) register_field (λ to addr value. Swap to addr value) bytes i e in
    named_is Two (codes "sw ") bytes (register_text t.0 ++ 32 ∷ (numeral t.1 ++ 32 ∷ numeral t.2)) i (Swap t.0 t.1 t.2) t.6 t.7 refl (t.3, t.4, t.5) refl

-- ---- lines

-- the line is that of an instruction of this format, in range
abbrev IsLineOf : ProgramFormat → List ℕ → Instruction → Type 0
IsLineOf format line i = (line ≡ instruction_text i) × FitsIn format i

swap_in_takes : (format : ProgramFormat) (line : List ℕ) (i : Instruction) → swap_in format line ≡ Some i → IsLineOf format line i
swap_in_takes One line i e = absurd cc
swap_in_takes Two line i e = named_or instruction_text (FitsIn Two) (codes "sw ") swap_of line None i (λ rest. swap_takes rest i) (λ e. absurd cc) e

instruction_takes : (format : ProgramFormat) (line : List ℕ) (i : Instruction) → instruction_of format line ≡ Some i → IsLineOf format line i
unfolding instruction_of
instruction_takes format line i =
    named_or instruction_text (FitsIn format) (codes "ld ") load_of line _ i (λ rest. load_takes format rest i)
    (named_or instruction_text (FitsIn format) (codes "st ") store_of line _ i (λ rest. store_takes format rest i)
    (named_or instruction_text (FitsIn format) (codes "sr ") store_register_of line _ i (λ rest. store_register_takes format rest i)
    (named_or instruction_text (FitsIn format) (codes "ai ") add_of line _ i (λ rest. add_takes format rest i)
    (named_or instruction_text (FitsIn format) (codes "jz ") skip_of line _ i (λ rest. skip_takes format rest i) (swap_in_takes format line i)))))

-- its name comes first
again_in : (format : ProgramFormat) (i : Instruction) → has_instruction format i ≡ true → Fits i → instruction_of format (instruction_text i) ≡ Some i
unfolding instruction_of instruction_text after load_of store_of store_register_of add_of skip_of swap_of
again_in format (Load to addr) has fits =
    rw (register_again to (numeral addr) fits.0, last_below_again 65536 addr fits.1) refl
again_in format (Store addr value) has fits =
    rw (field_below_again 65536 addr (numeral value) fits.0, last_below_again (2 ^ 64) value fits.1) refl
again_in format (StoreRegister addr from) has fits =
    rw (field_below_again 65536 addr (114 ∷ numeral from) fits.0, last_register_again from fits.1) refl
again_in format (Add to from value) has fits =
    rw (register_again to (114 ∷ (numeral from ++ 32 ∷ numeral value)) fits.0, register_again from (numeral value) fits.1, last_below_again (2 ^ 64) value fits.2) refl
again_in format (SkipIfZero tested skip) has fits =
    rw (register_again tested (numeral skip) fits.0, last_skip_again skip fits.1 fits.2) refl
again_in One (Swap to addr value) has fits = absurd cc
again_in Two (Swap to addr value) has fits =
    rw (register_again to (numeral addr ++ 32 ∷ numeral value) fits.0, field_below_again 65536 addr (numeral value) fits.1, last_below_again (2 ^ 64) value fits.2) refl

-- ---- no line feed

joined_no_lf : (fields : List (List ℕ)) → AllByRecursion NoLf fields → NoLf (join_with_byte 32 fields)
joined_no_lf [] none = tt
joined_no_lf (x ∷ []) none = none.0
joined_no_lf (x ∷ y ∷ fields) none = NoLf-append x (32 ∷ join_with_byte 32 (y ∷ fields)) none.0 (refl, joined_no_lf (y ∷ fields) none.1)

fields_no_lf : (i : Instruction) → AllByRecursion NoLf (fields_of i)
fields_no_lf (Load to addr) = (const_no_lf (codes "ld") refl, ((refl, numeral_no_lf to), (numeral_no_lf addr, tt)))
fields_no_lf (Store addr value) = (const_no_lf (codes "st") refl, (numeral_no_lf addr, (numeral_no_lf value, tt)))
fields_no_lf (StoreRegister addr from) = (const_no_lf (codes "sr") refl, (numeral_no_lf addr, ((refl, numeral_no_lf from), tt)))
fields_no_lf (Add to from value) = (const_no_lf (codes "ai") refl, ((refl, numeral_no_lf to), ((refl, numeral_no_lf from), (numeral_no_lf value, tt))))
fields_no_lf (SkipIfZero tested skip) = (const_no_lf (codes "jz") refl, ((refl, numeral_no_lf tested), (numeral_no_lf skip, tt)))
fields_no_lf (Swap to addr value) = (const_no_lf (codes "sw") refl, ((refl, numeral_no_lf to), (numeral_no_lf addr, (numeral_no_lf value, tt))))

pub instruction_no_lf : (i : Instruction) → NoLf (instruction_text i)
unfolding instruction_text
instruction_no_lf i = joined_no_lf (fields_of i) (fields_no_lf i)

-- ---- one instruction

pub reading : (format : ProgramFormat) → IsReading instruction_text (FitsIn format) (instruction_of format)
reading format = record {
  takes = instruction_takes format;
  again = λ i fits. again_in format i fits.has fits.numbers;
  no_lf = instruction_no_lf;
}

-- format 2 has all instructions
two_has : (i : Instruction) → has_instruction Two i ≡ true
two_has (Load to addr) = refl
two_has (Store addr value) = refl
two_has (StoreRegister addr from) = refl
two_has (Add to from value) = refl
two_has (SkipIfZero tested skip) = refl
two_has (Swap to addr value) = refl

-- a line is that of at most one instruction in range
pub instruction_once : (i j : Instruction) → Fits i → Fits j → instruction_text i ≡ instruction_text j → i ≡ j
instruction_once i j p q e = lines.once i j (record { has = two_has i; numbers = p }) (record { has = two_has j; numbers = q }) e
  where
    lines : AreLines instruction_text (FitsIn Two)
    lines = are_lines (reading Two)
