-- What is read as a record is its line, and the line of a record is read as that record.
use Rattle.std.proofs.Common.{◌≡◌, ℕ, true, List, [], ◌∷◌, ◌++◌, Some, None, is_some, refl, sym, ap, subst, ◌∙◌, append_assoc, inl, inr}
use Rattle.std.specs.Prelude.{codes}
use Rattle.std.proofs.lemmas.Bool.{cases_Bool, cases_eq, ne_eqb, cond-true, cond-false}
use Rattle.std.proofs.lemmas.List.{append-nil}
use Rattle.mem_op.specs.declared.id.Source.{Source}
use Rattle.mem_op.specs.declared.id.Source.TheVariants as source
use Rattle.log_record.specs.declared.act.Act.{Act}
use Rattle.log_record.specs.declared.act.Act.TheVariants as act
use Rattle.log_record.specs.declared.reading.Kind.{Kind}
use Rattle.log_record.specs.declared.reading.Kind.TheVariants as kind
use Rattle.log_record.specs.declared.record.Record.{Record}
use Rattle.decimal_text.specs.Numbers.{numeral}
use Rattle.decimal_text.specs.Reading.{◌>>=◌, number_at, after, field_at, is_digit}
use Rattle.log_record.specs.Line.{source_text, record_text}
use Rattle.log_record.specs.inner.Reading.{store_source_at, source_at, Fields, fields_at, letter_at, reading_letter_at, act_at, made, lettered_at, record_of}
use Rattle.decimal_text.proofs.Numbers.{NoDigit, number_takes, number_again, after_takes, after_again, AreDigits, numeral_digits, numeral_some}
use Rattle.decimal_text.proofs.Reading.{bind_some, some_is, whole_some, field_takes, field_again}

-- ---- sources

store_source_takes : (bytes : List ℕ) (x : Source × List ℕ) → store_source_at bytes ≡ Some x → bytes ≡ source_text x.0 ++ x.1
unfolding store_source_at
store_source_takes bytes x e =
    let a = bind_some (field_at 46 bytes) (λ core. number_at core.1 >>= λ index. Some (source.Store (record { core = core.0; index = index.0 }), index.1)) x e in
    let b = bind_some (number_at a.0.1) (λ index. Some (source.Store (record { core = a.0.0; index = index.0 }), index.1)) x a.2 in
    let all : bytes ≡ (numeral a.0.0 ++ (46 ∷ numeral b.0.0)) ++ b.0.1 =
    field_takes 46 bytes a.0 a.1 ∙ ap (λ (r : List ℕ). numeral a.0.0 ++ (46 ∷ r)) (number_takes a.0.1 b.0 b.1) ∙ sym (append_assoc (numeral a.0.0) (46 ∷ numeral b.0.0) b.0.1) in
    subst (λ (y : Source × List ℕ). bytes ≡ source_text y.0 ++ y.1) (some_is (source.Store (record { core = a.0.0; index = b.0.0 }), b.0.1) x b.2) all

pub source_takes : (bytes : List ℕ) (x : Source × List ℕ) → source_at bytes ≡ Some x → bytes ≡ source_text x.0 ++ x.1
unfolding source_at
source_takes bytes x e =
    elim (cases_Bool (is_some (after (codes "init") bytes))) [
      | inl same ↦
          let b = bind_some (after (codes "init") bytes) (λ rest. Some (source.Init, rest)) x (sym (cond-true (is_some (after (codes "init") bytes)) (after (codes "init") bytes >>= λ rest. Some (source.Init, rest)) (store_source_at bytes) same) ∙ e) in
          let first : bytes ≡ codes "init" ++ b.0 = after_takes (codes "init") bytes b.0 b.1 in
          subst (λ (y : Source × List ℕ). bytes ≡ source_text y.0 ++ y.1) (some_is (source.Init, b.0) x b.2) first
      | inr other ↦ store_source_takes bytes x (sym (cond-false (is_some (after (codes "init") bytes)) (after (codes "init") bytes >>= λ rest. Some (source.Init, rest)) (store_source_at bytes) other) ∙ e)
    ]

-- digits don't begin the word
not_init : (ds rest : List ℕ) → AreDigits ds → (ds ≡ [] → ⊥) → after (codes "init") (ds ++ rest) ≡ None
unfolding after
not_init [] rest all some = absurd (some refl)
not_init (d ∷ ds) rest all some =
    elim (cases_eq d 105) [
      | inl same ↦ let wrong : is_digit 105 ≡ true = subst (λ (b : ℕ). is_digit b ≡ true) same all.0 in absurd cc
      | inr other ↦ rw (ne_eqb d 105 other) refl
    ]

pub source_again : (s : Source) (rest : List ℕ) → NoDigit rest → source_at (source_text s ++ rest) ≡ Some (s, rest)
unfolding source_at store_source_at
source_again source.Init rest none = rw (after_again (codes "init") rest) refl
source_again (source.Store id) rest none =
    rw (append_assoc (numeral id.core) (46 ∷ numeral id.index) rest, not_init (numeral id.core) (46 ∷ (numeral id.index ++ rest)) (numeral_digits id.core) (numeral_some id.core), field_again 46 id.core (numeral id.index ++ rest) refl, number_again id.index rest none) refl

-- ---- records

abbrev pub fields_text : Fields → List ℕ → List ℕ
fields_text f rest = numeral f.addr ++ (32 ∷ (numeral f.value ++ (32 ∷ (numeral f.ts ++ (32 ∷ rest)))))

joined_fields : (f : Fields) (bytes r1 r2 r3 : List ℕ) → bytes ≡ numeral f.addr ++ (32 ∷ r1) → r1 ≡ numeral f.value ++ (32 ∷ r2) → r2 ≡ numeral f.ts ++ (32 ∷ r3) → bytes ≡ fields_text f r3
joined_fields f bytes r1 r2 r3 e1 e2 e3 = cc

fields_take : (bytes : List ℕ) (x : Fields × List ℕ) → fields_at bytes ≡ Some x → bytes ≡ fields_text x.0 x.1
unfolding fields_at
fields_take bytes x e =
    let a = bind_some (field_at 32 bytes) (λ addr. field_at 32 addr.1 >>= λ value. field_at 32 value.1 >>= λ ts. Some (record { addr = addr.0; value = value.0; ts = ts.0 }, ts.1)) x e in
    let b = bind_some (field_at 32 a.0.1) (λ value. field_at 32 value.1 >>= λ ts. Some (record { addr = a.0.0; value = value.0; ts = ts.0 }, ts.1)) x a.2 in
    let c = bind_some (field_at 32 b.0.1) (λ ts. Some (record { addr = a.0.0; value = b.0.0; ts = ts.0 }, ts.1)) x b.2 in
    let found : Fields × List ℕ = (record { addr = a.0.0; value = b.0.0; ts = c.0.0 }, c.0.1) in
    let all : bytes ≡ fields_text found.0 found.1 =
    joined_fields found.0 bytes a.0.1 b.0.1 c.0.1 (field_takes 32 bytes a.0 a.1) (field_takes 32 a.0.1 b.0 b.1) (field_takes 32 b.0.1 c.0 c.1) in
    subst (λ (y : Fields × List ℕ). bytes ≡ fields_text y.0 y.1) {x = found} (some_is found x c.2) all

fields_again : (f : Fields) (rest : List ℕ) → fields_at (fields_text f rest) ≡ Some (f, rest)
unfolding fields_at
fields_again f rest =
    rw (field_again 32 f.addr (numeral f.value ++ (32 ∷ (numeral f.ts ++ (32 ∷ rest)))) refl, field_again 32 f.value (numeral f.ts ++ (32 ∷ rest)) refl, field_again 32 f.ts rest refl) refl

abbrev kind_of : Act → Kind
kind_of (act.Load s) = kind.Load
kind_of act.Store = kind.Store
kind_of (act.Swap s read) = kind.Swap

-- what a record's line begins with, with bytes after it
abbrev letter_text : Kind → List ℕ → List ℕ
letter_text kind.Store rest = 83 ∷ 32 ∷ rest
letter_text kind.Load rest = 76 ∷ 32 ∷ rest
letter_text kind.Swap rest = 88 ∷ 32 ∷ rest

-- what comes after a record's rank, and then these bytes
abbrev act_text : Act → List ℕ → List ℕ
act_text act.Store rest = rest
act_text (act.Load s) rest = 32 ∷ (source_text s ++ rest)
act_text (act.Swap s read) rest = 32 ∷ (source_text s ++ (32 ∷ (numeral read ++ rest)))

abbrev pub lettered_text : Act → Fields → ℕ → List ℕ → List ℕ
lettered_text a f rank rest = letter_text (kind_of a) (fields_text f (numeral rank ++ act_text a rest))

abbrev pub fields_in : Record → Fields
fields_in r = record { addr = r.addr; value = r.value; ts = r.ts }

abbrev text_with : Record → List ℕ → List ℕ
text_with r rest = lettered_text r.act (fields_in r) r.rank rest

pub record_text_is : (r : Record) → record_text r ≡ text_with r []
unfolding record_text
record_text_is r = go r.act
  where
    go : (a : Act) → record_text (made a (fields_in r) r.rank) ≡ lettered_text a (fields_in r) r.rank []
    go act.Store = ap (λ (last : List ℕ). 83 ∷ 32 ∷ fields_text (fields_in r) last) (sym (append-nil (numeral r.rank)))
    go (act.Load s) = ap (λ (last : List ℕ). 76 ∷ 32 ∷ fields_text (fields_in r) (numeral r.rank ++ (32 ∷ last))) (sym (append-nil (source_text s)))
    go (act.Swap s read) = ap (λ (last : List ℕ). 88 ∷ 32 ∷ fields_text (fields_in r) (numeral r.rank ++ (32 ∷ (source_text s ++ (32 ∷ last))))) (sym (append-nil (numeral read)))

reading_letter_takes : (bytes : List ℕ) (x : Kind × List ℕ) → reading_letter_at bytes ≡ Some x → bytes ≡ letter_text x.0 x.1
unfolding reading_letter_at
reading_letter_takes bytes x e =
    elim (cases_Bool (is_some (after (codes "L ") bytes))) [
      | inl is-load ↦
          let b = bind_some (after (codes "L ") bytes) (λ rest. Some (kind.Load, rest)) x (sym (cond-true (is_some (after (codes "L ") bytes)) (after (codes "L ") bytes >>= λ rest. Some (kind.Load, rest)) (after (codes "X ") bytes >>= λ rest. Some (kind.Swap, rest)) is-load) ∙ e) in
          subst (λ (y : Kind × List ℕ). bytes ≡ letter_text y.0 y.1) (some_is (kind.Load, b.0) x b.2) (after_takes (codes "L ") bytes b.0 b.1)
      | inr other ↦
          let b = bind_some (after (codes "X ") bytes) (λ rest. Some (kind.Swap, rest)) x (sym (cond-false (is_some (after (codes "L ") bytes)) (after (codes "L ") bytes >>= λ rest. Some (kind.Load, rest)) (after (codes "X ") bytes >>= λ rest. Some (kind.Swap, rest)) other) ∙ e) in
          subst (λ (y : Kind × List ℕ). bytes ≡ letter_text y.0 y.1) (some_is (kind.Swap, b.0) x b.2) (after_takes (codes "X ") bytes b.0 b.1)
    ]

letter_takes : (bytes : List ℕ) (x : Kind × List ℕ) → letter_at bytes ≡ Some x → bytes ≡ letter_text x.0 x.1
unfolding letter_at
letter_takes bytes x e =
    elim (cases_Bool (is_some (after (codes "S ") bytes))) [
      | inl is-store ↦
          let b = bind_some (after (codes "S ") bytes) (λ rest. Some (kind.Store, rest)) x (sym (cond-true (is_some (after (codes "S ") bytes)) (after (codes "S ") bytes >>= λ rest. Some (kind.Store, rest)) (reading_letter_at bytes) is-store) ∙ e) in
          subst (λ (y : Kind × List ℕ). bytes ≡ letter_text y.0 y.1) (some_is (kind.Store, b.0) x b.2) (after_takes (codes "S ") bytes b.0 b.1)
      | inr other ↦ reading_letter_takes bytes x (sym (cond-false (is_some (after (codes "S ") bytes)) (after (codes "S ") bytes >>= λ rest. Some (kind.Store, rest)) (reading_letter_at bytes) other) ∙ e)
    ]

letter_again : (l : Kind) (rest : List ℕ) → letter_at (letter_text l rest) ≡ Some (l, rest)
unfolding letter_at reading_letter_at after
letter_again kind.Store rest = refl
letter_again kind.Load rest = refl
letter_again kind.Swap rest = refl

load_joined : (s : Source) (bytes r1 rest : List ℕ) → bytes ≡ codes " " ++ r1 → r1 ≡ source_text s ++ rest → bytes ≡ act_text (act.Load s) rest
load_joined s bytes r1 rest e1 e2 = e1 ∙ ap (λ (r : List ℕ). 32 ∷ r) e2

swap_joined : (s : Source) (read : ℕ) (bytes r1 r2 r3 rest : List ℕ) → bytes ≡ codes " " ++ r1 → r1 ≡ source_text s ++ r2 → r2 ≡ codes " " ++ r3 → r3 ≡ numeral read ++ rest
    → bytes ≡ act_text (act.Swap s read) rest
swap_joined s read bytes r1 r2 r3 rest e1 e2 e3 e4 =
    e1 ∙ ap (λ (r : List ℕ). 32 ∷ r) (e2 ∙ ap (λ (r : List ℕ). source_text s ++ r) (e3 ∙ ap (λ (r : List ℕ). 32 ∷ r) e4))

abbrev IsActRead : Kind → List ℕ → Act × List ℕ → Type 0
IsActRead l bytes x = (kind_of x.0 ≡ l) × (bytes ≡ act_text x.0 x.1)

act_takes : (l : Kind) (bytes : List ℕ) (x : Act × List ℕ) → act_at l bytes ≡ Some x → IsActRead l bytes x
unfolding act_at
act_takes kind.Store bytes x e = subst (IsActRead kind.Store bytes) (some_is (act.Store, bytes) x e) (refl, refl)
act_takes kind.Load bytes x e =
    let a = bind_some (after (codes " ") bytes) (λ rest. source_at rest >>= λ s. Some (act.Load s.0, s.1)) x e in
    let b = bind_some (source_at a.0) (λ s. Some (act.Load s.0, s.1)) x a.2 in
    subst (IsActRead kind.Load bytes) (some_is (act.Load b.0.0, b.0.1) x b.2)
    (refl, load_joined b.0.0 bytes a.0 b.0.1 (after_takes (codes " ") bytes a.0 a.1) (source_takes a.0 b.0 b.1))
act_takes kind.Swap bytes x e =
    let a = bind_some (after (codes " ") bytes) (λ rest. source_at rest >>= λ s. after (codes " ") s.1 >>= λ last. number_at last >>= λ read. Some (act.Swap s.0 read.0, read.1)) x e in
    let b = bind_some (source_at a.0) (λ s. after (codes " ") s.1 >>= λ last. number_at last >>= λ read. Some (act.Swap s.0 read.0, read.1)) x a.2 in
    let c = bind_some (after (codes " ") b.0.1) (λ last. number_at last >>= λ read. Some (act.Swap b.0.0 read.0, read.1)) x b.2 in
    let d = bind_some (number_at c.0) (λ read. Some (act.Swap b.0.0 read.0, read.1)) x c.2 in
    let found : Act × List ℕ = (act.Swap b.0.0 d.0.0, d.0.1) in
    subst (IsActRead kind.Swap bytes) {x = found} (some_is found x d.2)
    (refl {a = kind.Swap}, swap_joined b.0.0 d.0.0 bytes a.0 b.0.1 c.0 d.0.1 (after_takes (codes " ") bytes a.0 a.1) (source_takes a.0 b.0 b.1) (after_takes (codes " ") b.0.1 c.0 c.1) (number_takes c.0 d.0 d.1))

act_again : (a : Act) (rest : List ℕ) → NoDigit rest → act_at (kind_of a) (act_text a rest) ≡ Some (a, rest)
unfolding act_at
act_again act.Store rest none = refl
act_again (act.Load s) rest none = rw (after_again (codes " ") (source_text s ++ rest), source_again s rest none) refl
act_again (act.Swap s read) rest none =
    rw (after_again (codes " ") (source_text s ++ (32 ∷ (numeral read ++ rest))), source_again s (32 ∷ (numeral read ++ rest)) refl, after_again (codes " ") (numeral read ++ rest), number_again read rest none) refl

no_digit_after_rank : (a : Act) (rest : List ℕ) → NoDigit rest → NoDigit (act_text a rest)
no_digit_after_rank act.Store rest none = none
no_digit_after_rank (act.Load s) rest none = refl
no_digit_after_rank (act.Swap s read) rest none = refl

joined : (l : Kind) (a : Act) (f : Fields) (rank : ℕ) (bytes r1 r2 r3 rest : List ℕ) → kind_of a ≡ l → bytes ≡ letter_text l r1 → r1 ≡ fields_text f r2 → r2 ≡ numeral rank ++ r3 → r3 ≡ act_text a rest → bytes ≡ lettered_text a f rank rest
joined l a f rank bytes r1 r2 r3 rest same e1 e2 e3 e4 =
    e1 ∙ ap (λ (k : Kind). letter_text k r1) (sym same) ∙ ap (letter_text (kind_of a)) (e2 ∙ ap (fields_text f) (e3 ∙ ap (λ (r : List ℕ). numeral rank ++ r) e4))

lettered_takes : (bytes : List ℕ) (x : Record × List ℕ) → lettered_at bytes ≡ Some x → bytes ≡ text_with x.0 x.1
unfolding lettered_at
lettered_takes bytes x e =
    let l = bind_some (letter_at bytes) (λ l. fields_at l.1 >>= λ f. number_at f.1 >>= λ rank. act_at l.0 rank.1 >>= λ a. Some (made a.0 f.0 rank.0, a.1)) x e in
    let f = bind_some (fields_at l.0.1) (λ f. number_at f.1 >>= λ rank. act_at l.0.0 rank.1 >>= λ a. Some (made a.0 f.0 rank.0, a.1)) x l.2 in
    let rank = bind_some (number_at f.0.1) (λ rank. act_at l.0.0 rank.1 >>= λ a. Some (made a.0 f.0.0 rank.0, a.1)) x f.2 in
    let a = bind_some (act_at l.0.0 rank.0.1) (λ a. Some (made a.0 f.0.0 rank.0.0, a.1)) x rank.2 in
    let taken = act_takes l.0.0 rank.0.1 a.0 a.1 in
    let found : Record × List ℕ = (made a.0.0 f.0.0 rank.0.0, a.0.1) in
    let all : bytes ≡ text_with found.0 found.1 =
    joined l.0.0 a.0.0 f.0.0 rank.0.0 bytes l.0.1 f.0.1 rank.0.1 a.0.1 taken.0 (letter_takes bytes l.0 l.1) (fields_take l.0.1 f.0 f.1) (number_takes f.0.1 rank.0 rank.1) taken.1 in
    subst (λ (y : Record × List ℕ). bytes ≡ text_with y.0 y.1) {x = found} (some_is found x a.2) all

lettered_again : (a : Act) (f : Fields) (rank : ℕ) (rest : List ℕ) → NoDigit rest → lettered_at (lettered_text a f rank rest) ≡ Some (made a f rank, rest)
unfolding lettered_at
lettered_again a f rank rest none =
    rw (letter_again (kind_of a) (fields_text f (numeral rank ++ act_text a rest)), fields_again f (numeral rank ++ act_text a rest), number_again rank (act_text a rest) (no_digit_after_rank a rest none), act_again a rest none) refl

pub record_takes : (line : List ℕ) (r : Record) → record_of line ≡ Some r → line ≡ record_text r
unfolding record_of
record_takes line r e = lettered_takes line (r, []) (whole_some (lettered_at line) r e) ∙ sym (record_text_is r)

pub record_again : (r : Record) → record_of (record_text r) ≡ Some r
unfolding record_of
record_again r = rw (record_text_is r, lettered_again r.act (fields_in r) r.rank [] tt) refl
