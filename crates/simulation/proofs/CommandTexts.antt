-- What is read as a command is its line, with numbers in range, and the line of such a command is read as it.
use Rattle.std.proofs.Common.{◌≡◌, ℕ, ◌<◌, List, ◌∷◌, ◌++◌, Option, Some, None, is_some, refl, sym, ap, subst, ◌∙◌, arith, inl, inr}
use Rattle.std.specs.Prelude.{codes, min, option_map}
use Rattle.std.proofs.lemmas.Bool.{cases_Bool, cond-true, cond-false}
use Rattle.decimal_text.specs.Numbers.{numeral}
use Rattle.decimal_text.specs.Reading.{◌>>=◌, after}
use Rattle.decimal_text.proofs.Lines.{NoLf, NoLf-append, numeral_no_lf, const_no_lf}
use Rattle.decimal_text.proofs.Numbers.{after_takes}
use Rattle.decimal_text.proofs.Reading.{bind_some, some_is}
use Rattle.line_stamps.specs.declared.message.RecallKind.{RecallKind}
use Rattle.line_stamps.specs.declared.message.RecallKind.TheVariants.{WriteBack, Flush}
use Rattle.simulation.specs.declared.command.Command.{Command}
use Rattle.simulation.specs.declared.command.Command.TheVariants.{Turn, Serve, Take, Recall, Evict, Spill, Bump, Round, Op, Finish}
use Rattle.simulation.specs.CommandTexts.{kind_text, command_text, Fits}
use Rattle.simulation.specs.inner.CommandReading.{core_at, addr_at, kind_front, kind_at, last_core, last_addr, last_stamp, of_core, recall_of, evict_of, command_of}
use Rattle.text_lines.specs.Fields.{named}
use Rattle.text_lines.proofs.Fields.{IsNamed, field_below_again, field_below_takes, last_below_again, last_below_takes, named_or, number_no_lf}

-- ---- how a line is recalled

-- a kind and a space, with bytes after them
abbrev kind_line : RecallKind × List ℕ → List ℕ
kind_line x = kind_text x.0 ++ 32 ∷ x.1

mapped_takes : (kind : RecallKind) (name bytes : List ℕ) (x : RecallKind × List ℕ) → ((rest : List ℕ) → name ++ rest ≡ kind_line (kind, rest))
    → option_map (kind_front kind) (after name bytes) ≡ Some x → bytes ≡ kind_line x
mapped_takes kind name bytes x named e = go (after name bytes) refl e
  where
    go : (o : Option (List ℕ)) → after name bytes ≡ o → option_map (kind_front kind) o ≡ Some x → bytes ≡ kind_line x
    go None was e = absurd cc
    go (Some rest) was e =
        subst (λ (y : RecallKind × List ℕ). bytes ≡ kind_line y) (some_is (kind, rest) x e) (after_takes name bytes rest was ∙ named rest)

kind_takes : (bytes : List ℕ) (x : RecallKind × List ℕ) → kind_at bytes ≡ Some x → bytes ≡ kind_line x
unfolding kind_at
kind_takes bytes x e =
    let back = option_map (kind_front WriteBack) (after (codes "wb ") bytes) in
    let flush = option_map (kind_front Flush) (after (codes "flush ") bytes) in
    elim (cases_Bool (is_some (after (codes "wb ") bytes))) [
      | inl there ↦
          mapped_takes WriteBack (codes "wb ") bytes x (λ rest. refl) (sym (cond-true (is_some (after (codes "wb ") bytes)) back flush there) ∙ e)
      | inr not-there ↦
          mapped_takes Flush (codes "flush ") bytes x (λ rest. refl) (sym (cond-false (is_some (after (codes "wb ") bytes)) back flush not-there) ∙ e)
    ]

kind_again : (kind : RecallKind) (rest : List ℕ) → kind_at (kind_line (kind, rest)) ≡ Some (kind, rest)
unfolding kind_at after
kind_again WriteBack rest = refl
kind_again Flush rest = refl

-- ---- commands

-- the line of a command in range is a name and these fields
abbrev Named : ℕ → List ℕ → List ℕ → Command → Type 0
Named cores name fields command = IsNamed command_text (Fits cores) name fields command

of_core_takes : (cores : ℕ) (name bytes : List ℕ) (make : ℕ → Command) (command : Command)
    → ((core : ℕ) → core < min cores 64 → Named cores name (numeral core) (make core))
    → of_core make cores bytes ≡ Some command → Named cores name bytes command
of_core_takes cores name bytes make command is e =
    let a = bind_some (last_core cores bytes) (λ core. Some (make core)) command e in
    let d = last_below_takes (min cores 64) bytes a.0 a.1 in
    let named = is a.0 d.1 in
    subst (λ (c : Command). Named cores name bytes c) (some_is (make a.0) command a.2) (ap (λ (x : List ℕ). name ++ x) d.0 ∙ named.0, named.1)

recall_takes : (cores : ℕ) (bytes : List ℕ) (command : Command) → recall_of cores bytes ≡ Some command → Named cores (codes "recall ") bytes command
unfolding recall_of command_text
recall_takes cores bytes command e =
    let made = λ (owner addr rts : ℕ) (kind : RecallKind). Recall (record { rts = rts; addr = addr; owner = owner; kind = kind }) in
    let a = bind_some (core_at cores bytes) (λ owner. addr_at owner.1 >>= λ addr. kind_at addr.1 >>= λ kind. last_stamp kind.1 >>= λ rts. Some (made owner.0 addr.0 rts kind.0)) command e in
    let b = bind_some (addr_at a.0.1) (λ addr. kind_at addr.1 >>= λ kind. last_stamp kind.1 >>= λ rts. Some (made a.0.0 addr.0 rts kind.0)) command a.2 in
    let k = bind_some (kind_at b.0.1) (λ kind. last_stamp kind.1 >>= λ rts. Some (made a.0.0 b.0.0 rts kind.0)) command b.2 in
    let t = bind_some (last_stamp k.0.1) (λ rts. Some (made a.0.0 b.0.0 rts k.0.0)) command k.2 in
    let owner = field_below_takes (min cores 64) bytes a.0 a.1 in
    let addr = field_below_takes 65536 a.0.1 b.0 b.1 in
    let kind = kind_takes b.0.1 k.0 k.1 in
    let rts = last_below_takes 281474976710657 k.0.1 t.0 t.1 in
    subst (λ (c : Command). Named cores (codes "recall ") bytes c) {x = made a.0.0 b.0.0 t.0 k.0.0} (some_is (made a.0.0 b.0.0 t.0 k.0.0) command t.2) (
      ap (λ (x : List ℕ). codes "recall " ++ x)
          (owner.0 ∙ ap (λ (x : List ℕ). numeral a.0.0 ++ 32 ∷ x)
          (addr.0 ∙ ap (λ (x : List ℕ). numeral b.0.0 ++ 32 ∷ x)
          (kind ∙ ap (λ (x : List ℕ). kind_text k.0.0 ++ 32 ∷ x) rts.0))),
      (owner.1, addr.1, omega (arith, rts.1)),
    )

evict_takes : (cores : ℕ) (bytes : List ℕ) (command : Command) → evict_of cores bytes ≡ Some command → Named cores (codes "evict ") bytes command
unfolding evict_of command_text
evict_takes cores bytes command e =
    let a = bind_some (core_at cores bytes) (λ core. last_addr core.1 >>= λ addr. Some (Evict core.0 addr)) command e in
    let b = bind_some (last_addr a.0.1) (λ addr. Some (Evict a.0.0 addr)) command a.2 in
    let core = field_below_takes (min cores 64) bytes a.0 a.1 in
    let addr = last_below_takes 65536 a.0.1 b.0 b.1 in
    subst (λ (c : Command). Named cores (codes "evict ") bytes c) (some_is (Evict a.0.0 b.0) command b.2)
    (ap (λ (x : List ℕ). codes "evict " ++ x) (core.0 ∙ ap (λ (x : List ℕ). numeral a.0.0 ++ 32 ∷ x) addr.0), (core.1, addr.1))

spill_takes : (cores : ℕ) (bytes : List ℕ) (command : Command) → (last_addr bytes >>= λ addr. Some (Spill addr)) ≡ Some command
    → Named cores (codes "spill ") bytes command
unfolding command_text
spill_takes cores bytes command e =
    let a = bind_some (last_addr bytes) (λ addr. Some (Spill addr)) command e in
    let addr = last_below_takes 65536 bytes a.0 a.1 in
    subst (λ (c : Command). Named cores (codes "spill ") bytes c) (some_is (Spill a.0) command a.2) (ap (λ (x : List ℕ). codes "spill " ++ x) addr.0, addr.1)

-- ---- lines

-- the line is that of a command in range
abbrev IsLineOf : ℕ → List ℕ → Command → Type 0
IsLineOf cores line command = (line ≡ command_text command) × Fits cores command

-- a line that begins with a name and a core, or what is made of it else
core_or : (cores : ℕ) (name : List ℕ) (make : ℕ → Command) (line : List ℕ) (other : Option Command) (command : Command)
    → ((core : ℕ) → core < min cores 64 → Named cores name (numeral core) (make core))
    → (other ≡ Some command → IsLineOf cores line command)
    → named name (of_core make cores) line other ≡ Some command → IsLineOf cores line command
core_or cores name make line other command is else-takes e =
    named_or command_text (Fits cores) name (of_core make cores) line other command (λ rest. of_core_takes cores name rest make command is) else-takes e

pub command_takes : (cores : ℕ) (line : List ℕ) (command : Command) → command_of cores line ≡ Some command → IsLineOf cores line command
unfolding command_of command_text
command_takes cores line command =
    core_or cores (codes "turn ") (λ core. Turn core) line _ command (λ core lt. (refl, lt))
    (core_or cores (codes "serve ") (λ core. Serve core) line _ command (λ core lt. (refl, lt))
    (core_or cores (codes "take ") (λ core. Take core) line _ command (λ core lt. (refl, lt))
    (named_or command_text (Fits cores) (codes "recall ") (recall_of cores) line _ command (λ rest. recall_takes cores rest command)
    (named_or command_text (Fits cores) (codes "evict ") (evict_of cores) line _ command (λ rest. evict_takes cores rest command)
    (named_or command_text (Fits cores) (codes "spill ") (λ fields. last_addr fields >>= λ addr. Some (Spill addr)) line _ command (λ rest. spill_takes cores rest command)
    (core_or cores (codes "bump ") (λ core. Bump core) line _ command (λ core lt. (refl, lt))
    (core_or cores (codes "round ") (λ core. Round core) line _ command (λ core lt. (refl, lt))
    (core_or cores (codes "op ") (λ core. Op core) line _ command (λ core lt. (refl, lt))
    (core_or cores (codes "finish ") (λ core. Finish core) line None command (λ core lt. (refl, lt)) (λ e. absurd cc))))))))))

pub command_again : (cores : ℕ) (command : Command) → Fits cores command → command_of cores (command_text command) ≡ Some command
unfolding command_of command_text after recall_of evict_of
command_again cores (Turn core) fits = rw (last_below_again (min cores 64) core fits) refl
command_again cores (Serve core) fits = rw (last_below_again (min cores 64) core fits) refl
command_again cores (Take core) fits = rw (last_below_again (min cores 64) core fits) refl
command_again cores (Recall recall) fits =
    rw (
      field_below_again (min cores 64) recall.owner (numeral recall.addr ++ 32 ∷ (kind_text recall.kind ++ 32 ∷ numeral recall.rts)) fits.0,
      field_below_again 65536 recall.addr (kind_text recall.kind ++ 32 ∷ numeral recall.rts) fits.1,
      kind_again recall.kind (numeral recall.rts),
      last_below_again 281474976710657 recall.rts (omega (arith, fits.2)),
    ) refl
command_again cores (Evict core addr) fits = rw (field_below_again (min cores 64) core (numeral addr) fits.0, last_below_again 65536 addr fits.1) refl
command_again cores (Spill addr) fits = rw (last_below_again 65536 addr fits) refl
command_again cores (Bump core) fits = rw (last_below_again (min cores 64) core fits) refl
command_again cores (Round core) fits = rw (last_below_again (min cores 64) core fits) refl
command_again cores (Op core) fits = rw (last_below_again (min cores 64) core fits) refl
command_again cores (Finish core) fits = rw (last_below_again (min cores 64) core fits) refl

-- ---- a command's line has no line feed

kind_no_lf : (kind : RecallKind) → NoLf (kind_text kind)
kind_no_lf WriteBack = const_no_lf (codes "wb") refl
kind_no_lf Flush = const_no_lf (codes "flush") refl

pub command_no_lf : (command : Command) → NoLf (command_text command)
unfolding command_text
command_no_lf (Turn core) = NoLf-append (codes "turn ") (numeral core) (const_no_lf (codes "turn ") refl) (numeral_no_lf core)
command_no_lf (Serve core) = NoLf-append (codes "serve ") (numeral core) (const_no_lf (codes "serve ") refl) (numeral_no_lf core)
command_no_lf (Take core) = NoLf-append (codes "take ") (numeral core) (const_no_lf (codes "take ") refl) (numeral_no_lf core)
command_no_lf (Recall recall) =
    let time = numeral recall.rts in
    let kind = kind_text recall.kind ++ 32 ∷ time in
    let addr = numeral recall.addr ++ 32 ∷ kind in
    NoLf-append (codes "recall ") (numeral recall.owner ++ 32 ∷ addr) (const_no_lf (codes "recall ") refl)
    (number_no_lf recall.owner addr (number_no_lf recall.addr kind
    (NoLf-append (kind_text recall.kind) (32 ∷ time) (kind_no_lf recall.kind) (refl, numeral_no_lf recall.rts))))
command_no_lf (Evict core addr) =
    NoLf-append (codes "evict ") (numeral core ++ 32 ∷ numeral addr) (const_no_lf (codes "evict ") refl) (number_no_lf core (numeral addr) (numeral_no_lf addr))
command_no_lf (Spill addr) = NoLf-append (codes "spill ") (numeral addr) (const_no_lf (codes "spill ") refl) (numeral_no_lf addr)
command_no_lf (Bump core) = NoLf-append (codes "bump ") (numeral core) (const_no_lf (codes "bump ") refl) (numeral_no_lf core)
command_no_lf (Round core) = NoLf-append (codes "round ") (numeral core) (const_no_lf (codes "round ") refl) (numeral_no_lf core)
command_no_lf (Op core) = NoLf-append (codes "op ") (numeral core) (const_no_lf (codes "op ") refl) (numeral_no_lf core)
command_no_lf (Finish core) = NoLf-append (codes "finish ") (numeral core) (const_no_lf (codes "finish ") refl) (numeral_no_lf core)
