-- A line is read as what it says, and what is read is what the line says.
use Rattle.std.proofs.Common.{◌≡◌, ℕ, ◌<◌, Bool, true, false, cond, List, [], ◌∷◌, Option, Some, None, is_some, refl, sym, ap, subst, ◌∙◌, inl, inr, nat_lt, ◌==◌, ◌⊎◌, if◌then◌else◌}
use Rattle.std.specs.Prelude.{codes}
use Rattle.std.proofs.lemmas.Bool.{cases_Bool, cond_below, ltb-true, eqb-true, eq-eqb}
use Rattle.decimal_text.specs.Reading.{◌>>=◌}
use Rattle.decimal_text.proofs.Numbers.{guard_some}
use Rattle.decimal_text.proofs.Reading.{bind_some, some_is}
use Rattle.mem_op.specs.Consistency.{Operation, Loaded, Stored, Swapped}
use Rattle.trace.specs.declared.line.TraceLine.{TraceLine}
use Rattle.trace.specs.declared.line.TraceLine.TheVariants.{Nothing, Performs}
use Rattle.trace.specs.Grammar.{Part, Mark, Number, IsAhead, AreAhead, IsOver, cell, operation_parts, of_core, time_parts, AreTimes, AreAll, IsLine}
use Rattle.trace.specs.inner.Reading.{mark_at, number_at, cell_at, word_at, access_at, swap_at, operation_at_front, is_over, after_time, rest_or, ends_at, are_times, is_ended, said_of, core_at, line_of}
use Rattle.trace.proofs.Parts.{starts_plain, mark_takes, mark_again, mark_none, number_takes, number_again, number_none_at_mark, number_none_at_end, over_takes, over_again, not_over}

-- ---- `M[A]`

cell_takes : (bytes : List ℕ) (x : ℕ × List ℕ) (parts : List Part) (last : List ℕ) → cell_at bytes ≡ Some x → AreAhead parts x.1 last → AreAhead (cell x.0 parts) bytes last
unfolding cell_at
cell_takes bytes x parts last e more =
    let m = bind_some (mark_at (codes "M") bytes) _ x e in
    let b = bind_some (mark_at (codes "[") m.0) _ x m.2 in
    let a = bind_some (number_at b.0) _ x b.2 in
    let r = bind_some (mark_at (codes "]") a.0.1) _ x a.2 in
    let same : (a.0.0, r.0) ≡ x = some_is (a.0.0, r.0) x r.2 in
    let ahead : (y : ℕ × List ℕ) → (a.0.0, r.0) ≡ y → AreAhead parts y.1 last → AreAhead (cell y.0 parts) bytes last =
    λ y is. subst (λ (z : ℕ × List ℕ). AreAhead parts z.1 last → AreAhead (cell z.0 parts) bytes last) is (λ more. (
      m.0,
      mark_takes (codes "M") bytes m.0 m.1,
      (b.0, mark_takes (codes "[") m.0 b.0 b.1, (a.0.1, number_takes b.0 a.0 a.1, (r.0, mark_takes (codes "]") a.0.1 r.0 r.1, more))),
    )) in
    ahead x same more

cell_again : (addr : ℕ) (parts : List Part) (bytes last : List ℕ) → AreAhead (cell addr parts) bytes last
    → (rest : List ℕ) × (cell_at bytes ≡ Some (addr, rest)) × AreAhead parts rest last
unfolding cell_at
cell_again addr parts bytes last (m, at_m, (b, at_b, (n, at_n, (r, at_r, more)))) = (
  r,
  rw (mark_again (codes "M") bytes m refl at_m, mark_again (codes "[") m b refl at_b, number_again addr b n at_n, mark_again (codes "]") n r refl at_r) refl,
  more,
)

-- ---- `== V` and `:= V`

word_takes : (sign bytes : List ℕ) (x : ℕ × List ℕ) (parts : List Part) (last : List ℕ) → word_at sign bytes ≡ Some x → AreAhead parts x.1 last
    → AreAhead (Mark sign ∷ Number x.0 ∷ parts) bytes last
unfolding word_at
word_takes sign bytes x parts last e more =
    let m = bind_some (mark_at sign bytes) number_at x e in
    (m.0, mark_takes sign bytes m.0 m.1, (x.1, number_takes m.0 x m.2, more))

word_again : (sign : List ℕ) (word : ℕ) (parts : List Part) (bytes last : List ℕ) → starts_plain sign ≡ true → AreAhead (Mark sign ∷ Number word ∷ parts) bytes last
    → (rest : List ℕ) × (word_at sign bytes ≡ Some (word, rest)) × AreAhead parts rest last
unfolding word_at
word_again sign word parts bytes last plain (m, at_m, (n, at_n, more)) = (n, rw (mark_again sign bytes m plain at_m) (number_again word m n at_n), more)

-- ---- operations

-- what came of a test
branch : {B : Type 0} (t : Bool) (p q : Option B) (y : B) → (if t then p else q) ≡ Some y → (p ≡ Some y) ⊎ (q ≡ Some y)
branch true p q y e = inl e
branch false p q y e = inr e

access_takes : (bytes : List ℕ) (x : Operation × List ℕ) → access_at bytes ≡ Some x → AreAhead (operation_parts x.0) bytes x.1
unfolding access_at
access_takes bytes x e =
    let a = bind_some (cell_at bytes) _ x e in
    elim (branch (is_some (mark_at (codes "==") a.0.1)) _ _ x a.2) [
      | inl e ↦ (
          let w = bind_some (word_at (codes "==") a.0.1) _ x e in
          subst (λ (y : Operation × List ℕ). AreAhead (operation_parts y.0) bytes y.1) (some_is (Loaded a.0.0 w.0.0, w.0.1) x w.2)
          (cell_takes bytes a.0 (Mark (codes "==") ∷ Number w.0.0 ∷ []) w.0.1 a.1 (word_takes (codes "==") a.0.1 w.0 [] w.0.1 w.1 refl)))
      | inr e ↦ (
          let w = bind_some (word_at (codes ":=") a.0.1) _ x e in
          subst (λ (y : Operation × List ℕ). AreAhead (operation_parts y.0) bytes y.1) (some_is (Stored a.0.0 w.0.0, w.0.1) x w.2)
          (cell_takes bytes a.0 (Mark (codes ":=") ∷ Number w.0.0 ∷ []) w.0.1 a.1 (word_takes (codes ":=") a.0.1 w.0 [] w.0.1 w.1 refl)))
    ]

load_again : (addr value : ℕ) (bytes rest : List ℕ) → AreAhead (operation_parts (Loaded addr value)) bytes rest → access_at bytes ≡ Some (Loaded addr value, rest)
unfolding access_at
load_again addr value bytes rest ahead =
    let c = cell_again addr (Mark (codes "==") ∷ Number value ∷ []) bytes rest ahead in
    let w = word_again (codes "==") value [] c.0 rest refl c.2 in
    rw (c.1, mark_again (codes "==") c.0 c.2.0 refl c.2.1, w.1) (ap (λ r. Some (Loaded addr value, r)) w.2)

store_again : (addr value : ℕ) (bytes rest : List ℕ) → AreAhead (operation_parts (Stored addr value)) bytes rest → access_at bytes ≡ Some (Stored addr value, rest)
unfolding access_at
store_again addr value bytes rest ahead =
    let c = cell_again addr (Mark (codes ":=") ∷ Number value ∷ []) bytes rest ahead in
    let w = word_again (codes ":=") value [] c.0 rest refl c.2 in
    rw (c.1, mark_none (codes "==") (codes ":=") c.0 c.2.0 refl refl c.2.1, w.1) (ap (λ r. Some (Stored addr value, r)) w.2)

swap_takes : (before bytes : List ℕ) (x : Operation × List ℕ) → IsAhead (Mark (codes "{")) before bytes → swap_at bytes ≡ Some x → AreAhead (operation_parts x.0) before x.1
unfolding swap_at
swap_takes before bytes x brace e =
    let a = bind_some (cell_at bytes) _ x e in
    let r = bind_some (word_at (codes "==") a.0.1) _ x a.2 in
    let n = bind_some (mark_at (codes ";") r.0.1) _ x r.2 in
    let b = bind_some (cell_at n.0) _ x n.2 in
    let w = bind_some (word_at (codes ":=") b.0.1) _ x b.2 in
    let d = bind_some (mark_at (codes "}") w.0.1) _ x w.2 in
    let g = guard_some (a.0.0 == b.0.0) (Swapped a.0.0 r.0.0 w.0.0, d.0) x d.2 in
    let same : b.0.0 ≡ a.0.0 = sym (eqb-true a.0.0 b.0.0 g.0) in
    let store_parts : List Part = Mark (codes ":=") ∷ Number w.0.0 ∷ Mark (codes "}") ∷ [] in
    let stored : AreAhead (cell b.0.0 store_parts) n.0 d.0 =
    cell_takes n.0 b.0 store_parts d.0 b.1 (word_takes (codes ":=") b.0.1 w.0 (Mark (codes "}") ∷ []) d.0 w.1 (d.0, mark_takes (codes "}") w.0.1 d.0 d.1, refl)) in
    let stored_there : AreAhead (cell a.0.0 store_parts) n.0 d.0 = subst (λ addr. AreAhead (cell addr store_parts) n.0 d.0) same stored in
    subst (λ (y : Operation × List ℕ). AreAhead (operation_parts y.0) before y.1) g.1 (
      bytes,
      brace,
      cell_takes bytes a.0 (Mark (codes "==") ∷ Number r.0.0 ∷ Mark (codes ";") ∷ cell a.0.0 store_parts) d.0 a.1
          (word_takes (codes "==") a.0.1 r.0 (Mark (codes ";") ∷ cell a.0.0 store_parts) d.0 r.1 (n.0, mark_takes (codes ";") r.0.1 n.0 n.1, stored_there)),
    )

swap_again : (addr read stored : ℕ) (bytes rest : List ℕ)
    → AreAhead (cell addr (Mark (codes "==") ∷ Number read ∷ Mark (codes ";") ∷ cell addr (Mark (codes ":=") ∷ Number stored ∷ Mark (codes "}") ∷ []))) bytes rest
    → swap_at bytes ≡ Some (Swapped addr read stored, rest)
unfolding swap_at
swap_again addr read stored bytes rest ahead =
    let store_parts : List Part = Mark (codes ":=") ∷ Number stored ∷ Mark (codes "}") ∷ [] in
    let a = cell_again addr (Mark (codes "==") ∷ Number read ∷ Mark (codes ";") ∷ cell addr store_parts) bytes rest ahead in
    let r = word_again (codes "==") read (Mark (codes ";") ∷ cell addr store_parts) a.0 rest refl a.2 in
    let n = r.2.0 in
    let b = cell_again addr store_parts n rest r.2.2 in
    let w = word_again (codes ":=") stored (Mark (codes "}") ∷ []) b.0 rest refl b.2 in
    rw (a.1, r.1, mark_again (codes ";") r.0 n refl r.2.1, b.1, w.1, mark_again (codes "}") w.0 w.2.0 refl w.2.1, eq-eqb addr addr refl) (ap (λ s. Some (Swapped addr read stored, s)) w.2.2)

operation_takes : (bytes : List ℕ) (x : Operation × List ℕ) → operation_at_front bytes ≡ Some x → AreAhead (operation_parts x.0) bytes x.1
unfolding operation_at_front
operation_takes bytes x e = elim (branch (is_some (mark_at (codes "{") bytes)) _ _ x e) [
  | inl e ↦ (let m = bind_some (mark_at (codes "{") bytes) swap_at x e in swap_takes bytes m.0 x (mark_takes (codes "{") bytes m.0 m.1) m.2)
  | inr e ↦ access_takes bytes x e
]

operation_again : (operation : Operation) (bytes rest : List ℕ) → AreAhead (operation_parts operation) bytes rest → operation_at_front bytes ≡ Some (operation, rest)
unfolding operation_at_front
operation_again (Loaded addr value) bytes rest ahead = rw (mark_none (codes "{") (codes "M") bytes ahead.0 refl refl ahead.1) (load_again addr value bytes rest ahead)
operation_again (Stored addr value) bytes rest ahead = rw (mark_none (codes "{") (codes "M") bytes ahead.0 refl refl ahead.1) (store_again addr value bytes rest ahead)
operation_again (Swapped addr read stored) bytes rest (next, at_next, more) = rw (mark_again (codes "{") bytes next refl at_next) (swap_again addr read stored next rest more)

-- an operation doesn't begin as a fence does
no_fence : (operation : Operation) (bytes rest : List ℕ) → AreAhead (operation_parts operation) bytes rest → mark_at (codes "sync") bytes ≡ None
no_fence (Loaded addr value) bytes rest ahead = mark_none (codes "sync") (codes "M") bytes ahead.0 refl refl ahead.1
no_fence (Stored addr value) bytes rest ahead = mark_none (codes "sync") (codes "M") bytes ahead.0 refl refl ahead.1
no_fence (Swapped addr read stored) bytes rest ahead = mark_none (codes "sync") (codes "{") bytes ahead.0 refl refl ahead.1

-- ---- the end

-- a time, where one is there
record TimeTaken (bytes : List ℕ) : Type 0 where
  time : Option ℕ
  ahead : (parts : List Part) (last : List ℕ) → AreAhead parts (after_time bytes) last → AreAhead (time_parts time parts) bytes last

time_takes : (bytes : List ℕ) → TimeTaken bytes
unfolding after_time
time_takes bytes = go (number_at bytes) refl
  where
    go : (o : Option (ℕ × List ℕ)) → number_at bytes ≡ o → TimeTaken bytes
    go None is = record { time = None; ahead = λ parts last more. subst (λ o. AreAhead parts (rest_or bytes o) last) is more }
    go (Some x) is = record { time = Some x.0; ahead = λ parts last more. (x.1, number_takes bytes x is, subst (λ o. AreAhead parts (rest_or bytes o) last) is more) }

begin_again : (time : Option ℕ) (parts : List Part) (bytes last : List ℕ) → AreAhead (time_parts time (Mark (codes ":") ∷ parts)) bytes last
    → AreAhead (Mark (codes ":") ∷ parts) (after_time bytes) last
unfolding after_time
begin_again None parts bytes last ahead = rw (number_none_at_mark (codes ":") bytes ahead.0 refl refl ahead.1) ahead
begin_again (Some time) parts bytes last (n, at_n, more) = rw (number_again time bytes n at_n) more

end_again : (time : Option ℕ) (bytes rest : List ℕ) → AreAhead (time_parts time []) bytes rest → IsOver rest → is_over (after_time bytes) ≡ true
unfolding after_time
end_again None bytes rest is over =
    let here : IsOver bytes = subst IsOver (sym is) over in
    rw (number_none_at_end bytes here) (over_again bytes here)
end_again (Some time) bytes rest (n, at_n, is) over = rw (number_again time bytes n at_n) (over_again n (subst IsOver (sym is) over))

abbrev IsEnd : List ℕ → Type 0
IsEnd bytes = IsOver bytes ⊎ ((rest : List ℕ) × AreTimes bytes rest × IsOver rest)

times_take : (bytes : List ℕ) (at : Option (List ℕ)) → mark_at (codes "@") bytes ≡ at → are_times at ≡ true → IsEnd bytes
times_take bytes None is e = absurd cc
times_take bytes (Some begin) is e = colon (mark_at (codes ":") (after_time begin)) refl e
  where
    colon : (o : Option (List ℕ)) → mark_at (codes ":") (after_time begin) ≡ o → ends_at o ≡ true → IsEnd bytes
    colon None at e = absurd cc
    colon (Some end) at e =
        let b = time_takes begin in
        let l = time_takes end in
        inr (
          after_time end,
          record {
            begin = b.time;
            end = l.time;
            times = (
              begin,
              mark_takes (codes "@") bytes begin is,
              b.ahead (Mark (codes ":") ∷ time_parts l.time []) (after_time end)
                  (end, mark_takes (codes ":") (after_time begin) end at, l.ahead [] (after_time end) refl),
            );
          },
          over_takes (after_time end) e,
        )

times_again : (bytes rest : List ℕ) → AreTimes bytes rest → IsOver rest → are_times (mark_at (codes "@") bytes) ≡ true
times_again bytes rest times over =
    let begin = times.times.0 in
    let colon = begin_again times.begin (time_parts times.end []) begin rest times.times.2 in
    rw (mark_again (codes "@") bytes begin refl times.times.1, mark_again (codes ":") (after_time begin) colon.0 refl colon.1)
    (end_again times.end colon.0 rest colon.2 over)

ended_takes : (bytes : List ℕ) → is_ended bytes ≡ true → IsEnd bytes
unfolding is_ended
ended_takes bytes e = elim (cases_Bool (is_over bytes)) [
  | inl h ↦ inl (over_takes bytes h)
  | inr h ↦ times_take bytes (mark_at (codes "@") bytes) refl (sym (ap (λ t. cond t true (are_times (mark_at (codes "@") bytes))) h) ∙ e)
]

ended_again : (bytes : List ℕ) → IsEnd bytes → is_ended bytes ≡ true
unfolding is_ended
ended_again bytes (inl over) = rw (over_again bytes over) refl
ended_again bytes (inr times) = elim (cases_Bool (is_over bytes)) [
  | inl h ↦ rw h refl
  | inr h ↦ rw h (times_again bytes times.0 times.1 times.2)
]

-- ---- what is said of a core

-- what is said of a core, without `T:`
abbrev IsSaid : ℕ → List ℕ → TraceLine → Type 0
IsSaid core bytes Nothing = AreAll (Mark (codes "sync") ∷ []) bytes
IsSaid core bytes (Performs k operation) = (k ≡ core) × AreAll (operation_parts operation) bytes

said_takes : (core : ℕ) (bytes : List ℕ) (said : TraceLine) → said_of core bytes ≡ Some said → IsSaid core bytes said
unfolding said_of
said_takes core bytes said e = elim (branch (is_some (mark_at (codes "sync") bytes)) _ _ said e) [
  | inl e ↦ (
      let m = bind_some (mark_at (codes "sync") bytes) _ said e in
      let g = guard_some (is_ended m.0) Nothing said m.2 in
      subst (IsSaid core bytes) g.1 (record { next = m.0; parts_ahead = (m.0, mark_takes (codes "sync") bytes m.0 m.1, refl); end = ended_takes m.0 g.0 }))
  | inr e ↦ (
      let o = bind_some (operation_at_front bytes) _ said e in
      let g = guard_some (is_ended o.0.1) (Performs core o.0.0) said o.2 in
      subst (IsSaid core bytes) g.1 (refl, record { next = o.0.1; parts_ahead = operation_takes bytes o.0 o.1; end = ended_takes o.0.1 g.0 }))
]

sync_again : (core : ℕ) (bytes : List ℕ) → AreAll (Mark (codes "sync") ∷ []) bytes → said_of core bytes ≡ Some Nothing
unfolding said_of
sync_again core bytes all =
    let m = all.parts_ahead.0 in
    let end : IsEnd m = subst IsEnd (sym all.parts_ahead.2) all.end in
    rw (mark_again (codes "sync") bytes m refl all.parts_ahead.1, ended_again m end) refl

performs_again : (core : ℕ) (operation : Operation) (bytes : List ℕ) → AreAll (operation_parts operation) bytes → said_of core bytes ≡ Some (Performs core operation)
unfolding said_of
performs_again core operation bytes all =
    rw (no_fence operation bytes all.next all.parts_ahead, operation_again operation bytes all.next all.parts_ahead, ended_again all.next all.end) refl

-- ---- the line

core_takes : (bytes : List ℕ) (x : ℕ × List ℕ) → core_at bytes ≡ Some x
    → (x.0 < 64) × ((parts : List Part) → AreAll parts x.1 → AreAll (of_core x.0 parts) bytes)
unfolding core_at
core_takes bytes x e =
    let n = bind_some (number_at bytes) _ x e in
    let m = bind_some (mark_at (codes ":") n.0.1) _ x n.2 in
    let g = guard_some (nat_lt n.0.0 64) (n.0.0, m.0) x m.2 in
    subst (λ (y : ℕ × List ℕ). (y.0 < 64) × ((parts : List Part) → AreAll parts y.1 → AreAll (of_core y.0 parts) bytes)) g.1 (
      ltb-true n.0.0 64 g.0,
      λ parts all. record {
        next = all.next;
        parts_ahead = (n.0.1, number_takes bytes n.0 n.1, (m.0, mark_takes (codes ":") n.0.1 m.0 m.1, all.parts_ahead));
        end = all.end;
      },
    )

-- the bytes after `T:`
record BehindCore (core : ℕ) (parts : List Part) (bytes : List ℕ) : Type 0 where
  rest : List ℕ
  core_is : core_at bytes ≡ Some (core, rest)
  all : AreAll parts rest
  more : is_over bytes ≡ false

core_again : (core : ℕ) (parts : List Part) (bytes : List ℕ) → core < 64 → AreAll (of_core core parts) bytes → BehindCore core parts bytes
unfolding core_at
core_again core parts bytes low all =
    let n = all.parts_ahead.0 in
    let m = all.parts_ahead.2.0 in
    record {
      rest = m;
      core_is = rw (number_again core bytes n all.parts_ahead.1, mark_again (codes ":") n m refl all.parts_ahead.2.1) (sym (cond_below core 64 (Some (core, m)) None low));
      all = record { next = all.next; parts_ahead = all.parts_ahead.2.2; end = all.end };
      more = not_over core bytes n all.parts_ahead.1;
    }

pub line_takes : (line : List ℕ) (said : TraceLine) → line_of line ≡ Some said → IsLine line said
unfolding line_of
line_takes line said e = elim (cases_Bool (is_over line)) [
  | inl h ↦ subst (IsLine line) (some_is Nothing said (sym (rw h refl) ∙ e)) (inl (over_takes line h))
  | inr h ↦ (
      let c = bind_some (core_at line) _ said (sym (ap (λ t. cond t (Some Nothing) (core_at line >>= λ core. said_of core.0 core.1)) h) ∙ e) in
      let t = core_takes line c.0 c.1 in
      of_said c.0.0 c.0.1 said t.0 t.1 (said_takes c.0.0 c.0.1 said c.2))
]
  where
    of_said : (core : ℕ) (rest : List ℕ) (said : TraceLine) → core < 64 → ((parts : List Part) → AreAll parts rest → AreAll (of_core core parts) line)
        → IsSaid core rest said → IsLine line said
    of_said core rest Nothing low all h = inr (core, low, all (Mark (codes "sync") ∷ []) h)
    of_said core rest (Performs k operation) low all h =
        subst (λ c. (c < 64) × AreAll (of_core c (operation_parts operation)) line) (sym h.0) (low, all (operation_parts operation) h.1)

pub line_again : (line : List ℕ) (said : TraceLine) → IsLine line said → line_of line ≡ Some said
unfolding line_of
line_again line Nothing (inl over) = rw (over_again line over) refl
line_again line Nothing (inr (core, low, all)) =
    let b = core_again core (Mark (codes "sync") ∷ []) line low all in
    rw (b.more, b.core_is) (sync_again core b.rest b.all)
line_again line (Performs core operation) (low, all) =
    let b = core_again core (operation_parts operation) line low all in
    rw (b.more, b.core_is) (performs_again core operation b.rest b.all)

-- a line says one thing
pub line_once : (line : List ℕ) (a b : TraceLine) → IsLine line a → IsLine line b → a ≡ b
line_once line a b p q = some_is a b (sym (line_again line a p) ∙ line_again line b q)

-- what can't be read is no line
pub no_line : (line : List ℕ) → None ≡ line_of line → (said : TraceLine) → IsLine line said → ⊥
no_line line none said is = let found : None ≡ Some said = none ∙ line_again line said is in cc
