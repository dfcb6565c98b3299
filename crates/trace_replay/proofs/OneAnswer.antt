-- Bytes have one verdict at most, and none where they have a bad line.
use Rattle.std.specs.Prelude.{◌≡◌, ℕ, List, [], ◌∷◌, ◌++◌, Option, Some, length, fold, slice_get, take}
use Rattle.std.specs.List.{AllZip}
use Rattle.std.proofs.Common.{sym, ◌∙◌, ap, subst, inl, inr, arith, append_assoc, append-nil}
use Rattle.std.proofs.lemmas.Grind.{common_steps}
use Rattle.std.proofs.lemmas.List.{map-append}
use Rattle.std.proofs.lemmas.List.Sums.{fold-append}
use Rattle.std.proofs.lemmas.Option.{gets}
use Rattle.mem_op.specs.Consistency.{Operation, Loaded, Swapped, last_value, IsSequentialOrder, GivesFlatAnswers}
use Rattle.mem_op.specs.Parts.{IdParts}
use Rattle.trace.specs.Grammar.{IsLine}
use Rattle.trace.specs.declared.line.TraceLine.{TraceLine}
use Rattle.trace.specs.declared.line.TraceLine.TheVariants.{Nothing, Performs}
use Rattle.trace.proofs.LineTexts.{line_once}
use Rattle.trace.proofs.OneFault.{says_there, AreOneOr, one_or}
use Rattle.trace.proofs.OneTrace.{says_once}
use Rattle.trace_replay.specs.Answers.{StandInOrder, IsReplayed, StopsAt, IsWrongAt, IsBadAt, IsVerdict, IsFault}
use Rattle.trace_replay.specs.Laws.{AtMostOneAnswer}
use Rattle.trace_replay.specs.Parts.{WrongParts}
use Rattle.trace_replay.specs.States.{IsWrong, last_store, counted}
use Rattle.trace_replay.specs.Steps.{Step, next_step, operations, order_of, with_said, steps_of, AreCountedAfter, AreInOrder}
use Rattle.trace_replay.specs.declared.fault.ReplayFault.TheVariants.{BadTraceLine}
use Rattle.trace_replay.specs.declared.verdict.ReplayVerdict.{ReplayVerdict}
use Rattle.trace_replay.specs.declared.verdict.ReplayVerdict.TheVariants.{Yes, No}
use Rattle.trace_replay.proofs.Feeding.{same_trace}
use Rattle.trace_replay.proofs.Sequential.{in_order, flat_of, counted_push}

-- ---- the beginning of a sequential order is one

flat_front : (xs ys : List Operation) → GivesFlatAnswers (xs ++ ys) → GivesFlatAnswers xs
flat_front xs ys h = record {
  loads = λ k addr value e. (let t = front k (Loaded addr value) e in h.loads k addr value t.0 ∙ ap (last_value addr) t.1);
  swaps = λ k addr read stored e. (let t = front k (Swapped addr read stored) e in h.swaps k addr read stored t.0 ∙ ap (last_value addr) t.1);
}
  where
    front : (k : ℕ) (y : Operation) → slice_get xs k ≡ Some y → (slice_get (xs ++ ys) k ≡ Some y) × (take k (xs ++ ys) ≡ take k xs)
    front k y e = (grind (arith, common_steps, gets), grind (arith, common_steps, gets))

counted_from : (steps : List Step) (said : List TraceLine) → AreCountedAfter [] steps → AreCountedAfter [] (fold with_said steps said)
counted_from steps [] are = are
counted_from steps (Nothing ∷ said) are = counted_from steps said are
counted_from steps (Performs core operation ∷ said) are =
    counted_from (steps ++ next_step steps core operation ∷ []) said (counted_push [] steps core operation are)

-- the steps of more lines go on
goes_on : (steps : List Step) (said : List TraceLine) → (more : List Step) × (fold with_said steps said ≡ steps ++ more)
goes_on steps [] = ([], sym (append-nil steps))
goes_on steps (Nothing ∷ said) = goes_on steps said
goes_on steps (Performs core operation ∷ said) =
    let step = next_step steps core operation in
    let t = goes_on (steps ++ step ∷ []) said in
    (step ∷ t.0, t.1 ∙ append_assoc steps (step ∷ []) t.0)

front_in_order : (said more : List TraceLine) → StandInOrder (said ++ more) → AreInOrder (steps_of said)
front_in_order said more order =
    let are = counted_from [] said tt in
    let all = counted_from [] (said ++ more) tt in
    let t = goes_on (steps_of said) more in
    let is : steps_of (said ++ more) ≡ steps_of said ++ t.0 = fold-append with_said [] said more ∙ t.1 in
    let flat = flat_of (steps_of (said ++ more)) all (subst (λ (cores : List (List Operation)). IsSequentialOrder cores (order_of (steps_of (said ++ more)))) (sym (same_trace (said ++ more))) order) in
    in_order (steps_of said) are
    (flat_front (operations (steps_of said)) (operations t.0) (subst GivesFlatAnswers (ap operations is ∙ map-append (λ (s : Step). s.operation) (steps_of said) t.0) flat))

-- ---- no stop where all stand in order

not_wrong : (wrong : WrongParts) (before after : List TraceLine) (line : List ℕ) (here : TraceLine) → IsLine line here
    → StandInOrder (before ++ here ∷ after) → IsWrongAt wrong before line → ⊥
not_wrong wrong before after line here is order (core, operation, performs, w) =
    w.isnt (subst AreInOrder (fold-append with_said [] before (here ∷ []) ∙ ap (with_said (steps_of before)) (line_once line here (Performs core operation) is performs))
    (front_in_order (before ++ here ∷ []) after (subst StandInOrder (sym (append_assoc before (here ∷ []) after)) order)))

not_bad : (number : ℕ) (before : List TraceLine) (line : List ℕ) (here : TraceLine) → IsLine line here → IsBadAt number before line → ⊥
not_bad number before line here is bad = bad.1 here is

-- what is so of a line that says nothing more in order
abbrev Stops : (List TraceLine → List ℕ → Type 0) → Type 0
Stops Here = (before after : List TraceLine) (line : List ℕ) (here : TraceLine) → IsLine line here → StandInOrder (before ++ here ∷ after) → Here before line → ⊥

wrong_stops : (wrong : WrongParts) → Stops (IsWrongAt wrong)
wrong_stops wrong before after line here is order w = not_wrong wrong before after line here is order w

bad_stops : (number : ℕ) → Stops (IsBadAt number)
bad_stops number before after line here is order bad = not_bad number before line here is bad

replayed_nowhere : (bytes : List ℕ) (count : ℕ) (Here : List TraceLine → List ℕ → Type 0) → Stops Here → IsReplayed bytes count → StopsAt bytes Here → ⊥
replayed_nowhere bytes count Here stops all at =
    let there = says_there at.earlier at.later at.line at.before all.said at.says
    (subst (λ (ls : List (List ℕ)). AllZip IsLine ls all.said) at.lines_are all.says) in
    stops at.before there.after at.line there.here there.is_line (subst StandInOrder there.said_are all.order) at.here

-- two stops are at one line
at_one : (bytes : List ℕ) (P Q : List TraceLine → List ℕ → Type 0) → Stops P → Stops Q → (a : StopsAt bytes P) (b : StopsAt bytes Q)
    → (a.before ≡ b.before) × (a.line ≡ b.line)
at_one bytes P Q p q a b = go (one_or a.earlier b.earlier a.later b.later a.line b.line a.before b.before (sym a.lines_are ∙ b.lines_are) a.says b.says)
  where
    go : AreOneOr a.line b.line a.before b.before → (a.before ≡ b.before) × (a.line ≡ b.line)
    go (inl same) = same
    go (inr (inl there)) = absurd (p a.before there.after a.line there.here there.is_line (subst StandInOrder there.said_are b.order) a.here)
    go (inr (inr there)) = absurd (q b.before there.after b.line there.here there.is_line (subst StandInOrder there.said_are a.order) b.here)

-- ---- one wrong load

abbrev with_parts : IdParts → ℕ → ℕ → Option (ℕ × IdParts) → WrongParts
with_parts id addr read last = record { id = id; addr = addr; read = read; last = last }

told_once : (steps : List Step) (core : ℕ) (operation : Operation) (v w : WrongParts) → IsWrong steps core operation v → IsWrong steps core operation w → v ≡ w
told_once steps core operation v w a b =
    let id = a.id ∙ sym b.id in
    let addr = a.addr ∙ sym b.addr in
    let read : v.read ≡ w.read = (let same : Some v.read ≡ Some w.read = sym a.read ∙ b.read in cc) in
    let last = a.last ∙ ap (λ n. last_store n steps) addr ∙ sym b.last in
    ap (λ i. with_parts i v.addr v.read v.last) id ∙ ap (λ n. with_parts w.id n v.read v.last) addr
    ∙ ap (λ n. with_parts w.id w.addr n v.last) read ∙ ap (with_parts w.id w.addr w.read) last

wrong_once : (before : List TraceLine) (line : List ℕ) (v w : WrongParts) → IsWrongAt v before line → IsWrongAt w before line → v ≡ w
wrong_once before line v w (core, operation, is, a) (core', operation', is', b) =
    let same : Performs core operation ≡ Performs core' operation' = line_once line (Performs core operation) (Performs core' operation') is is' in
    let cores : core ≡ core' = cc in
    let ops : operation ≡ operation' = cc in
    told_once (steps_of before) core' operation' v w (subst (λ c. IsWrong (steps_of before) c operation' v) cores (subst (λ o. IsWrong (steps_of before) core o v) ops a)) b

pub one_answer : AtMostOneAnswer
one_answer = record { verdict = one; no_fault = none }
  where
    one : (bytes : List ℕ) (v w : ReplayVerdict) → IsVerdict bytes v → IsVerdict bytes w → v ≡ w
    one bytes (Yes m) (Yes n) a b =
        ap Yes (a.count_is ∙ ap (λ (said : List TraceLine). counted (length (steps_of said))) (says_once _ a.said b.said a.says b.says) ∙ sym b.count_is)
    one bytes (Yes m) (No w) a b = absurd (replayed_nowhere bytes m (IsWrongAt w) (wrong_stops w) a b)
    one bytes (No v) (Yes n) a b = absurd (replayed_nowhere bytes n (IsWrongAt v) (wrong_stops v) b a)
    one bytes (No v) (No w) a b =
        let t = at_one bytes (IsWrongAt v) (IsWrongAt w) (wrong_stops v) (wrong_stops w) a b in
        ap No (wrong_once b.before b.line v w (subst (λ line. IsWrongAt v b.before line) t.1 (subst (λ before. IsWrongAt v before a.line) t.0 a.here)) b.here)

    none : (bytes : List ℕ) (v : ReplayVerdict) (number : ℕ) → IsVerdict bytes v → ¬ IsFault bytes (BadTraceLine number)
    none bytes (Yes m) number a bad = replayed_nowhere bytes m (IsBadAt number) (bad_stops number) a bad
    none bytes (No v) number a bad =
        let t = at_one bytes (IsWrongAt v) (IsBadAt number) (wrong_stops v) (bad_stops number) a bad in
        wrong_bad a.here (subst (λ line. IsBadAt number bad.before line) (sym t.1) bad.here)
      where
        wrong_bad : IsWrongAt v a.before a.line → IsBadAt number bad.before a.line → ⊥
        wrong_bad (core, operation, is, w) at = at.1 (Performs core operation) is
