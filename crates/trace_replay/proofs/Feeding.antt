-- Lines that are replayed as they are fed.
use Rattle.std.specs.Prelude.{◌≡◌, ◌≢◌, ℕ, ◌+◌, ◌-◌, ◌^◌, ◌==◌, false, min, List, [], ◌∷◌, ◌++◌, refl, Result, Ok, Err, MatchResult, length, fold}
use Rattle.std.specs.List.{AllZip}
use Rattle.std.specs.Str.Lines.{lines, strip_carriage_return}
use Rattle.std.proofs.Common.{sym, ◌∙◌, ap, subst, arith, append_assoc, append-nil, length-append}
use Rattle.std.proofs.lemmas.List.Elements.{All-append}
use Rattle.std.proofs.lemmas.List.Sums.{fold_push}
use Rattle.mem_op.specs.Consistency.{Operation, IsSequentialOrder}
use Rattle.trace.specs.Grammar.{IsLine}
use Rattle.trace.specs.Texts.{line_number, with_line}
use Rattle.trace.specs.declared.line.TraceLine.{TraceLine}
use Rattle.trace.specs.declared.line.TraceLine.TheVariants.{Nothing, Performs}
use Rattle.trace.proofs.Feeding.{first_line, last_line, says_push}
use Rattle.trace_replay.specs.Answers.{StandInOrder, StopsAt, IsBadAt, IsReplayed}
use Rattle.trace_replay.specs.Laws.{IsOfTrace}
use Rattle.trace_replay.specs.Reading.{AreCut}
use Rattle.trace_replay.specs.States.{StandsFor, counted}
use Rattle.trace_replay.specs.Steps.{Step, next_step, with_step, cores_of, order_of, with_said, steps_of, AreInOrder}
use Rattle.trace_replay.specs.declared.fault.ReplayFault.TheVariants.{BadTraceLine, OutOfMemory, Read}
use Rattle.trace_replay.specs.declared.line_replay.LineReplay.{LineReplay}
use Rattle.trace_replay.specs.declared.replayer.Replayer.{Replayer}
use Rattle.trace_replay.specs.declared.stop.Stop.{Stop}
use Rattle.trace_replay.specs.declared.stop.Stop.TheVariants.{Wrong, Refused}
use Rattle.trace_replay.specs.inner.Feeding.{Stands, TakesLine, IsStopAt, IsStopBy, WasFed, IsStopOf}
use Rattle.text_lines.specs.Lines.{IsOneLine}

-- ---- the steps that lines tell

pub steps_of-push : (said : List TraceLine) (last : TraceLine) → steps_of (said ++ last ∷ []) ≡ with_said (steps_of said) last
steps_of-push said last = fold_push with_said [] said last

same_from : (steps : List Step) (said : List TraceLine) → cores_of (fold with_said steps said) ≡ fold with_line (cores_of steps) said
same_from steps [] = refl
same_from steps (Nothing ∷ said) = same_from steps said
same_from steps (Performs core operation ∷ said) =
    same_from (steps ++ next_step steps core operation ∷ []) said
    ∙ ap (λ (cores : List (List Operation)). fold with_line cores said) (fold_push with_step [] steps (next_step steps core operation))

pub same_trace : IsOfTrace
same_trace said = same_from [] said

pub stand_in_order : (said : List TraceLine) → AreInOrder (steps_of said) → StandInOrder said
stand_in_order said order = subst (λ (cores : List (List Operation)). IsSequentialOrder cores (order_of (steps_of said))) (same_trace said) order

-- ---- bytes that are cut into lines

pub nothing_cut : AreCut [] [] []
nothing_cut = record { one = λ k d l. absurd (omega arith); lines_are = λ more. refl }

joined : (begun part more : List ℕ) → begun ++ (part ++ 10 ∷ more) ≡ (begun ++ part) ++ 10 ∷ more
joined begun part more = sym (append_assoc begun part (10 ∷ more))

one_joined : (begun part : List ℕ) → IsOneLine begun → IsOneLine part → IsOneLine (begun ++ part)
one_joined begun part a b = All-append (λ b. (b == 10) ≡ false) begun part a b

-- the lines of bytes in which one more line ends
lines_with : (bytes begun part more : List ℕ) (whole : List (List ℕ)) → AreCut bytes whole begun → IsOneLine part
    → lines (bytes ++ (part ++ 10 ∷ more)) ≡ whole ++ strip_carriage_return (begun ++ part) ∷ lines more
lines_with bytes begun part more whole cut one =
    cut.lines_are (part ++ 10 ∷ more)
    ∙ ap (λ rest. whole ++ rest) (ap lines (joined begun part more) ∙ first_line (begun ++ part) more (one_joined begun part cut.one one))

cut_line : (bytes begun part : List ℕ) (whole : List (List ℕ)) → AreCut bytes whole begun → IsOneLine part
    → AreCut (bytes ++ (part ++ 10 ∷ [])) (whole ++ strip_carriage_return (begun ++ part) ∷ []) []
cut_line bytes begun part whole cut one = record {
  one = λ k d l. absurd (omega arith);
  lines_are = λ more.
      ap lines (append_assoc bytes (part ++ 10 ∷ []) more ∙ ap (λ rest. bytes ++ rest) (append_assoc part (10 ∷ []) more))
      ∙ lines_with bytes begun part more whole cut one
      ∙ sym (append_assoc whole (strip_carriage_return (begun ++ part) ∷ []) (lines more));
}

cut_more : (bytes begun rest : List ℕ) (whole : List (List ℕ)) → AreCut bytes whole begun → IsOneLine rest → AreCut (bytes ++ rest) whole (begun ++ rest)
cut_more bytes begun rest whole cut one = record {
  one = one_joined begun rest cut.one one;
  lines_are = λ more.
      ap lines (append_assoc bytes rest more) ∙ cut.lines_are (rest ++ more) ∙ ap (λ b. whole ++ lines b) (sym (append_assoc begun rest more));
}

-- the lines of bytes that end there
lines_at_end : (bytes begun : List ℕ) (whole : List (List ℕ)) → AreCut bytes whole begun → lines bytes ≡ whole ++ lines begun
lines_at_end bytes begun whole cut =
    ap lines (sym (append-nil bytes)) ∙ cut.lines_are [] ∙ ap (λ b. whole ++ lines b) (append-nil begun)

lines_open : (bytes begun : List ℕ) (whole : List (List ℕ)) → AreCut bytes whole begun → begun ≢ [] → lines bytes ≡ whole ++ begun ∷ []
lines_open bytes begun whole cut some = lines_at_end bytes begun whole cut ∙ ap (λ rest. whole ++ rest) (last begun some cut.one)
  where
    last : (begun : List ℕ) → begun ≢ [] → IsOneLine begun → lines begun ≡ begun ∷ []
    last [] some one = absurd (some refl)
    last (b ∷ bs) some one = last_line b bs one

-- ---- what was fed

pub fed_line : (l m : LineReplay) (begun after part bytes : List ℕ) (w : WasFed l begun bytes) → IsOneLine part
    → TakesLine w.said (strip_carriage_return (begun ++ part)) m → after ≡ [] → WasFed m after (bytes ++ (part ++ 10 ∷ []))
fed_line l m begun after part bytes w one takes none = record {
  whole = w.whole ++ strip_carriage_return (begun ++ part) ∷ [];
  cut = subst (AreCut _ _) (sym none) (cut_line bytes begun part w.whole w.cut one);
  said = w.said ++ takes.last ∷ [];
  says = says_push w.whole w.said (strip_carriage_return (begun ++ part)) takes.last w.says takes.is_line;
  stands = takes.stands;
}

pub fed_more : (l : LineReplay) (begun after rest bytes : List ℕ) → WasFed l begun bytes → IsOneLine rest → after ≡ begun ++ rest
    → WasFed l after (bytes ++ rest)
fed_more l begun after rest bytes w one is = record {
  whole = w.whole;
  cut = subst (AreCut _ _) (sym is) (cut_more bytes begun rest w.whole w.cut one);
  said = w.said;
  says = w.says;
  stands = w.stands;
}

-- ---- stops

stop_of : (l : LineReplay) (begun bytes all : List ℕ) (line : List ℕ) (later : List (List ℕ)) (stop : Stop) (w : WasFed l begun bytes)
    → lines all ≡ w.whole ++ line ∷ later → IsStopAt w.said line stop → IsStopOf all stop
stop_of l begun bytes all line later stop w are at = go stop at
  where
    stops : (Here : List TraceLine → List ℕ → Type 0) → Here w.said line → StopsAt all Here
    stops Here here = record {
      earlier = w.whole;
      line = line;
      later = later;
      lines_are = are;
      before = w.said;
      says = w.says;
      order = stand_in_order w.said w.stands.replayer.order;
      here = here;
    }

    go : (stop : Stop) → IsStopAt w.said line stop → IsStopOf all stop
    go (Wrong wrong) at = stops _ at
    go (Refused (BadTraceLine number)) at = stops _ at
    go (Refused OutOfMemory) at = tt
    go (Refused Read) at = at

-- that of a whole line stays
pub settled : (l : LineReplay) (begun part bytes : List ℕ) (stop : Stop) (w : WasFed l begun bytes) → IsOneLine part
    → IsStopAt w.said (strip_carriage_return (begun ++ part)) stop → (more : List ℕ) → IsStopOf (bytes ++ (part ++ 10 ∷ more)) stop
settled l begun part bytes stop w one at more =
    stop_of l begun bytes (bytes ++ (part ++ 10 ∷ more)) (strip_carriage_return (begun ++ part)) (lines more) stop w
    (lines_with bytes begun part more w.whole w.cut one) at

pub stop_at_end : (l : LineReplay) (begun bytes : List ℕ) (stop : Stop) (w : WasFed l begun bytes) → begun ≢ [] → IsStopAt w.said begun stop → IsStopOf bytes stop
stop_at_end l begun bytes stop w some at = stop_of l begun bytes bytes begun [] stop w (lines_open bytes begun w.whole w.cut some) at

-- ---- the end

-- a count of the steps that a state stands for
abbrev pub Counts : Replayer → ℕ → Type 0
Counts replayer count = (steps : List Step) → StandsFor replayer steps → count ≡ counted (length steps)

replayed : (l : LineReplay) (bytes : List ℕ) (said : List TraceLine) (count : ℕ) → Stands l said → AllZip IsLine (lines bytes) said → Counts l.replayer count
    → IsReplayed bytes count
replayed l bytes said count stands says counts = record {
  said = said;
  says = says;
  order = stand_in_order said stands.replayer.order;
  count_is = counts (steps_of said) stands.replayer;
}

pub ended : (l : LineReplay) (begun bytes : List ℕ) (count : ℕ) → WasFed l begun bytes → begun ≡ [] → Counts l.replayer count → IsReplayed bytes count
ended l begun bytes count w none counts =
    replayed l bytes w.said count w.stands
    (subst (λ (ls : List (List ℕ)). AllZip IsLine ls w.said)
    (sym (lines_at_end bytes begun w.whole w.cut ∙ ap (λ b. w.whole ++ lines b) none ∙ append-nil w.whole)) w.says) counts

pub ended_with : (l m : LineReplay) (begun bytes : List ℕ) (count : ℕ) (w : WasFed l begun bytes) → begun ≢ [] → TakesLine w.said begun m
    → Counts m.replayer count → IsReplayed bytes count
ended_with l m begun bytes count w some takes counts =
    replayed m bytes (w.said ++ takes.last ∷ []) count takes.stands
    (subst (λ (ls : List (List ℕ)). AllZip IsLine ls (w.said ++ takes.last ∷ [])) (sym (lines_open bytes begun w.whole w.cut some))
    (says_push w.whole w.said begun takes.last w.says takes.is_line)) counts

-- ---- one line

number_next : (old new : ℕ) (said : List TraceLine) → old ≡ line_number (length said) → new ≡ min (old + 1) (2 ^ 64 - 1) → new ≡ line_number (length said + 1)
number_next old new said was is = omega (arith, was, is)

-- a line that is no line of a trace
pub bad_line : (l : LineReplay) (said : List TraceLine) (line : List ℕ) (number : ℕ) → Stands l said → number ≡ min (l.number + 1) (2 ^ 64 - 1)
    → ((last : TraceLine) → IsLine line last → ⊥) → IsBadAt number said line
bad_line l said line number stands is none = (number_next l.number number said stands.number is, none)

stands_with : (l m : LineReplay) (said : List TraceLine) (last : TraceLine) → Stands l said → m.number ≡ min (l.number + 1) (2 ^ 64 - 1)
    → StandsFor m.replayer (with_said (steps_of said) last) → Stands m (said ++ last ∷ [])
stands_with l m said last stands number after = record {
  replayer = subst (StandsFor m.replayer) (sym (steps_of-push said last)) after;
  number = number_next l.number m.number said stands.number number ∙ ap line_number (sym (length-append said (last ∷ [])));
}

-- a line whose operation was performed, if it has one
pub takes_line : (l m : LineReplay) (said : List TraceLine) (line : List ℕ) (last : TraceLine) → Stands l said → m.number ≡ min (l.number + 1) (2 ^ 64 - 1)
    → StandsFor m.replayer (with_said (steps_of said) last) → IsLine line last → TakesLine said line m
takes_line l m said line last stands number after is = record { last = last; is_line = is; stands = stands_with l m said last stands number after }

-- a line that stands whole in a piece
pub whole_line : (r : Result (Unit {0}) Stop) (l : LineReplay) (said : List TraceLine) (line begun part : List ℕ) → begun ≡ [] → line ≡ strip_carriage_return part
    → MatchResult r (λ _. TakesLine said line l) (IsStopAt said line)
    → MatchResult r (λ _. TakesLine said (strip_carriage_return (begun ++ part)) l × (begun ≡ [])) (IsStopAt said (strip_carriage_return (begun ++ part)))
whole_line (Ok _) l said line begun part none is takes =
    (subst (λ t. TakesLine said t l) (is ∙ ap (λ b. strip_carriage_return (b ++ part)) (sym none)) takes, none)
whole_line (Err stop) l said line begun part none is at =
    subst (λ t. IsStopAt said t stop) (is ∙ ap (λ b. strip_carriage_return (b ++ part)) (sym none)) at
