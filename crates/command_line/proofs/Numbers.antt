-- Each option that takes a number has one, in words without a fault.
use Rattle.std.proofs.Common.{◌≡◌, ◌∙◌, Bool, true, false, cond, refl, ap, sym, subst, List, [], ◌∷◌, Option, None, Some, not, ◌||◌}
use Rattle.std.specs.Prelude.{IfSome, IsTrue, find, option_and_then, option_map, slice_get}
use Rattle.std.specs.List.{AllByRecursion, list_all}
use Rattle.std.specs.Option.{option_map_or}
use Rattle.std.specs.Str.{bytes_eq}
use Rattle.std.proofs.lemmas.Slice.Eq.{bytes_eq-Decides}
use Rattle.clap.specs.Facts.{parser_of_value}
use Rattle.clap.specs.Faults.{entered_fault, fault_of, level_fault, walk_fault}
use Rattle.clap.specs.Simple.{Shape, argument_words, built, entered, label_of, names_of, rows_at}
use Rattle.clap.specs.ValueTests.{accepts}
use Rattle.clap.specs.Values.{read_as, reading_of}
use Rattle.clap.specs.Walk.{Row, Rule, Text, answers_to, nothing_held, row_text, stop_after, walk_from}
use Rattle.clap.specs.Words.{subcommand_of}
use Rattle.clap.specs.declared.builder.value_parser.Reading.{Reading}
use Rattle.clap.specs.declared.builder.value_parser.Reading.TheVariants.{AsWritten}
use Rattle.clap.specs.declared.builder.value_parser.ValueParser.{ValueParser}
use Rattle.clap.specs.declared.builder.value_parser.ValueParser.TheVariants.{Unsigned}
use Rattle.clap.proofs.ValueTestLemmas.{accepts-Accepts}
use Rattle.clap.proofs.WalkLemmas.{both}
use Rattle.command_line.specs.Asking.{IsNumber}
use Rattle.command_line.specs.Grammar.{tardis}
use Rattle.command_line.specs.inner.Numbers.{HasNumbers, takes_number}
use Rattle.command_line.proofs.Subcommands.{or_none}
use Rattle.command_line.proofs.Values.{EachFits, Fits, TakesAs, found_of_all, rows_fit}

-- ---- the arguments

-- an argument of such a name takes numbers, and they are read as they are written
abbrev Takes : Text → Text → Type 0
Takes id text = IsTrue (takes_number id) → IsNumber text

abbrev Reads : Text → Reading → Type 0
Reads id how = IsTrue (takes_number id) → how ≡ AsWritten

abbrev is_unsigned : ValueParser → Bool
is_unsigned (Unsigned low high) = true
is_unsigned other = false

abbrev is_fit : Rule → Bool
is_fit a = not (takes_number a.id) || is_unsigned (parser_of_value a.parser)

unsigned : (named : Bool) (p : ValueParser) → (not named || is_unsigned p) ≡ true → named ≡ true → is_unsigned p ≡ true
unsigned true p fit is = fit
unsigned false p fit is = absurd cc

number_taken : (ignore_case : Bool) (p : ValueParser) (text : Text) → is_unsigned p ≡ true → accepts ignore_case p text ≡ true → IsNumber text
number_taken ignore_case (Unsigned low high) text is passes = let all = accepts-Accepts ignore_case (Unsigned low high) text passes in (all.0, all.1)
number_taken ignore_case other text is passes = absurd cc

as_written : (p : ValueParser) → is_unsigned p ≡ true → reading_of p ≡ AsWritten
as_written (Unsigned low high) is = refl
as_written other is = absurd cc

fit_takes : (a : Rule) → is_fit a ≡ true → TakesAs Takes Reads a
fit_takes a fit = record {
  takes = λ v passes named. number_taken a.ignore_case (parser_of_value a.parser) v (unsigned (takes_number a.id) (parser_of_value a.parser) fit named) passes;
  reads = λ named. as_written (parser_of_value a.parser) (unsigned (takes_number a.id) (parser_of_value a.parser) fit named);
}

each_of : {X : Type 0} (p : X → Bool) (P : X → Type 0) → ((x : X) → p x ≡ true → P x) → (xs : List X) → list_all p xs ≡ true → AllByRecursion P xs
each_of p P gives [] all = tt
each_of p P gives (x ∷ xs) all = let parts = both (p x) (list_all p xs) all in (gives x parts.0, each_of p P gives xs parts.1)

abbrev SubFits : Shape → Type 0
SubFits s = AllByRecursion (TakesAs Takes Reads) s.rules

subs_fit : AllByRecursion SubFits (built tardis).subs
subs_fit = each_of (λ s. list_all is_fit s.rules) SubFits (λ s all. each_of is_fit (TakesAs Takes Reads) fit_takes s.rules all) (built tardis).subs refl

-- ---- the rows

found_passes : {X : Type 0} (p : X → Bool) (xs : List X) (x : X) → find p xs ≡ Some x → p x ≡ true
found_passes p [] x found = absurd cc
found_passes {X} p (y ∷ ys) x found = go (p y) refl found (found_passes p ys x)
  where
    go : (b : Bool) → p y ≡ b → cond b (Some y) (find p ys) ≡ Some x → (find p ys ≡ Some x → p x ≡ true) → p x ≡ true
    go true is found rest = let same : y ≡ x = cc in ap p (sym same) ∙ is
    go false is found rest = rest found

first_is_number : (id text : Text) (how : Reading) (values : List Text) → IsTrue (takes_number id) → AllByRecursion (Takes id) values → how ≡ AsWritten
    → option_map (read_as how) (slice_get values 0) ≡ Some text → IsNumber text
first_is_number id text how [] named taken plain at = absurd cc
first_is_number id text how (v ∷ vs) named taken plain at =
    let same : v ≡ text = (let read : Some v ≡ Some text = ap (λ (r : Reading). Some (read_as r v)) (sym plain) ∙ at in cc) in
    subst IsNumber same (taken.0 named)

row_is_number : (name text : Text) (o : Option Row) → IsTrue (takes_number name) → IfSome o (Fits Takes Reads) → IfSome o (λ r. r.id ≡ name)
    → option_and_then row_text o ≡ Some text → IsNumber text
row_is_number name text None named fit is at = absurd cc
row_is_number name text (Some r) named fit is at =
    let named_row : IsTrue (takes_number r.id) = ap takes_number is ∙ named in
    first_is_number r.id text r.reading r.values named_row fit.0 (fit.1 named_row) at

have_numbers : (rows : List Row) → EachFits Takes Reads rows → HasNumbers rows
have_numbers rows fit name text named at =
    row_is_number name text (find (λ r. bytes_eq r.id name) rows) named (found_of_all (Fits Takes Reads) _ rows fit) (go _ refl) at
  where
    go : (o : Option Row) → find (λ r. bytes_eq r.id name) rows ≡ o → IfSome o (λ r. r.id ≡ name)
    go None is = tt
    go (Some r) is = (bytes_eq-Decides r.id name).0 (found_passes (λ r. bytes_eq r.id name) rows r is)

-- ---- the words

pub numbers_named : (words : List Text) (named : Text × List Row) → fault_of tardis words ≡ [] → subcommand_of tardis words ≡ Some named → HasNumbers named.1
numbers_named words named quiet is =
    let after_walk = or_none (walk_fault (built tardis).top (names_of (built tardis)) (walk_from nothing_held) (argument_words tardis words)) _ quiet in
    go stop (or_none (entered_fault (built tardis) stop) _ after_walk.1).0 is
  where
    stop : Option (Text × List Text)
    stop = stop_after (built tardis).top.rules (names_of (built tardis)) (argument_words tardis words)

    in_sub : (rest : List Text) (o : Option Shape) → IfSome o SubFits → option_map_or (λ s. level_fault s [] nothing_held rest false []) o [] ≡ []
        → option_map (λ s. rows_at s rest) o ≡ Some named → HasNumbers named.1
    in_sub rest None fits quiet is = absurd cc
    in_sub rest (Some s) fits quiet is =
        let same : rows_at s rest ≡ named = cc in
        subst (λ (n : Text × List Row). HasNumbers n.1) same (have_numbers (rows_at s rest).1 (rows_fit Takes Reads s [] rest false [] fits quiet))

    go : (o : Option (Text × List Text)) → entered_fault (built tardis) o ≡ [] → entered (built tardis) o ≡ Some named → HasNumbers named.1
    go None quiet is = absurd cc
    go (Some p) quiet is =
        in_sub p.1 (find (λ s. answers_to p.0 (label_of s)) (built tardis).subs) (found_of_all SubFits (λ s. answers_to p.0 (label_of s)) (built tardis).subs subs_fit) quiet is
