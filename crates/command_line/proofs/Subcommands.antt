-- The subcommand that words without a fault name: one of the program's own, and not `help`.
use Rattle.std.proofs.Common.{◌≡◌, ◌∙◌, ◌⊎◌, ◌&&◌, ◌||◌, ℕ, Bool, IsTrue, true, false, not, cond, ap, sym, subst, refl, inl, inr, List, [], ◌∷◌, ◌++◌, Option, None, Some, is_some, get_or}
use Rattle.std.specs.Prelude.{codes, find, fold, map, option_map}
use Rattle.std.specs.List.{list_any}
use Rattle.std.specs.Str.{bytes_eq}
use Rattle.std.proofs.lemmas.Bool.{cases_Bool}
use Rattle.std.proofs.lemmas.Slice.Eq.{bytes_eq-Decides}
use Rattle.clap.specs.Faults.{built_fault, fault_of, is_simple_and_free, level_fault, other_fault, step_fault, turn_fault, walk_fault, word_fault}
use Rattle.clap.specs.Kinds.{Kinds, or_else}
use Rattle.clap.specs.Lexer.{long_of, short_of}
use Rattle.clap.specs.Simple.{App, Shape, argument_words, built, entered, label_of, names_of, rows_at}
use Rattle.clap.specs.Walk.{Held, Names, Outcome, Row, Rule, Step, Text, Waiting, Walk, after_flag, after_step, answers_to, arg_by_index, bundle, done, idle, long_or_other, next, nothing_held, option, plain, plain_word, positional, refused, short_or_plain, stop_after, subcommand, subcommand_met, subcommand_or_other, to_positional, trailing, value, waits, walk_from, walked, walked_from, word_met}
use Rattle.clap.specs.Words.{HasMatchesOf, is_simple, subcommand_name_of, subcommand_of, subcommand_rows_of}
use Rattle.clap.specs.declared.error.kind.ErrorKind.TheVariants as kind
use Rattle.clap.specs.declared.parser.matches.ArgMatches.{ArgMatches}
use Rattle.command_line.specs.Asking.{IsCommandLine}
use Rattle.command_line.specs.Grammar.{tardis}
use Rattle.command_line.specs.inner.Names.{is_subcommand}

-- ---- a word that isn't a subcommand's name

-- the word was taken for a subcommand
abbrev is_stop : Step → Bool
is_stop (next waiting) = false
is_stop (trailing position) = false
is_stop (subcommand name) = true
is_stop value = false

plain_quiet : (c : List Rule) (waiting : Waiting) (word : Text) (h : Held) → is_stop (plain_word c waiting word h).1 ≡ false
plain_quiet c idle word h = refl
plain_quiet c (option id) word h = refl
plain_quiet c positional word h = refl

flag_quiet : (c : List Rule) (waiting : Waiting) (word : Text) (h : Held) (o : Outcome) → is_stop (after_flag c waiting word h o).1 ≡ false
flag_quiet c waiting word h done = refl
flag_quiet c waiting word h (waits id) = refl
flag_quiet c waiting word h plain = plain_quiet c waiting word h
flag_quiet c waiting word h refused = plain_quiet c waiting word h

short_quiet : (c : List Rule) (waiting : Waiting) (word : Text) (o : Option Text) (h : Held) → is_stop (short_or_plain c waiting word o h).1 ≡ false
short_quiet c waiting word None h = plain_quiet c waiting word h
short_quiet c waiting word (Some flags) h = flag_quiet c waiting word (bundle c flags h).0 (bundle c flags h).1

long_quiet : (c : List Rule) (waiting : Waiting) (word : Text) (o : Option (Text × Option Text)) (h : Held) → is_stop (long_or_other c waiting word o h).1 ≡ false
long_quiet c waiting word None h = short_quiet c waiting word (short_of word) h
long_quiet c waiting word (Some p) h = flag_quiet c waiting word _ _

other_quiet : (c : List Rule) (waiting : Waiting) (position : ℕ) (word : Text) (h : Held) → is_stop (subcommand_or_other c None waiting position word h).1 ≡ false
other_quiet c waiting position word h = go (bytes_eq word (45 ∷ 45 ∷ []))
  where
    go : (b : Bool) → is_stop (cond b (h, trailing position) (long_or_other c waiting word (long_of word) h)).1 ≡ false
    go true = refl
    go false = long_quiet c waiting word (long_of word) h

stays : (c : List Rule) (word : Text) (w : Walk) (h : Held) (step : Step) → is_stop step ≡ false → w.stopped ≡ None → (after_step c word w h step).stopped ≡ None
stays c word w h (next waiting) quiet none = none
stays c word w h (trailing position) quiet none = none
stays c word w h (subcommand name) quiet none = absurd cc
stays c word w h value quiet none = go (arg_by_index c w.position)
  where
    go : (o : Option Rule) → (to_positional c o word w h).stopped ≡ None
    go None = none
    go (Some a) = refl

-- ---- a walk without a fault

pub or_none : (a b : Kinds) → or_else a b ≡ [] → (a ≡ []) × (b ≡ [])
or_none [] b e = (refl, e)
or_none (k ∷ ks) b e = absurd cc

-- the walk goes on, or stopped at a subcommand that isn't `help`
abbrev StopsWell : Walk → Type 0
StopsWell w = (w.stopped ≡ None) ⊎ ((q : Text × List Text) × ((w.stopped ≡ Some q) × (bytes_eq q.0 (codes "help") ≡ false)))

help_off : (s : Shape) (name word : Text) (h : Held) → s.disable_help_subcommand ≡ false → other_fault s (Some name) word h ≡ [] → bytes_eq name (codes "help") ≡ false
help_off s name word h on quiet = go (bytes_eq name (codes "help")) s.disable_help_subcommand on quiet
  where
    go : (b d : Bool) → d ≡ false → cond (b && not d) (kind.DisplayHelp ∷ kind.InvalidSubcommand ∷ []) [] ≡ [] → b ≡ false
    go true true on quiet = absurd cc
    go true false on quiet = absurd cc
    go false d on quiet = refl

turns : (s : Shape) (names : Names) (w : Walk) (word : Text) (is_trailing : Bool) (met : Option Text) → s.disable_help_subcommand ≡ false → w.stopped ≡ None
    → cond is_trailing [] (other_fault s met word w.held) ≡ []
    → StopsWell (after_step s.rules word w
    (cond is_trailing (w.held, value) (subcommand_or_other s.rules met w.waiting w.position word w.held)).0
    (cond is_trailing (w.held, value) (subcommand_or_other s.rules met w.waiting w.position word w.held)).1)
turns s names w word true met on none quiet = inl (stays s.rules word w w.held value refl none)
turns s names w word false None on none quiet =
    inl (stays s.rules word w (subcommand_or_other s.rules None w.waiting w.position word w.held).0
    (subcommand_or_other s.rules None w.waiting w.position word w.held).1 (other_quiet s.rules w.waiting w.position word w.held) none)
turns s names w word false (Some name) on none quiet = inr ((name, []), (refl, help_off s name word w.held on quiet))

-- one more word
one_word : (s : Shape) (names : Names) (w : Walk) (word : Text) → s.disable_help_subcommand ≡ false → w.stopped ≡ None → turn_fault s names w word ≡ []
    → StopsWell (walked s.rules names w word)
unfolding walked
one_word s names w word on none quiet =
    let met = word_met s.rules names w.is_trailing w.waiting w.position word w.held in
    let rest = step_fault s w.position met.0 met.1 in
    let both : or_else (word_fault s names w.is_trailing w.waiting word w.held) rest ≡ [] =
    sym (ap (λ (o : Option (Text × List Text)). cond (is_some o) [] (or_else (word_fault s names w.is_trailing w.waiting word w.held) rest)) none) ∙ quiet in
    let passed = (or_none (word_fault s names w.is_trailing w.waiting word w.held) rest both).0 in
    subst (λ (o : Option (Text × List Text)). StopsWell (walked_from s.rules names o w word)) (sym none)
    (turns s names w word w.is_trailing (subcommand_met names w.waiting word) on none passed)

-- a stopped walk keeps the subcommand's name
keeps_name : (c : List Rule) (names : Names) (w : Walk) (q p : Text × List Text) (words : List Text) → w.stopped ≡ Some q
    → (fold (walked c names) w words).stopped ≡ Some p → q.0 ≡ p.0
unfolding walked
keeps_name c names w q p [] is e = let same : q ≡ p = (let both : Some q ≡ Some p = sym is ∙ e in cc) in ap (λ (x : Text × List Text). x.0) same
keeps_name c names w q p (word ∷ words) is e =
    keeps_name c names (walked c names w word) (q.0, q.1 ++ word ∷ []) p words
    (ap (λ (o : Option (Text × List Text)). (walked_from c names o w word).stopped) is) e

not_help : (s : Shape) (names : Names) (w : Walk) (words : List Text) (p : Text × List Text) → s.disable_help_subcommand ≡ false → w.stopped ≡ None
    → walk_fault s names w words ≡ [] → (fold (walked s.rules names) w words).stopped ≡ Some p → bytes_eq p.0 (codes "help") ≡ false
unfolding walk_fault
not_help s names w [] p on none quiet e = absurd (let wrong : None ≡ Some p = sym none ∙ e in cc)
not_help s names w (word ∷ words) p on none quiet e =
    let parts = or_none (turn_fault s names w word) (walk_fault s names (walked s.rules names w word) words) quiet in
    elim (one_word s names w word on none parts.0) [
      | inl goes ↦ not_help s names (walked s.rules names w word) words p on goes parts.1 e
      | inr (q, (is, off)) ↦
          subst (λ (t : Text). bytes_eq t (codes "help") ≡ false) (keeps_name s.rules names (walked s.rules names w word) q p words is e) off
    ]

-- ---- the subcommand that is entered

-- it is named as one of these
abbrev pub IsOneOf : Text → List Shape → Type 0
IsOneOf name [] = ⊥
IsOneOf name (s ∷ subs) = (name ≡ s.name) ⊎ IsOneOf name subs

-- the first that a name means
abbrev found_in : Text × List Text → List Shape → Option (Text × List Row)
found_in p subs = option_map (λ s. rows_at s p.1) (find (λ s. answers_to p.0 (label_of s)) subs)

-- where the last isn't meant, one of those before it is
one_before : (subs : List Shape) (last : Shape) (p : Text × List Text) (named : Text × List Row) → answers_to p.0 (label_of last) ≡ false
    → found_in p (subs ++ last ∷ []) ≡ Some named → IsOneOf named.0 subs
one_before [] last p named off e = go (answers_to p.0 (label_of last)) off e
  where
    go : (b : Bool) → b ≡ false → option_map (λ s. rows_at s p.1) (cond b (Some last) None) ≡ Some named → ⊥
    go true off e = absurd cc
    go false off e = absurd cc
one_before (s ∷ subs) last p named off e = go (answers_to p.0 (label_of s)) (one_before subs last p named off) e
  where
    later : Option Shape
    later = find (λ s. answers_to p.0 (label_of s)) (subs ++ last ∷ [])

    go : (b : Bool) → (option_map (λ s. rows_at s p.1) later ≡ Some named → IsOneOf named.0 subs)
        → option_map (λ s. rows_at s p.1) (cond b (Some s) later) ≡ Some named → IsOneOf named.0 (s ∷ subs)
    go true others e = let is : rows_at s p.1 ≡ named = cc in inl (ap (λ (n : Text × List Row). n.0) (sym is))
    go false others e = inr (others e)

-- a name that isn't `help`
help_unmet : (t : Text) → bytes_eq t (codes "help") ≡ false → answers_to t (codes "help", []) ≡ false
help_unmet t off =
    elim (cases_Bool (bytes_eq (codes "help") t)) [
      | inl same ↦
          let is = (bytes_eq-Decides (codes "help") t).0 same in
          let wrong : true ≡ false = sym ((bytes_eq-Decides t (codes "help")).1 (sym is)) ∙ off in
          absurd cc
      | inr other ↦ rw other refl
    ]

-- a command without a fault is walked over without one
level_walk : (s : Shape) (names : Names) (h : Held) (words : List Text) (has : Bool) (below : Kinds) → level_fault s names h words has below ≡ []
    → walk_fault s names (walk_from h) words ≡ []
level_walk s names h words has below quiet = (or_none (walk_fault s names (walk_from h) words) _ quiet).0

built_walk : (a : App) (h : Held) (words : List Text) → built_fault a h words ≡ [] → walk_fault a.top (names_of a) (walk_from h) words ≡ []
built_walk a h words quiet = level_walk a.top (names_of a) h words _ _ quiet

-- the subcommand of this place
abbrev sub : ℕ → Shape
sub i = get_or (built tardis).subs i (built tardis).top

-- its own subcommands
abbrev pub own : List Shape
own = sub 0 ∷ sub 1 ∷ sub 2 ∷ sub 3 ∷ sub 4 ∷ sub 5 ∷ sub 6 ∷ sub 7 ∷ sub 8 ∷ sub 9 ∷ []

names_own : (words : List Text) (named : Text × List Row) → fault_of tardis words ≡ [] → subcommand_of tardis words ≡ Some named
    → IsOneOf named.0 own
names_own words named quiet is = go (stop_after (built tardis).top.rules (names_of (built tardis)) (argument_words tardis words)) refl is
  where
    go : (stop : Option (Text × List Text)) → stop_after (built tardis).top.rules (names_of (built tardis)) (argument_words tardis words) ≡ stop
        → entered (built tardis) stop ≡ Some named → IsOneOf named.0 own
    go None was e = absurd cc
    go (Some p) was e =
        let well = built_walk (built tardis) nothing_held (argument_words tardis words) quiet in
        let off = not_help (built tardis).top (names_of (built tardis)) (walk_from nothing_held) (argument_words tardis words) p refl refl well was in
        one_before own (sub 10) p named (help_unmet p.0 off) e

-- so it is one of their names
is_among : (name : Text) (subs : List Shape) → IsOneOf name subs → IsTrue (list_any (bytes_eq name) (map (λ s. s.name) subs))
is_among name [] is = absurd is
is_among name (s ∷ subs) (inl is) = rw ((bytes_eq-Decides name s.name).1 is) refl
is_among name (s ∷ subs) (inr is) = go (bytes_eq name s.name) (is_among name subs is)
  where
    go : (b : Bool) → IsTrue (list_any (bytes_eq name) (map (λ s. s.name) subs)) → IsTrue (b || list_any (bytes_eq name) (map (λ s. s.name) subs))
    go true among = refl
    go false among = among

pub subcommand_named : (words : List Text) (named : Text × List Row) → fault_of tardis words ≡ [] → subcommand_of tardis words ≡ Some named
    → IsTrue (is_subcommand named.0)
subcommand_named words named quiet is = is_among named.0 own (names_own words named quiet is)

-- ---- the subcommand that was found

-- what is found of it
abbrev found_by : {B : Type 0} → (B → Text) → (B → List Row) → B → Text × List Row
found_by name rows b = (name b, rows b)

-- its name and its rows, found one by one
both_found : {B : Type 0} (o : Option B) (name : B → Text) (rows : B → List Row) (n : Text) (r : List Row) → Some n ≡ option_map name o
    → Some r ≡ option_map (λ (p : Text × List Row). p.1) (option_map (found_by name rows) o) → option_map (found_by name rows) o ≡ Some (n, r)
both_found None name rows n r e f = absurd cc
both_found (Some b) name rows n r e f =
    let n-is : n ≡ name b = cc in
    let r-is : r ≡ rows b = cc in
    rw (n-is, r-is) refl

-- the words are a command line, and it is the subcommand that they name
pub found_named : (app : App) (words : List Text) (matches : ArgMatches) (n : Text) (r : List Row) → app ≡ tardis → HasMatchesOf app words matches
    → (is_simple_and_free app ≡ true → fault_of app words ≡ []) → Some n ≡ subcommand_name_of matches
    → Some r ≡ option_map (λ (p : Text × List Row). p.1) (subcommand_rows_of matches) → IsCommandLine words × (subcommand_of tardis words ≡ Some (n, r))
found_named app words matches n r is has free name rows = (
  sym (ap (λ (a : App). fault_of a words) is) ∙ free (ap is_simple_and_free is),
  sym (ap (λ (a : App). subcommand_of a words) is) ∙ sym (has (ap is_simple is)).1 ∙ both_found _ _ _ n r name rows,
)
