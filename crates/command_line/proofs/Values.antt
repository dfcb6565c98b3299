-- What words without a fault give: each value of a row is one that an argument of its id takes, read as that argument reads.
use Rattle.std.proofs.Common.{◌≡◌, ℕ, zero, suc, ◌+◌, arith, Bool, true, false, cond, refl, sym, subst, List, [], ◌∷◌, ◌++◌, Option, None, Some, is_some, length, drop, ◌&&◌, ◌||◌}
use Rattle.std.specs.Prelude.{IfSome, find, fold, min, encode_utf8, slice_get}
use Rattle.std.specs.List.{AllByRecursion}
use Rattle.std.specs.Option.{option_map_or}
use Rattle.std.specs.Str.{bytes_eq, chars}
use Rattle.std.proofs.lemmas.Bool.Decides.{nat_tests}
use Rattle.std.proofs.lemmas.Slice.Eq.{bytes_eq-Decides}
use Rattle.clap.specs.Facts.{parser_of_value, unwrap_or_range}
use Rattle.clap.specs.Faults.{action_fault, bundle_fault, bundle_step_fault, count_fault, default_fault, defaults_fault, flag_word_fault, flags_fault, given_default_fault, level_fault, long_fault, option_fault, other_fault, positional_fault, react_fault, repeat_fault, settle_fault, short_fault, step_fault, stray_fault, turn_fault, use_fault, values_fault, walk_fault, word_fault}
use Rattle.clap.specs.Kinds.{Kinds, or_else, range_kinds, request_kinds, value_kinds}
use Rattle.clap.specs.Lexer.{long_of, short_of}
use Rattle.clap.specs.Matches.{count_text}
use Rattle.clap.specs.Simple.{Shape}
use Rattle.clap.specs.ValueTests.{accepts}
use Rattle.clap.specs.Values.{refused_kind}
use Rattle.clap.specs.Walk.{Held, Names, Outcome, Row, Rule, Step, Text, Waiting, Walk, action_of, after_flag, after_step, arg_by_id, arg_by_index, arg_by_long, arg_by_short, at_row, attached_value, bundle_met, bundle_step, count_of, counted, default_rows, done, flag_met, has_row, idle, is_empty, is_pending, long_met, long_or_other, more_values, most_values, new_count, next, nothing_held, option, option_met, option_word, plain, plain_word, positional, reacted, reading_by, refused, rows_after, settled, settled_rows, short_met, short_or_plain, subcommand, subcommand_met, subcommand_or_other, takes_several, takes_values, to_positional, trailing, used, used_as, used_by_id, value, values_or_missing, waits, walk, walk_from, walked, walked_from, with_count, with_default, with_values, without, word_met}
use Rattle.clap.specs.declared.builder.action.ArgAction.{ArgAction}
use Rattle.clap.specs.declared.builder.action.ArgAction.TheVariants.{Set, SetTrue, SetFalse, Append, Count}
use Rattle.clap.specs.declared.builder.value_parser.Reading.{Reading}
use Rattle.clap.specs.declared.builder.value_parser.ValueParser.{ValueParser}
use Rattle.clap.specs.declared.error.kind.ErrorKind.TheVariants as kind
use Rattle.clap.specs.declared.parser.matches.ValueSource.{ValueSource}
use Rattle.clap.specs.declared.parser.matches.ValueSource.TheVariants.{CommandLine, DefaultValue}
use Rattle.command_line.proofs.Subcommands.{or_none}

-- ---- lists

all_append : {X : Type 0} (P : X → Type 0) (xs ys : List X) → AllByRecursion P xs → AllByRecursion P ys → AllByRecursion P (xs ++ ys)
all_append P [] ys p q = q
all_append P (x ∷ xs) ys p q = (p.0, all_append P xs ys p.1 q)

-- what is found is one of all
pub found_of_all : {X : Type 0} (P : X → Type 0) (p : X → Bool) (xs : List X) → AllByRecursion P xs → IfSome (find p xs) P
found_of_all P p [] all = tt
found_of_all {X} P p (x ∷ xs) all = go (p x) (found_of_all P p xs all.1)
  where
    go : (b : Bool) → IfSome (find p xs) P → IfSome (cond b (Some x) (find p xs)) P
    go true rest = all.0
    go false rest = rest

-- a value that isn't refused
value_taken : (ignore_case : Bool) (p : ValueParser) (text : Text) → value_kinds ignore_case p text ≡ [] → accepts ignore_case p text ≡ true
value_taken ignore_case p text quiet = go (accepts ignore_case p text) quiet
  where
    go : (b : Bool) → cond b [] (refused_kind p ∷ []) ≡ [] → b ≡ true
    go true quiet = refl
    go false quiet = absurd cc

-- ---- rows

-- what holds of an id and each value that an argument of it takes, and of how its values are read
module _ (Takes : Text → Text → Type 0) (Reads : Text → Reading → Type 0) where
  pub record TakesAs (a : Rule) : Type 0 where
    pub takes : (v : Text) → accepts a.ignore_case (parser_of_value a.parser) v ≡ true → Takes a.id v
    pub reads : Reads a.id (reading_by a)

  abbrev pub Fits : Row → Type 0
  Fits r = AllByRecursion (Takes r.id) r.values × Reads r.id r.reading

  abbrev pub EachFits : List Row → Type 0
  EachFits rows = AllByRecursion Fits rows

  changed_fits : (id : Text) (change : Row → List Row) (missing : List Row) → ((r : Row) → r.id ≡ id → Fits r → EachFits (change r)) → EachFits missing
      → (rows : List Row) → EachFits rows → EachFits (at_row id change missing rows)
  changed_fits id change missing on none [] fit = none
  changed_fits id change missing on none (r ∷ rows) fit = go (bytes_eq r.id id) refl (changed_fits id change missing on none rows fit.1)
    where
      go : (b : Bool) → bytes_eq r.id id ≡ b → EachFits (at_row id change missing rows) → EachFits (cond b (change r ++ rows) (r ∷ at_row id change missing rows))
      go true same rest = all_append Fits (change r) rows (on r ((bytes_eq-Decides r.id id).0 same) fit.0) fit.1
      go false other rest = (fit.0, rest)

  without_fits : (id : Text) (rows : List Row) → EachFits rows → EachFits (without id rows)
  without_fits id rows fit = changed_fits id (λ r. []) [] (λ r same fits. tt) tt rows fit

  values_fit : (id : Text) (how : Reading) (s : ValueSource) (values : List Text) (rows : List Row) → AllByRecursion (Takes id) values → Reads id how
      → EachFits rows → EachFits (with_values id how s values rows)
  values_fit id how s values rows taken read fit =
      changed_fits id (more_values s values) _
      (λ r same fits. ((all_append (Takes r.id) r.values values fits.0 (subst (λ (t : Text). AllByRecursion (Takes t) values) (sym same) taken), fits.1), tt))
      ((taken, read), tt) rows fit

  count_fits : (id : Text) (how : Reading) (s : ValueSource) (n : ℕ) (rows : List Row) → Takes id (count_text n) → Reads id how
      → EachFits rows → EachFits (with_count id how s n rows)
  count_fits id how s n rows taken read fit =
      changed_fits id (new_count s n) _
      (λ r same fits. (
        (all_append (Takes r.id) r.values (count_text n ∷ []) fits.0 (subst (λ (t : Text). Takes t (count_text n)) (sym same) taken, tt), fits.1),
        tt,
      ))
      (((taken, tt), read), tt) rows fit

  -- ---- one use of an argument

  taken : (a : Rule) (vs : List Text) → TakesAs a → values_fault a vs ≡ [] → AllByRecursion (Takes a.id) vs
  taken a [] good quiet = tt
  taken a (v ∷ vs) good quiet =
      let parts = or_none (value_kinds a.ignore_case (parser_of_value a.parser) v) (values_fault a vs) quiet in
      (good.takes v (value_taken a.ignore_case (parser_of_value a.parser) v parts.0), taken a vs good parts.1)

  counted_fits : (a : Rule) (raw : List Text) (rows : List Row) → TakesAs a → count_fault a raw rows ≡ [] → EachFits rows
      → EachFits (counted a.id (reading_by a) raw rows)
  counted_fits a [] rows good quiet fit =
      count_fits a.id (reading_by a) CommandLine (min (count_of a.id rows + 1) 255) (without a.id rows) (good.takes _ (value_taken a.ignore_case (parser_of_value a.parser) _ quiet)) good.reads
      (without_fits a.id rows fit)
  counted_fits a (v ∷ vs) rows good quiet fit =
      values_fit a.id (reading_by a) CommandLine (v ∷ vs) (without a.id rows) (taken a (v ∷ vs) good quiet) good.reads (without_fits a.id rows fit)

  set_fits : (again : Bool) (a : Rule) (raw : List Text) (rows : List Row) → TakesAs a → or_else (repeat_fault again a.id rows) (values_fault a raw) ≡ []
      → EachFits rows → EachFits (with_values a.id (reading_by a) CommandLine raw (without a.id rows))
  set_fits again a raw rows good quiet fit =
      values_fit a.id (reading_by a) CommandLine raw (without a.id rows)
      (taken a raw good (or_none (repeat_fault again a.id rows) (values_fault a raw) quiet).1) good.reads (without_fits a.id rows fit)

  acts_fit : (x : ArgAction) (again : Bool) (a : Rule) (raw : List Text) (rows : List Row) → TakesAs a → action_fault x again a raw rows ≡ []
      → EachFits rows → EachFits (used_as x a.id (reading_by a) raw rows)
  acts_fit Set again a raw rows good quiet fit = set_fits again a raw rows good quiet fit
  acts_fit SetTrue again a raw rows good quiet fit = set_fits again a raw rows good quiet fit
  acts_fit SetFalse again a raw rows good quiet fit = set_fits again a raw rows good quiet fit
  acts_fit Append again a raw rows good quiet fit = values_fit a.id (reading_by a) CommandLine raw rows (taken a raw good quiet) good.reads fit
  acts_fit Count again a raw rows good quiet fit = counted_fits a raw rows good quiet fit
  acts_fit other again a raw rows good quiet fit = fit

  used_fits : (again : Bool) (a : Rule) (values : List Text) (rows : List Row) → TakesAs a → use_fault again a values rows ≡ [] → EachFits rows
      → EachFits (used a values rows)
  used_fits again a values rows good quiet fit =
      acts_fit (action_of a) again a (values_or_missing a values) rows good
      (or_none (range_kinds (unwrap_or_range a.range).start_inclusive (most_values a) (length values)) _ quiet).1 fit

  -- ---- a word

  module _ (s : Shape) (each : AllByRecursion TakesAs s.rules) where
    abbrev again : Bool
    again = s.args_override_self

    settled_fits : (h : Held) → settle_fault s.rules again h ≡ [] → EachFits h.rows → EachFits (settled s.rules h).rows
    settled_fits h quiet fit = go h.pending quiet
      where
        by : (o : Option Rule) (values : List Text) → IfSome o TakesAs → option_map_or (λ a. use_fault again a values h.rows) o [] ≡ []
            → EachFits (used_by_id o values h.rows)
        by None values good quiet = fit
        by (Some a) values good quiet = used_fits again a values h.rows good quiet fit

        go : (o : Option (Text × List Text)) → option_map_or (λ p. option_map_or (λ a. use_fault again a p.1 h.rows) (arg_by_id s.rules p.0) []) o [] ≡ []
            → EachFits (settled_rows s.rules o h.rows)
        go None quiet = fit
        go (Some p) quiet = by (arg_by_id s.rules p.0) p.1 (found_of_all TakesAs (λ a. bytes_eq a.id p.0) s.rules each) quiet

    reacted_fits : (a : Rule) (values : List Text) (h : Held) → TakesAs a → react_fault s.rules again a values h ≡ [] → EachFits h.rows
        → EachFits (reacted s.rules a values h).rows
    reacted_fits a values h good quiet fit =
        let parts = or_none (settle_fault s.rules again h) (use_fault again a values (settled s.rules h).rows) quiet in
        used_fits again a values (settled s.rules h).rows good parts.1 (settled_fits h parts.0 fit)

    option_fits : (a : Rule) (v : Option Text) (h : Held) → TakesAs a → option_fault s.rules again a v h ≡ [] → EachFits h.rows
        → EachFits (option_met s.rules a v h).0.rows
    option_fits a (Some v) h good quiet fit = reacted_fits a (v ∷ []) h good quiet fit
    option_fits a None h good quiet fit = settled_fits h quiet fit

    long_fits : (o : Option Rule) (v : Option Text) (h : Held) → IfSome o TakesAs → long_fault s.rules again o v h ≡ [] → EachFits h.rows
        → EachFits (long_met s.rules o v h).0.rows
    long_fits None v h good quiet fit = fit
    long_fits (Some a) v h good quiet fit = go (takes_values a) v quiet
      where
        go : (b : Bool) (v : Option Text)
            → cond b (option_fault s.rules again a v h) (cond (is_some v) (kind.TooManyValues ∷ []) (react_fault s.rules again a [] h)) ≡ []
            → EachFits (cond b (option_met s.rules a v h) (flag_met s.rules a v h)).0.rows
        go true v quiet = option_fits a v h good quiet fit
        go false None quiet = reacted_fits a [] h good quiet fit
        go false (Some v) quiet = fit

    short_fits : (o : Option Rule) (rest : Text) (h : Held) (fault : Held → Kinds) (after : Held → Held × Outcome) → IfSome o TakesAs
        → ((g : Held) → fault g ≡ [] → EachFits g.rows → EachFits (after g).0.rows) → short_fault s.rules again o rest h fault ≡ [] → EachFits h.rows
        → EachFits (short_met s.rules o rest h after).0.rows
    short_fits None rest h fault after good later quiet fit = fit
    short_fits (Some a) rest h fault after good later quiet fit = go (takes_values a) quiet
      where
        go : (b : Bool)
            → cond b (option_fault s.rules again a (attached_value rest) h) (or_else (react_fault s.rules again a [] h) (fault (reacted s.rules a [] h))) ≡ []
            → EachFits (cond b (option_met s.rules a (attached_value rest) h) (after (reacted s.rules a [] h))).0.rows
        go true quiet = option_fits a (attached_value rest) h good quiet fit
        go false quiet =
            let parts = or_none (react_fault s.rules again a [] h) (fault (reacted s.rules a [] h)) quiet in
            later (reacted s.rules a [] h) parts.1 (reacted_fits a [] h good parts.0 fit)

    bundle_fits : (k : ℕ) (flags : Text) (skip : ℕ) (so_far : Outcome) (h : Held) → flags_fault s.rules again k flags skip h ≡ [] → EachFits h.rows
        → EachFits (bundle_met s.rules k flags skip so_far h).0.rows
    unfolding flags_fault bundle_met
    bundle_fits zero flags skip so_far h quiet fit = fit
    bundle_fits (suc k) flags skip so_far h quiet fit = go (slice_get (chars flags) 0) skip quiet (bundle_fits k)
      where
        go : (o : Option ℕ) (skip : ℕ) → bundle_step_fault s.rules again o flags skip h (flags_fault s.rules again k) ≡ []
            → ((flags : Text) (skip : ℕ) (so_far : Outcome) (g : Held) → flags_fault s.rules again k flags skip g ≡ [] → EachFits g.rows
            → EachFits (bundle_met s.rules k flags skip so_far g).0.rows)
            → EachFits (bundle_step s.rules o flags skip so_far h (bundle_met s.rules k)).0.rows
        go None skip quiet later = fit
        go (Some x) zero quiet later =
            let rest = drop (length (encode_utf8 x)) flags in
            short_fits (arg_by_short s.rules x) rest h (flags_fault s.rules again k rest 0) (bundle_met s.rules k rest 0 done)
            (found_of_all TakesAs _ s.rules each) (later rest 0 done) quiet fit
        go (Some x) (suc skip) quiet later = later (drop (length (encode_utf8 x)) flags) skip so_far h quiet fit

    -- what is made of a word that is no flag, or of a flag, leaves the rows
    plain_fits : (waiting : Waiting) (word : Text) (h : Held) → EachFits h.rows → EachFits (plain_word s.rules waiting word h).0.rows
    plain_fits idle word h fit = fit
    plain_fits positional word h fit = fit
    plain_fits (option id) word h fit = go (arg_by_id s.rules id)
      where
        go : (o : Option Rule) → EachFits (option_word o id word h).0.rows
        go None = fit
        go (Some a) = fit

    flag_fits : (waiting : Waiting) (word : Text) (h : Held) (o : Outcome) → EachFits h.rows → EachFits (after_flag s.rules waiting word h o).0.rows
    flag_fits waiting word h done fit = fit
    flag_fits waiting word h (waits id) fit = fit
    flag_fits waiting word h plain fit = plain_fits waiting word h fit
    flag_fits waiting word h refused fit = plain_fits waiting word h fit

    other_fits : (waiting : Waiting) (word : Text) (o : Option (Text × Option Text)) (h : Held) → flag_word_fault s.rules again o word h ≡ [] → EachFits h.rows
        → EachFits (long_or_other s.rules waiting word o h).0.rows
    other_fits waiting word (Some p) h quiet fit =
        flag_fits waiting word _ _ (long_fits (arg_by_long s.rules p.0) p.1 h (found_of_all TakesAs _ s.rules each) quiet fit)
    other_fits waiting word None h quiet fit = go (short_of word) quiet
      where
        go : (o : Option Text) → option_map_or (λ flags. bundle_fault s.rules again flags h) o [] ≡ [] → EachFits (short_or_plain s.rules waiting word o h).0.rows
        go None quiet = plain_fits waiting word h fit
        go (Some flags) quiet = flag_fits waiting word _ _ (bundle_fits (length flags) flags h.skip plain (record h { skip = 0 }) quiet fit)

    met_fits : (names : Names) (w : Walk) (word : Text) → word_fault s names w.is_trailing w.waiting word w.held ≡ [] → EachFits w.held.rows
        → EachFits (word_met s.rules names w.is_trailing w.waiting w.position word w.held).0.rows
    met_fits names w word quiet fit = go w.is_trailing (subcommand_met names w.waiting word) quiet
      where
        plainly : (b : Bool) → cond b [] (flag_word_fault s.rules again (long_of word) word w.held) ≡ []
            → EachFits (cond b (w.held, trailing w.position) (long_or_other s.rules w.waiting word (long_of word) w.held)).0.rows
        plainly true quiet = fit
        plainly false quiet = other_fits w.waiting word (long_of word) w.held quiet fit

        go : (b : Bool) (o : Option Text) → cond b [] (other_fault s o word w.held) ≡ []
            → EachFits (cond b (w.held, value) (subcommand_or_other s.rules o w.waiting w.position word w.held)).0.rows
        go true o quiet = fit
        go false (Some name) quiet = fit
        go false None quiet = plainly (bytes_eq word (45 ∷ 45 ∷ [])) quiet

    step_fits : (w : Walk) (word : Text) (h : Held) (step : Step) → step_fault s w.position h step ≡ [] → EachFits h.rows
        → EachFits (after_step s.rules word w h step).held.rows
    step_fits w word h (next waiting) quiet fit = fit
    step_fits w word h (trailing position) quiet fit = fit
    step_fits w word h (subcommand name) quiet fit = fit
    step_fits w word h value quiet fit = go (arg_by_index s.rules w.position) quiet
      where
        held : (b : Bool) → cond b [] (settle_fault s.rules again h) ≡ [] → EachFits (cond b h (settled s.rules h)).rows
        held true quiet = fit
        held false quiet = settled_fits h quiet fit

        go : (o : Option Rule) → option_map_or (λ a. positional_fault s.rules again a h) o (stray_fault s) ≡ []
            → EachFits (to_positional s.rules o word w h).held.rows
        go None quiet = fit
        go (Some a) quiet = held (is_pending a h.pending && takes_several a) quiet

    turn_fits : (names : Names) (w : Walk) (word : Text) → turn_fault s names w word ≡ [] → EachFits w.held.rows → EachFits (walked s.rules names w word).held.rows
    unfolding walked
    turn_fits names w word quiet fit = go w.stopped quiet
      where
        met : Held × Step
        met = word_met s.rules names w.is_trailing w.waiting w.position word w.held

        fault : Kinds
        fault = word_fault s names w.is_trailing w.waiting word w.held

        go : (o : Option (Text × List Text)) → cond (is_some o) [] (or_else fault (step_fault s w.position met.0 met.1)) ≡ []
            → EachFits (walked_from s.rules names o w word).held.rows
        go (Some p) quiet = fit
        go None quiet =
            let parts = or_none fault (step_fault s w.position met.0 met.1) quiet in
            step_fits w word met.0 met.1 parts.1 (met_fits names w word parts.0 fit)

    walk_fits : (names : Names) (w : Walk) (words : List Text) → walk_fault s names w words ≡ [] → EachFits w.held.rows
        → EachFits (fold (walked s.rules names) w words).held.rows
    unfolding walk_fault
    walk_fits names w [] quiet fit = fit
    walk_fits names w (word ∷ words) quiet fit =
        let parts = or_none (turn_fault s names w word) (walk_fault s names (walked s.rules names w word) words) quiet in
        walk_fits names (walked s.rules names w word) words parts.1 (turn_fits names w word parts.0 fit)

  -- ---- all words

  default_fits : (rows : List Row) (a : Rule) → TakesAs a → default_fault rows a ≡ [] → EachFits rows → EachFits (with_default rows a)
  default_fits rows a good quiet fit = go (has_row a.id rows) a.defaults quiet
    where
      go : (b : Bool) (values : List Text) → cond (b || is_empty values) [] (given_default_fault a values) ≡ []
          → EachFits (cond b rows (default_rows a.id (reading_by a) values rows))
      go true values quiet = fit
      go false [] quiet = fit
      go false (v ∷ vs) quiet =
          let some : is_empty (v ∷ vs) ≡ false = grind (arith, nat_tests) in
          let parts = or_none (request_kinds (action_of a)) (values_fault a (v ∷ vs)) (rw some at quiet) in
          values_fit a.id (reading_by a) DefaultValue (v ∷ vs) rows (taken a (v ∷ vs) good parts.1) good.reads fit

  defaults_fit : (rows : List Row) (rules : List Rule) → AllByRecursion TakesAs rules → defaults_fault rows rules ≡ [] → EachFits rows
      → EachFits (fold with_default rows rules)
  unfolding defaults_fault
  defaults_fit rows [] each quiet fit = fit
  defaults_fit rows (a ∷ rules) each quiet fit =
      let parts = or_none (default_fault rows a) (defaults_fault (with_default rows a) rules) quiet in
      defaults_fit (with_default rows a) rules each.1 parts.1 (default_fits rows a each.0 parts.0 fit)

  pub rows_fit : (s : Shape) (names : Names) (words : List Text) (has : Bool) (below : Kinds) → AllByRecursion TakesAs s.rules
      → level_fault s names nothing_held words has below ≡ [] → EachFits (rows_after s.rules names words)
  rows_fit s names words has below each quiet =
      let end = (walk s.rules names nothing_held words).held in
      let walks = or_none (walk_fault s names (walk_from nothing_held) words) _ quiet in
      let under = or_none below _ walks.1 in
      let settles = or_none (settle_fault s.rules s.args_override_self end) _ under.1 in
      let defaults = or_none (defaults_fault (settled s.rules end).rows s.rules) _ settles.1 in
      defaults_fit (settled s.rules end).rows s.rules each defaults.0
      (settled_fits s each end settles.0 (walk_fits s each names (walk_from nothing_held) words walks.0 tt))
