-- What the names that a request reads and puts come to, one after the other.
use Rattle.std.proofs.Common.{arith, ◌≡◌, ◌∙◌, ◌⊎◌, ◌↔◌, ◌<◌, ◌≤◌, ◌+◌, ◌-◌, ◌∷◌, ◌++◌, ◌||◌, sym, subst, refl, ℕ, zero, suc, Bool, true, false, length, slice_index_or, IsTrue, drop, take, not, ap, List, [], Option, None, Some, Bor, inl, inr}
use Rattle.std.specs.Prelude.{Contains, IfSome}
use Rattle.std.specs.List.{list_any}
use Rattle.std.specs.Bool.{Decides}
use Rattle.std.specs.Str.{bytes_eq}
use Rattle.std.proofs.lemmas.List.{append-nil, get_or_default, map-append, take_all, take_more}
use Rattle.std.proofs.lemmas.List.Elements.{filter_map-append}
use Rattle.std.proofs.lemmas.List.Folds.{list_any-from_Any}
use Rattle.std.proofs.lemmas.Option.{IfSome_then}
use Rattle.std.proofs.lemmas.Slice.Eq.{bytes_eq-Decides}
use Rattle.clap.specs.Words.{Text}
use Rattle.command_line.specs.Files.{AreKept, AreOnce, IsApart, files_put, files_read, logs_put, names_given, text_of, texts}
use Rattle.command_line.specs.RunFiles.{IsLogName}
use Rattle.command_line.specs.declared.request.Request.{Request}

-- ---- one name

-- the test of a slice finds the names that are in it
at_first : (b rest : Bool) → b ≡ true → (b || rest) ≡ true
at_first true rest is = refl
at_first false rest is = absurd cc

at_rest : (b rest : Bool) → rest ≡ true → (b || rest) ≡ true
at_rest true rest is = refl
at_rest false rest is = is

either_of : (b rest : Bool) → (b || rest) ≡ true → (b ≡ true) ⊎ (rest ≡ true)
either_of true rest is = inl refl
either_of false rest is = inr is

found : (name : Text) (names : List (Bor Text)) → list_any (λ y. bytes_eq y.now name) names ≡ true → Contains (texts names) name
found name [] is = absurd cc
found name (y ∷ ys) is = elim (either_of (bytes_eq y.now name) (list_any (λ z. bytes_eq z.now name) ys) is) [
  | inl first ↦ (0, omega arith, (bytes_eq-Decides y.now name).0 first)
  | inr rest ↦ (let (k, below, same) = found name ys rest in (suc k, omega arith, same))
]

finds : (name : Text) (names : List (Bor Text)) (k : ℕ) → k < length (texts names) → slice_index_or (texts names) k name ≡ name → list_any (λ y. bytes_eq y.now name) names ≡ true
finds name [] k below same = absurd (omega arith)
finds name (y ∷ ys) zero below same = at_first (bytes_eq y.now name) _ ((bytes_eq-Decides y.now name).1 same)
finds name (y ∷ ys) (suc k) below same = at_rest (bytes_eq y.now name) _ (finds name ys k (omega arith) same)

pub among : (name : Text) (names : List (Bor Text)) → Decides (list_any (λ y. bytes_eq y.now name) names) (Contains (texts names) name)
among name names = (found name names, λ has. let (k, below, same) = has in finds name names k below same)

-- a name that a loop comes to
pub here : (name : Text) (names : List (Bor Text)) (i : ℕ) (d : Bor Text) → i < length names → bytes_eq (slice_index_or names i d).now name ≡ true
    → Contains (texts names) name
here name names i d below is =
    found name names (list_any-from_Any (λ y. bytes_eq y.now name) names (i, slice_index_or names i d, below, get_or_default names i (slice_index_or names i d) d below, is))

-- ---- one more name

more_has : (name : Text) (more : List Text) (x : Text) → Contains more x → Contains (name ∷ more) x
more_has name more x has = let (k, below, same) = has in (suc k, omega arith, same)

first_or_more : (name : Text) (more : List Text) (x : Text) (k : ℕ) → k < length (name ∷ more) → slice_index_or (name ∷ more) k x ≡ x → (name ≡ x) ⊎ Contains more x
first_or_more name more x zero below same = inl same
first_or_more name more x (suc k) below same = inr (k, omega arith, same)

kept_more : (read : List Text) (name : Text) (more : List Text) → ¬ (Contains read name) → AreKept read more → AreKept read (name ∷ more)
kept_more read name more new kept x has reads = let (k, below, same) = has in elim (first_or_more name more x k below same) [
  | inl is ↦ new (subst (Contains read) (sym is) reads)
  | inr rest ↦ kept x rest reads
]

once_more : (name : Text) (more : List Text) → ¬ (Contains more name) → AreOnce more → AreOnce (name ∷ more)
once_more name more new once i zero d before below = absurd (omega arith)
once_more name more new once zero (suc j) d before below = λ same. new (j, omega arith, is j d (omega arith) same)
  where
    is : (j : ℕ) (d : Text) → j < length more → name ≡ slice_index_or more j d → slice_index_or more j name ≡ name
    is j d below same = get_or_default more j name d below ∙ sym same
once_more name more new once (suc i) (suc j) d before below = once i j d (omega arith) (omega arith)

pub one_more : (read : List Text) (name : Text) (more : List Text) → (¬ (Contains read name)) × ((¬ (Contains more name)) × (AreKept read more × AreOnce more)) ↔ (AreKept read (name ∷ more) × AreOnce (name ∷ more))
one_more read name more = (
  λ (unread, (new, (kept, once))). (kept_more read name more unread kept, once_more name more new once),
  λ (kept, once). (
    kept name (0, omega arith, refl),
    (
      (λ has. let (k, below, same) = has in once 0 (suc k) name (omega arith) (omega arith) (sym same)),
      ((λ x has. kept x (more_has name more x has)), (λ i j d before below. once (suc i) (suc j) d (omega arith) (omega arith))),
    ),
  ),
)

-- the word that is read past the end of a slice
abbrev pub nowhere : Bor Text
nowhere = record { ref_ptr = (0, 0); now = [] }

-- the same of the names of a slice
abbrev pub rest_of : List (Bor Text) → List Text
rest_of put = texts (take (length put - 1) (drop 1 put))

pub sliced : (read : List Text) (put : List (Bor Text)) (d : Bor Text) → 1 ≤ length put
    → (¬ (Contains read (slice_index_or put 0 d).now)) × ((¬ (Contains (rest_of put) (slice_index_or put 0 d).now)) × (AreKept read (rest_of put) × AreOnce (rest_of put)))
    ↔ (AreKept read (texts put) × AreOnce (texts put))
sliced read [] d some = absurd (omega arith)
sliced read (name ∷ more) d some =
    subst (λ (rest : List (Bor Text)). (¬ (Contains read name.now)) × ((¬ (Contains (texts rest) name.now)) × (AreKept read (texts rest) × AreOnce (texts rest))) ↔ (AreKept read (name.now ∷ texts more) × AreOnce (name.now ∷ texts more)))
    (sym (take_all (length (name ∷ more) - 1) more (omega arith))) (one_more read name.now (texts more))

-- what a test doesn't find isn't there
pub unfound : {P : Type 0} (b : Bool) → IsTrue b ↔ P → b ≡ false → ¬ P
unfound true finds is there = cc
unfound false finds is there = let found : false ≡ true = finds.1 there in cc

-- what holds of the numbers below one, and of that one
below_or_last : (k n : ℕ) → k < n + 1 → (k < n) ⊎ (n ≡ k)
below_or_last zero zero below = inr refl
below_or_last zero (suc n) below = inl (omega arith)
below_or_last (suc k) zero below = absurd (omega arith)
below_or_last (suc k) (suc n) below = elim (below_or_last k n (omega arith)) [
  | inl less ↦ inl (omega arith)
  | inr same ↦ inr (ap suc same)
]

pub below_more : (Holds : ℕ → Type 0) (n : ℕ) → ((k : ℕ) → k < n → Holds k) → Holds n → (k : ℕ) → k < n + 1 → Holds k
below_more Holds n each last k below = elim (below_or_last k n below) [
  | inl less ↦ each k less
  | inr same ↦ subst Holds same last
]

-- ---- what a request reads and puts

-- none of the names is one that a log may get
abbrev pub HaveNoLog : Text → List Text → Type 0
HaveNoLog out names = ¬ ((name : Text) × Contains names name × IsLogName out name)

-- what the tests of a request's names come to
abbrev pub AreTested : Request → List Text → List Text → Type 0
AreTested asked read put = (AreKept read put × AreOnce put) × IfSome (logs_put asked) (λ out. HaveNoLog out (read ++ put))

tested_all : (asked : Request) → IsApart asked ↔ AreTested asked (files_read asked) (files_put asked)
tested_all asked = (
  λ apart. ((apart.kept, apart.once), IfSome_then (logs_put asked) apart.logs (λ out none found. let (name, has, log) = found in none name log has)),
  λ all. record {
    kept = all.0.0;
    once = all.0.1;
    logs = IfSome_then (logs_put asked) all.1 (λ out none name log has. none (name, has, log));
  },
)

pub tested : (asked : Request) (read put : List Text) → read ≡ files_read asked → put ≡ files_put asked → IsApart asked ↔ AreTested asked read put
tested asked read put reads puts =
    subst (λ (r : List Text). IsApart asked ↔ AreTested asked r put) (sym reads)
    (subst (λ (p : List Text). IsApart asked ↔ AreTested asked (files_read asked) p) (sym puts) (tested_all asked))

-- where no logs are put, and where they are
pub without_logs : (asked : Request) (read put : List Text) → IsApart asked ↔ AreTested asked read put → None ≡ logs_put asked → AreKept read put × AreOnce put
    → IsApart asked
without_logs asked read put all none new = all.1 (new, subst (λ (o : Option Text). IfSome o (λ out. HaveNoLog out (read ++ put))) none tt)

pub with_logs : (asked : Request) (read put : List Text) (out : Text) (has answer : Bool) → IsApart asked ↔ AreTested asked read put → Some out ≡ logs_put asked
    → AreKept read put × AreOnce put → IsTrue has ↔ ((name : Text) × Contains (read ++ put) name × IsLogName out name) → answer ≡ not has
    → IsTrue answer ↔ IsApart asked
with_logs asked read put out true answer all some new has is = (
  λ yes. let off : true ≡ false = sym yes ∙ is in absurd cc,
  λ apart. absurd (subst (λ (o : Option Text). IfSome o (λ out. HaveNoLog out (read ++ put))) (sym some) (all.0 apart).1 (has.0 refl)),
)
with_logs asked read put out false answer all some new has is = (
  λ yes. all.1 (new, subst (λ (o : Option Text). IfSome o (λ out. HaveNoLog out (read ++ put))) some (λ found. let finds : false ≡ true = has.1 found in cc)),
  λ apart. is,
)

-- ---- the names of those that were given

pub more_given : (given : List (Option (Bor Text))) (i : ℕ) (d : Option (Bor Text)) → i < length given
    → names_given (take (i + 1) given) ≡ names_given (take i given) ++ names_given (slice_index_or given i d ∷ [])
more_given given i d below = ap names_given (take_more given i d below) ∙ filter_map-append text_of (take i given) (slice_index_or given i d ∷ [])

pub given_some : (given : List (Option (Bor Text))) (i : ℕ) (d : Option (Bor Text)) (name : Bor Text) (old new : List (Bor Text)) → i < length given
    → slice_index_or given i d ≡ Some name → texts old ≡ names_given (take i given) → new ≡ old ++ name ∷ [] → texts new ≡ names_given (take (i + 1) given)
given_some given i d name old new below at before pushed =
    ap texts pushed ∙ map-append (λ (word : Bor Text). word.now) old (name ∷ []) ∙ ap (λ (ts : List Text). ts ++ name.now ∷ []) before
    ∙ ap (λ (o : Option (Bor Text)). names_given (take i given) ++ names_given (o ∷ [])) (sym at) ∙ sym (more_given given i d below)

pub given_none : (given : List (Option (Bor Text))) (i : ℕ) (d : Option (Bor Text)) (old new : List (Bor Text)) → i < length given
    → slice_index_or given i d ≡ None → texts old ≡ names_given (take i given) → new ≡ old → texts new ≡ names_given (take (i + 1) given)
given_none given i d old new below at before same =
    ap texts same ∙ before ∙ sym (append-nil (names_given (take i given)))
    ∙ ap (λ (o : Option (Bor Text)). names_given (take i given) ++ names_given (o ∷ [])) (sym at) ∙ sym (more_given given i d below)
