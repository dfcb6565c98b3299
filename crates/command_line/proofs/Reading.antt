-- What the reading of the words gives, by the cases of its parts.
use Rattle.std.proofs.Common.{arith, ◌≡◌, ◌∙◌, ◌⊎◌, ◌↔◌, ◌∷◌, ◌≤◌, ◌<◌, ap, sym, codes, subst, refl, ℕ, Bool, IsTrue, true, false, length, slice_index_or, List, [], Option, None, Some, Result, Ok, Err, Bor, inl, inr, option_map}
use Rattle.std.specs.Prelude.{unwrap_or}
use Rattle.std.specs.Str.{bytes_eq}
use Rattle.std.specs.Str.Parse.{ParsesUnsigned}
use Rattle.std.proofs.lemmas.Slice.Eq.{bytes_eq-Decides}
use Rattle.clap.specs.Faults.{fault_of}
use Rattle.clap.specs.Kinds.{Kinds, HasKind, IsAmong}
use Rattle.clap.specs.Matches.{ReadsOne}
use Rattle.clap.specs.Words.{Row, Text, kind_of, subcommand_of}
use Rattle.clap.specs.declared.error.Error.{Error}
use Rattle.clap.specs.declared.error.kind.ErrorKind.TheVariants as error_kind
use Rattle.command_line.specs.Asking.{AskVersion, Asks, IsAskedBy, IsCommandLine, IsNumber, IsNumberOf, IsRefusalOf, IsRefusedBy, IsStrayIn, texts}
use Rattle.command_line.specs.Files.{IsApart}
use Rattle.command_line.specs.Grammar.{tardis}
use Rattle.command_line.specs.declared.misuse.Misuse.{Misuse}
use Rattle.command_line.specs.declared.misuse.Misuse.TheVariants.{Usage, OutOfMemory}
use Rattle.command_line.specs.declared.request.Request.{Request}
use Rattle.command_line.specs.declared.request.Request.TheVariants as request

-- an error that isn't lack of memory has one of the kinds of fault that the words have
pub refused : (words : List Text) (kinds : Kinds) (error : Error) (r : Misuse) → kinds ≡ fault_of tardis words → HasKind kinds error
    → (kind_of error ≡ error_kind.OutOfMemory → r ≡ OutOfMemory) → IsRefusalOf words r
refused words kinds error OutOfMemory is has memory = tt
refused words kinds error (Usage text) is (inl out) memory =
    let bad : Usage text ≡ OutOfMemory = memory out in
    cc
refused words kinds error (Usage text) is (inr among) memory = inl (λ none. subst (IsAmong (kind_of error)) (is ∙ none) among)

-- the subcommand that the words name is refused for what its arguments ask for
pub refused_by : (words : List Text) (named : Text × List Row) (r : Misuse) → subcommand_of tardis words ≡ Some named → IsRefusedBy named r → IsRefusalOf words r
refused_by words named (Usage text) is misused = inr (inl (named, is, misused))
refused_by words named OutOfMemory is misused = tt

-- or that is what the words ask for
pub asked_by : (words : List Text) (named : Text × List Row) (asked : Request) → IsCommandLine words → subcommand_of tardis words ≡ Some named
    → IsAskedBy named asked → Asks words asked
asked_by words named (request.Check check) line is asks = (line, (named, is, asks))
asked_by words named (request.Order order) line is asks = (line, (named, is, asks))
asked_by words named (request.Explain explain) line is asks = (line, (named, is, asks))
asked_by words named (request.Inspect inspect) line is asks = (line, (named, is, asks))
asked_by words named (request.Vet vet) line is asks = (line, (named, is, asks))
asked_by words named (request.Upgrade upgrade) line is asks = (line, (named, is, asks))
asked_by words named (request.Sim sim) line is asks = (line, (named, is, asks))
asked_by words named (request.Run run) line is asks = (line, (named, is, asks))
asked_by words named (request.Litmus litmus) line is asks = (line, (named, is, asks))
asked_by words named (request.Search search) line is asks = (line, (named, is, asks))
asked_by words named (request.Confirm confirm) line is asks = (line, (named, is, asks))
asked_by words named (request.Replay replay) line is asks = (line, (named, is, asks))
asked_by words named request.Version line is asks = absurd asks

-- lack of memory is no usage
pub unread : (named : Text × List Row) (r : Misuse) → r ≡ OutOfMemory → IsRefusedBy named r
unread named r is = rw is tt

-- files that aren't those of one trace were given
pub stray : (named : Text × List Row) (r : Misuse) → (named.0 ≡ codes "search") ⊎ (named.0 ≡ codes "confirm") → IsStrayIn named.1 r → IsRefusedBy named r
stray named (Usage text) which files = inl (which, files)
stray named OutOfMemory which files = tt

-- what the words ask for isn't apart
pub not_apart : (words : List Text) (asked : Request) (are : Bool) (r : Misuse) → Asks words asked → IsTrue are ↔ IsApart asked → are ≡ false → IsRefusalOf words r
not_apart words asked are (Usage text) asks tests off = inr (inr (asked, asks, (λ apart. let yes : false ≡ true = sym off ∙ tests.1 apart in cc)))
not_apart words asked are OutOfMemory asks tests off = tt

-- the text of a number, read
pub numbered : {E : Type 0} (gives : List ℕ → Result ℕ E → Type 0) → ((t : List ℕ) (x : Result ℕ E) → gives t x → ParsesUnsigned 64 10 t x)
    → (o : Option Text) (r : Option ℕ) → (o ≡ None → r ≡ None) → ((t : Text) → o ≡ Some t → ReadsOne gives t r) → ((t : Text) → o ≡ Some t → IsNumber t)
    → IsNumberOf o r
numbered gives parses None r none some is = none refl
numbered gives parses (Some t) None none some is =
    let failed = some t refl in
    absurd (parses t (Err failed.0) failed.1 (is t refl))
numbered gives parses (Some t) (Some n) none some is =
    let parsed = parses t (Ok n) (some t refl) in
    (parsed.0, ap (λ (k : ℕ). Some k) parsed.1)

-- the texts of what there is, or none
pub texts_or_none : (found : Option (Bor (List (Bor Text)))) (none : Bor (List (Bor Text))) → none.now ≡ []
    → texts (unwrap_or found none).now ≡ unwrap_or (option_map (λ s. texts s.now) found) []
texts_or_none None none empty = ap texts empty
texts_or_none (Some s) none empty = refl

-- of two words the second asks for the version, or doesn't
pub version_asked : (words : List (Bor Text)) (none : Bor Text) (b : Bool) → 2 ≤ length words → length words < 3
    → b ≡ bytes_eq (slice_index_or words 1 none).now (codes "--version") → IsTrue b ↔ AskVersion (texts words)
version_asked [] none b least below is = absurd (omega arith)
version_asked (a ∷ []) none b least below is = absurd (omega arith)
version_asked (a ∷ w ∷ []) none b least below is = (
  λ yes. (a.now, ap (λ (t : Text). a.now ∷ t ∷ []) ((bytes_eq-Decides w.now (codes "--version")).0 (sym is ∙ yes))),
  λ asked.
      let (name, same) = asked in
      let version : w.now ≡ codes "--version" = cc in
      is ∙ (bytes_eq-Decides w.now (codes "--version")).1 version,
)
version_asked (a ∷ w ∷ x ∷ more) none b least below is = absurd (omega arith)
