-- What the words of a command line ask for, and when they ask for nothing.
use Rattle.std.specs.Prelude.{◌≡◌, ◌≢◌, ◌<◌, ◌^◌, ◌⊎◌, ⊤, ℕ, Bool, true, false, List, [], ◌∷◌, Option, Some, None, IsSome, unwrap_or, codes}
use Rattle.std.specs.Str.Parse.{IsNumeral, digits_value, without_leading_plus}
use Rattle.clap.specs.Faults.{fault_of}
use Rattle.clap.specs.Words.{Row, Text, all_of, first_of, one_of, subcommand_of}
use Rattle.command_line.specs.Grammar.{tardis}
use Rattle.command_line.specs.Files.{IsApart}
pub use Rattle.command_line.specs.Files.{text_of, texts}
use Rattle.command_line.specs.declared.misuse.Misuse.{Misuse}
use Rattle.command_line.specs.declared.misuse.Misuse.TheVariants.{Usage, OutOfMemory}
use Rattle.command_line.specs.declared.request.Check.{Check}
use Rattle.command_line.specs.declared.request.Confirm.{Confirm}
use Rattle.command_line.specs.declared.request.Explain.{Explain}
use Rattle.command_line.specs.declared.request.FileKind.{FileKind}
use Rattle.command_line.specs.declared.request.FileKind.TheVariants as kind
use Rattle.command_line.specs.declared.request.Inspect.{Inspect}
use Rattle.command_line.specs.declared.request.Limits.{Limits}
use Rattle.command_line.specs.declared.request.LitmusRuns.{LitmusRuns}
use Rattle.command_line.specs.declared.request.Order.{Order}
use Rattle.command_line.specs.declared.request.Replay.{Replay}
use Rattle.command_line.specs.declared.request.Request.{Request}
use Rattle.command_line.specs.declared.request.Request.TheVariants as request
use Rattle.command_line.specs.declared.request.Run.{Run}
use Rattle.command_line.specs.declared.request.Search.{Search}
use Rattle.command_line.specs.declared.request.Sim.{Sim}
use Rattle.command_line.specs.declared.request.TraceFiles.{TraceFiles}
use Rattle.command_line.specs.declared.request.TraceFiles.TheVariants.{One, Logs, Sourced}
use Rattle.command_line.specs.declared.request.Upgrade.{Upgrade}

-- the decimal digits of a number below 2^64, with or without a plus before them
abbrev pub IsNumber : Text → Type 0
IsNumber text = IsNumeral 10 (without_leading_plus text) × (digits_value 10 (without_leading_plus text) < 2 ^ 64)

-- the number that an option's word gives; there is none only if the option isn't there
abbrev pub IsNumberOf : Option Text → Option ℕ → Type 0
IsNumberOf None number = number ≡ None
IsNumberOf (Some text) number = IsNumber text × (number ≡ Some (digits_value 10 (without_leading_plus text)))

-- the same, with this default instead of none
abbrev pub IsCountOr : ℕ → Option Text → ℕ → Type 0
IsCountOr default text n = (number : Option ℕ) × IsNumberOf text number × (n ≡ unwrap_or number default)

-- whether an option that takes nothing is there: its text is `true` or `false`, and if it has none, it isn't there
pub record IsFlag (text : Option Text) (there : Bool) : Type 0 where
  pub none : text ≡ None → there ≡ false
  pub yes : text ≡ Some (codes "true") → there ≡ true
  pub no : text ≡ Some (codes "false") → there ≡ false

-- a check of the files that were given, by the workers and against the programs that were given
pub record IsCheck (rows : List Row) (check : Check) : Type 0 where
  pub workers : IsCountOr 1 (one_of (codes "workers") rows) check.workers
  pub program : text_of check.program ≡ first_of (codes "program") rows
  pub files : texts check.files.items ≡ unwrap_or (all_of (codes "FILE") rows) []

-- an order of the files that were given
pub record IsOrder (rows : List Row) (order : Order) : Type 0 where
  pub files : texts order.files.items ≡ unwrap_or (all_of (codes "FILE") rows) []

-- the files that were given
abbrev pub files_given : List Row → List Text
files_given rows = unwrap_or (all_of (codes "FILE") rows) []

-- whether `--litmus` marks a file of this kind; the same for `--programs` and for `--trace`
abbrev pub is_litmus : FileKind → Bool
is_litmus kind.Litmus = true
is_litmus other = false

abbrev pub is_programs : FileKind → Bool
is_programs kind.Programs = true
is_programs other = false

abbrev pub is_trace : FileKind → Bool
is_trace kind.Trace = true
is_trace other = false

-- whether `--litmus` is there, whether `--programs` is, whether `--trace` is, and which certificate `--certificate` names, if any
pub record AreMarked (litmus programs trace : Bool) (certificate : Option Text) (rows : List Row) : Type 0 where
  pub litmus_flag : IsFlag (one_of (codes "litmus") rows) litmus
  pub programs_flag : IsFlag (one_of (codes "programs") rows) programs
  pub trace_flag : IsFlag (one_of (codes "trace") rows) trace
  pub certificate_is : first_of (codes "certificate") rows ≡ certificate

-- A check by one worker of the files that were given, against the programs that were given, with the file that was given for a picture, the names that
-- were given for addresses, and whether no other order is to be searched for. No option says that a file isn't a log.
pub record IsExplain (rows : List Row) (explain : Explain) : Type 0 where
  pub marks : AreMarked false false false None rows
  pub workers : explain.check.workers ≡ 1
  pub program : text_of explain.check.program ≡ first_of (codes "program") rows
  pub picture : text_of explain.picture ≡ first_of (codes "svg") rows
  pub names : text_of explain.names ≡ first_of (codes "names") rows
  pub no_search : IsFlag (one_of (codes "no-search") rows) explain.no_search
  pub files : texts explain.check.files.items ≡ unwrap_or (all_of (codes "FILE") rows) []

-- no option for logs is there
pub record LackLogOptions (rows : List Row) : Type 0 where
  pub program : first_of (codes "program") rows ≡ None
  pub picture : first_of (codes "svg") rows ≡ None
  pub names : first_of (codes "names") rows ≡ None
  pub no_search : IsFlag (one_of (codes "no-search") rows) false

-- a look at the one file that was given, of the kind that a flag says, without an option for logs
pub record IsInspect (rows : List Row) (inspect : Inspect) : Type 0 where
  pub marks : AreMarked (is_litmus inspect.kind) (is_programs inspect.kind) (is_trace inspect.kind) None rows
  pub file : files_given rows ≡ inspect.file.now ∷ []
  pub alone : LackLogOptions rows

-- the files that were given, to be written anew in format 2, under the name that was given
pub record IsUpgrade (rows : List Row) (upgrade : Upgrade) : Type 0 where
  pub out : upgrade.out.now ≡ unwrap_or (first_of (codes "OUT") rows) []
  pub files : texts upgrade.files.items ≡ unwrap_or (all_of (codes "FILE") rows) []

-- the numbers of the machine that were given, or the default of each that wasn't
pub record AreLimits (rows : List Row) (limits : Limits) : Type 0 where
  pub slices : IsCountOr 1 (one_of (codes "slices") rows) limits.slices
  pub lease : IsCountOr 10 (one_of (codes "lease") rows) limits.lease
  pub period : IsCountOr 100 (one_of (codes "period") rows) limits.period
  pub cache_lines : IsCountOr 64 (one_of (codes "cache") rows) limits.cache_lines
  pub slice_lines : IsCountOr 64 (one_of (codes "slice-lines") rows) limits.slice_lines
  pub inbox : IsCountOr 8 (one_of (codes "inbox") rows) limits.inbox

-- the file of programs that was given; and the name that was given for the names of the logs to begin with
abbrev pub programs_given : List Row → Text
programs_given rows = unwrap_or (first_of (codes "PROGRAMS") rows) []

abbrev pub out_given : List Row → Text
out_given rows = unwrap_or (first_of (codes "OUT") rows) []

-- a simulation of the programs in the file that was given, with the numbers, the schedule and the seeds that were given, and with the files that were
-- given for its numbers and its events
pub record IsSim (rows : List Row) (sim : Sim) : Type 0 where
  pub limits : AreLimits rows sim.limits
  pub schedule : text_of sim.schedule ≡ first_of (codes "schedule") rows
  pub seed : IsNumberOf (one_of (codes "seed") rows) sim.seed
  pub stress : IsNumberOf (one_of (codes "stress") rows) sim.stress
  pub statistics : text_of sim.statistics ≡ first_of (codes "stats") rows
  pub events : text_of sim.events ≡ first_of (codes "trace") rows
  pub programs : sim.programs.now ≡ programs_given rows
  pub out : sim.out.now ≡ out_given rows

-- a run in threads of the programs in the file that was given, with the numbers that were given, and with the file that was given for the numbers of
-- the run
pub record IsThreaded (rows : List Row) (run : Run) : Type 0 where
  pub limits : AreLimits rows run.limits
  pub statistics : text_of run.statistics ≡ first_of (codes "stats") rows
  pub programs : run.programs.now ≡ programs_given rows
  pub out : run.out.now ≡ out_given rows

-- the file of the test that was given
abbrev pub test_given : List Row → Text
test_given rows = unwrap_or (first_of (codes "TEST") rows) []

-- runs of the test in the file that was given: how many, with which numbers of the machine, from which seeds or in threads, and with which file for
-- the numbers of all runs
pub record IsLitmus (rows : List Row) (litmus : LitmusRuns) : Type 0 where
  pub limits : AreLimits rows litmus.limits
  pub runs : IsCountOr 100 (one_of (codes "runs") rows) litmus.runs
  pub seed : IsCountOr 1 (one_of (codes "seed") rows) litmus.seed
  pub stress : IsNumberOf (one_of (codes "stress") rows) litmus.stress
  pub threads : IsFlag (one_of (codes "threads") rows) litmus.threads
  pub statistics : text_of litmus.statistics ≡ first_of (codes "stats") rows
  pub test : litmus.test.now ≡ test_given rows

-- these files are logs, whose sources are taken as given or aren't, or there is one file, and it is a trace
abbrev pub IsTraceOf : Bool → Bool → List Text → TraceFiles → Type 0
IsTraceOf are_logs are_sourced files (One name) = (are_logs ≡ false) × (are_sourced ≡ false) × (files ≡ name.now ∷ [])
IsTraceOf are_logs are_sourced files (Logs names) = (are_logs ≡ true) × (are_sourced ≡ false) × (texts names.items ≡ files)
IsTraceOf are_logs are_sourced files (Sourced names) = (are_logs ≡ true) × (are_sourced ≡ true) × (texts names.items ≡ files)

-- a look at the certificate that was given for the trace in the one file that was given, without an option for logs
pub record IsVet (rows : List Row) (vet : Confirm) : Type 0 where
  pub marks : AreMarked false false false (Some vet.certificate.now) rows
  pub trace : IsTraceOf false false (files_given rows) vet.trace
  pub alone : LackLogOptions rows

-- the same for these files and a certificate: the first word names the trace, and the one file is the certificate; or the files are logs, and the
-- first word names their certificate
abbrev pub IsCertifiedBy : Bool → Bool → Text → List Text → Text → TraceFiles → Type 0
IsCertifiedBy are_logs are_sourced first files certificate (One name) = (are_logs ≡ false) × (are_sourced ≡ false) × (name.now ≡ first) × (files ≡ certificate ∷ [])
IsCertifiedBy are_logs are_sourced first files certificate (Logs names) = (are_logs ≡ true) × (are_sourced ≡ false) × (certificate ≡ first) × (texts names.items ≡ files)
IsCertifiedBy are_logs are_sourced first files certificate (Sourced names) = (are_logs ≡ true) × (are_sourced ≡ true) × (certificate ≡ first) × (texts names.items ≡ files)

-- a search of the trace, with the budget, the files for what it finds and the names for addresses that were given
pub record IsSearch (rows : List Row) (search : Search) : Type 0 where
  pub are_logs : Bool
  pub are_sourced : Bool
  pub logs : IsFlag (one_of (codes "logs") rows) are_logs
  pub sources : IsFlag (one_of (codes "sources") rows) are_sourced
  pub trace : IsTraceOf are_logs are_sourced (files_given rows) search.trace
  pub budget : IsNumberOf (one_of (codes "budget") rows) search.budget
  pub order : text_of search.order ≡ first_of (codes "order") rows
  pub refutation : text_of search.refutation ≡ first_of (codes "refutation") rows
  pub picture : text_of search.picture ≡ first_of (codes "svg") rows
  pub names : text_of search.names ≡ first_of (codes "names") rows

-- a look at the certificate and the trace that were given
pub record IsConfirm (rows : List Row) (confirm : Confirm) : Type 0 where
  pub are_logs : Bool
  pub are_sourced : Bool
  pub logs : IsFlag (one_of (codes "logs") rows) are_logs
  pub sources : IsFlag (one_of (codes "sources") rows) are_sourced
  pub names : IsCertifiedBy are_logs are_sourced (unwrap_or (first_of (codes "TRACE") rows) []) (files_given rows) confirm.certificate.now confirm.trace

-- a replay of the trace that was given, and whether to say why the order of its lines is wrong
pub record IsReplay (rows : List Row) (replay : Replay) : Type 0 where
  pub why : IsFlag (one_of (codes "why") rows) replay.why
  pub trace : replay.trace.now ≡ unwrap_or (first_of (codes "TRACE") rows) []

-- the request is what the subcommand of this name asks for with these arguments
abbrev pub IsAskedBy : Text × List Row → Request → Type 0
IsAskedBy named (request.Check check) = (named.0 ≡ codes "check") × IsCheck named.1 check
IsAskedBy named (request.Order order) = (named.0 ≡ codes "order") × IsOrder named.1 order
IsAskedBy named (request.Explain explain) = (named.0 ≡ codes "explain") × IsExplain named.1 explain
IsAskedBy named (request.Inspect inspect) = (named.0 ≡ codes "explain") × IsInspect named.1 inspect
IsAskedBy named (request.Vet vet) = (named.0 ≡ codes "explain") × IsVet named.1 vet
IsAskedBy named (request.Upgrade upgrade) = (named.0 ≡ codes "upgrade") × IsUpgrade named.1 upgrade
IsAskedBy named (request.Sim sim) = (named.0 ≡ codes "sim") × IsSim named.1 sim
IsAskedBy named (request.Run run) = (named.0 ≡ codes "run") × IsThreaded named.1 run
IsAskedBy named (request.Litmus litmus) = (named.0 ≡ codes "litmus") × IsLitmus named.1 litmus
IsAskedBy named (request.Search search) = (named.0 ≡ codes "search") × IsSearch named.1 search
IsAskedBy named (request.Confirm confirm) = (named.0 ≡ codes "confirm") × IsConfirm named.1 confirm
IsAskedBy named (request.Replay replay) = (named.0 ≡ codes "replay") × IsReplay named.1 replay
IsAskedBy named request.Version = ⊥

-- the words are a command line of the program: none is unknown, missing or one too many, and each option has what it takes
abbrev pub IsCommandLine : List Text → Type 0
IsCommandLine words = fault_of tardis words ≡ []

-- `--version` is the only word after the program's own name
abbrev pub AskVersion : List Text → Type 0
AskVersion words = (name : Text) × (words ≡ name ∷ codes "--version" ∷ [])

-- the words ask for the version, or they are a command line, and the request is what the subcommand that they name asks for with its arguments
abbrev pub Asks : List Text → Request → Type 0
Asks words request.Version = AskVersion words
Asks words asked =
    IsCommandLine words × ((named : Text × List Row) × (subcommand_of tardis words ≡ Some named) × IsAskedBy named asked)

-- these aren't one file
abbrev pub AreNotOne : List Text → Type 0
AreNotOne files = (name : Text) → files ≢ name ∷ []

-- files are refused for their usage only if they aren't one file
abbrev pub IsNotOneOf : List Text → Misuse → Type 0
IsNotOneOf files (Usage text) = AreNotOne files
IsNotOneOf files OutOfMemory = ⊤

-- these aren't logs, and yet their sources are to be taken, or they aren't one file
abbrev pub AreStray : Bool → Bool → List Text → Type 0
AreStray are_logs are_sourced files = (are_logs ≡ false) × ((are_sourced ≡ true) ⊎ AreNotOne files)

-- only such files are refused for their usage
abbrev pub IsStrayOf : Bool → Bool → List Text → Misuse → Type 0
IsStrayOf are_logs are_sourced files (Usage text) = AreStray are_logs are_sourced files
IsStrayOf are_logs are_sourced files OutOfMemory = ⊤

-- the files that were given are stray
pub record HasStrayFiles (rows : List Row) : Type 0 where
  pub are_logs : Bool
  pub are_sourced : Bool
  pub logs : IsFlag (one_of (codes "logs") rows) are_logs
  pub sources : IsFlag (one_of (codes "sources") rows) are_sourced
  pub stray : AreStray are_logs are_sourced (files_given rows)

abbrev pub IsStrayIn : List Row → Misuse → Type 0
IsStrayIn rows (Usage text) = HasStrayFiles rows
IsStrayIn rows OutOfMemory = ⊤

-- an option for logs is there
abbrev pub HaveLogOption : List Row → Type 0
HaveLogOption rows =
    IsSome (first_of (codes "program") rows) ⊎ (IsSome (first_of (codes "svg") rows) ⊎ (IsSome (first_of (codes "names") rows)
    ⊎ IsFlag (one_of (codes "no-search") rows) true))

-- there isn't just one file, or an option for logs is there
abbrev pub StandNotAlone : List Row → Type 0
StandNotAlone rows = AreNotOne (files_given rows) ⊎ HaveLogOption rows

-- only such files are refused for their usage
abbrev pub IsNotAloneOf : List Row → Misuse → Type 0
IsNotAloneOf rows (Usage text) = StandNotAlone rows
IsNotAloneOf rows OutOfMemory = ⊤

-- an option says that the file isn't a log, and there is another file, another such option or an option for logs beside it
abbrev pub AreMixedBy : Bool → Bool → Bool → Option Text → List Row → Type 0
AreMixedBy false false false None rows = ⊥
AreMixedBy true false false None rows = StandNotAlone rows
AreMixedBy false true false None rows = StandNotAlone rows
AreMixedBy false false true None rows = StandNotAlone rows
AreMixedBy false false false (Some certificate) rows = StandNotAlone rows
AreMixedBy litmus programs trace certificate rows = ⊤

abbrev pub AreMixed : List Row → Type 0
AreMixed rows =
    (litmus : Bool) × (programs : Bool) × (trace : Bool) × (certificate : Option Text) × AreMarked litmus programs trace certificate rows
    × AreMixedBy litmus programs trace certificate rows

-- only a look at a file that isn't a log, and isn't alone, is refused for its usage
abbrev pub IsMixedIn : List Row → Misuse → Type 0
IsMixedIn rows (Usage text) = AreMixed rows
IsMixedIn rows OutOfMemory = ⊤

-- the subcommand of this name can't take these arguments together: without `--logs` there isn't just one file or `--sources` is there, or a file that
-- isn't a log isn't alone
abbrev pub IsMisused : Text × List Row → Type 0
IsMisused named =
    (((named.0 ≡ codes "search") ⊎ (named.0 ≡ codes "confirm")) × HasStrayFiles named.1) ⊎ ((named.0 ≡ codes "explain") × AreMixed named.1)

-- only such arguments are refused for their usage
abbrev pub IsRefusedBy : Text × List Row → Misuse → Type 0
IsRefusedBy named (Usage text) = IsMisused named
IsRefusedBy named OutOfMemory = ⊤

-- the words name a subcommand with such arguments
abbrev pub AreMisused : List Text → Type 0
AreMisused words = (named : Text × List Row) × (subcommand_of tardis words ≡ Some named) × IsMisused named

-- the words ask for something that would put a file in the place of one that it reads, or of another that it puts
abbrev pub AskNotApart : List Text → Type 0
AskNotApart words = (asked : Request) × Asks words asked × ¬ (IsApart asked)

-- why words are refused for their usage: they aren't a command line of the program, their subcommand can't take their arguments together, or what
-- they would put isn't apart
abbrev pub AreRefused : List Text → Type 0
AreRefused words = ¬ (IsCommandLine words) ⊎ (AreMisused words ⊎ AskNotApart words)

-- only such words are refused for their usage
abbrev pub IsRefusalOf : List Text → Misuse → Type 0
IsRefusalOf words (Usage text) = AreRefused words
IsRefusalOf words OutOfMemory = ⊤
