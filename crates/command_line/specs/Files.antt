-- The names of the files that a request reads, and of those that it puts.
use Rattle.std.specs.Prelude.{◌≢◌, List, [], ◌∷◌, ◌++◌, Option, Some, None, AllPairs, Contains, IfSome, filter_map, map, option_map}
use Rattle.std.specs.Borrow.{Bor}
use Rattle.clap.specs.Words.{Text}
use Rattle.command_line.specs.RunFiles.{IsLogName}
use Rattle.command_line.specs.declared.request.Request.{Request}
use Rattle.command_line.specs.declared.request.Request.TheVariants.{Check, Order, Explain, Inspect, Vet, Upgrade, Sim, Run, Litmus, Search, Confirm, Replay, Version}
use Rattle.command_line.specs.declared.request.TraceFiles.{TraceFiles}
use Rattle.command_line.specs.declared.request.TraceFiles.TheVariants.{One, Logs, Sourced}

-- the texts of words
abbrev pub texts : List (Bor Text) → List Text
texts = map (λ word. word.now)

-- the text of a word, if there is one
abbrev pub text_of : Option (Bor Text) → Option Text
text_of = option_map (λ word. word.now)

-- the names that were given, of files that need not be given
abbrev pub names_given : List (Option (Bor Text)) → List Text
names_given = filter_map text_of

-- the names of the files of a trace
abbrev pub names_of : TraceFiles → List Text
names_of (One name) = name.now ∷ []
names_of (Logs names) = texts names.items
names_of (Sourced names) = texts names.items

-- the names of the files that are read
abbrev pub files_read : Request → List Text
files_read (Check asked) = names_given (asked.program ∷ []) ++ texts asked.files.items
files_read (Order asked) = texts asked.files.items
files_read (Explain asked) = names_given (asked.check.program ∷ asked.names ∷ []) ++ texts asked.check.files.items
files_read (Inspect asked) = asked.file.now ∷ []
files_read (Vet asked) = asked.certificate.now ∷ names_of asked.trace
files_read (Upgrade asked) = texts asked.files.items
files_read (Sim asked) = names_given (asked.schedule ∷ []) ++ asked.programs.now ∷ []
files_read (Run asked) = asked.programs.now ∷ []
files_read (Litmus asked) = asked.test.now ∷ []
files_read (Search asked) = names_given (asked.names ∷ []) ++ names_of asked.trace
files_read (Confirm asked) = asked.certificate.now ∷ names_of asked.trace
files_read (Replay asked) = asked.trace.now ∷ []
files_read Version = []

-- the names of the files that are put, but for logs: of a picture, of the numbers and the events of runs, of an order, of a refutation
abbrev pub files_put : Request → List Text
files_put (Explain asked) = names_given (asked.picture ∷ [])
files_put (Sim asked) = names_given (asked.statistics ∷ asked.events ∷ [])
files_put (Run asked) = names_given (asked.statistics ∷ [])
files_put (Litmus asked) = names_given (asked.statistics ∷ [])
files_put (Search asked) = names_given (asked.order ∷ asked.refutation ∷ asked.picture ∷ [])
files_put other = []

-- what the names of the logs that are put begin with
abbrev pub logs_put : Request → Option Text
logs_put (Upgrade asked) = Some asked.out.now
logs_put (Sim asked) = Some asked.out.now
logs_put (Run asked) = Some asked.out.now
logs_put other = None

-- no name that is put is one that is read
abbrev pub AreKept : List Text → List Text → Type 0
AreKept read put = (name : Text) → Contains put name → ¬ (Contains read name)

-- no two names are the same
abbrev pub AreOnce : List Text → Type 0
AreOnce = AllPairs (λ one other. one ≢ other)

-- Nothing that is put takes the place of a file that is read, or of something else that is put: no name that is put is read or is put
-- twice, and none of all these names is one that a log may get.
pub record IsApart (asked : Request) : Type 0 where
  pub kept : AreKept (files_read asked) (files_put asked)
  pub once : AreOnce (files_put asked)
  pub logs : IfSome (logs_put asked) (λ out. (name : Text) → IsLogName out name → ¬ (Contains (files_read asked ++ files_put asked) name))
