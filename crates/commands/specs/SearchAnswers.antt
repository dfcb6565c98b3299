-- The exit statuses of answers to searches, and what they say.
use Rattle.std.specs.Prelude.{◌≡◌, ℕ, List, ◌++◌, codes}
use Rattle.std.specs.Fmt.{decimal}
use Rattle.command_line.specs.declared.request.TraceFiles.{TraceFiles}
use Rattle.command_line.specs.declared.request.TraceFiles.TheVariants.{Sourced}
use Rattle.mem_op.specs.Consistency.{Operation, IsConsistent}
use Rattle.telling.specs.FirstLines.{operation_count}
use Rattle.commands.specs.declared.search_answer.SearchAnswer.{SearchAnswer}
use Rattle.commands.specs.declared.search_answer.SearchAnswer.TheVariants.{Yes, No, NoBySources}

abbrev pub search_status : SearchAnswer → ℕ
search_status (Yes operations) = 0
search_status (No operations) = 1
search_status (NoBySources operations) = 1

abbrev pub search_text : SearchAnswer → List ℕ
search_text (Yes operations) = codes "yes: " ++ decimal operations ++ codes " operations"
search_text (No operations) = codes "no: no order of " ++ decimal operations ++ codes " operations"
search_text (NoBySources operations) = codes "no: no order of " ++ decimal operations ++ codes " operations with these sources"

-- a No to this many operations in these files; it says whether their sources were taken as given
abbrev pub no_of : TraceFiles → ℕ → SearchAnswer
no_of (Sourced names) operations = NoBySources operations
no_of files operations = No operations

-- a Yes says that the operations are sequentially consistent, a No that they aren't, and both say how many they are
abbrev pub IsRightOf : List (List Operation) → SearchAnswer → Type 0
IsRightOf cores (Yes operations) = IsConsistent cores × (operations ≡ operation_count cores)
IsRightOf cores (No operations) = ¬ (IsConsistent cores) × (operations ≡ operation_count cores)
IsRightOf cores (NoBySources operations) = ¬ (IsConsistent cores) × (operations ≡ operation_count cores)
