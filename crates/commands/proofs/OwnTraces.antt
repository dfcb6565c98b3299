-- What a yes to a trace with sources in place of words says of the logs.
use Rattle.std.proofs.Common.{◌≡◌, ◌≤◌, subst, refl, ℕ, List, Option, arith, length}
use Rattle.std.proofs.lemmas.Slice.Zip.{AllZip-long}
use Rattle.command_line.specs.declared.request.TraceFiles.{TraceFiles}
use Rattle.command_line.specs.declared.request.TraceFiles.TheVariants.{One, Logs, Sourced}
use Rattle.log_file.proofs.Sets.{spelled_short}
use Rattle.log_record.specs.Entries.{operations_of}
use Rattle.mem_op.specs.Consistency.{Operation, IsConsistent, IsSequentialOrder}
use Rattle.commands.proofs.Checks.{as_many}
use Rattle.commands.proofs.SourceNumbers.{order_explains}
use Rattle.commands.specs.SearchAnswers.{IsRightOf, search_status}
use Rattle.commands.specs.Sources.{sourced_operations}
use Rattle.commands.specs.Traces.{TellsTrace, own_files}
use Rattle.commands.specs.declared.search_answer.SearchAnswer.{SearchAnswer}
use Rattle.commands.specs.declared.search_answer.SearchAnswer.TheVariants.{Yes, No, NoBySources}

own_consistent : (told : List ℕ → Option (List ℕ)) (files : TraceFiles) → TellsTrace told files IsConsistent → TellsTrace told (own_files files) IsConsistent
own_consistent told (One name) tells = tells
own_consistent told (Logs names) tells = tells
own_consistent told (Sourced names) (cores, (range, (texts, tell, (logs, spell, same))), (order, is)) =
    (operations_of logs, (range, (texts, tell, (logs, spell, refl))), (order, order_explains logs order few (spelled_short 0 (length texts) texts logs spell) by_sources))
  where
    few : length logs ≤ 64
    few =
        let as_texts : length logs ≡ length texts = as_many 0 (length texts) texts logs spell in
        let as_names : length texts ≡ length names.items = AllZip-long _ _ texts tell in
        let filled = names.ok in
        omega (arith, as_texts, as_names, filled, range.1)

    by_sources : IsSequentialOrder (sourced_operations logs) order
    by_sources = subst (λ (cs : List (List Operation)). IsSequentialOrder cs order) same is

-- a yes says that the operations of the logs themselves are consistent
pub own_yes : (told : List ℕ → Option (List ℕ)) (files : TraceFiles) (answer : SearchAnswer) → TellsTrace told files (λ cores. IsRightOf cores answer) → search_status answer ≡ 0
    → TellsTrace told (own_files files) IsConsistent
own_yes told files (Yes operations) (cores, is, right) zero = own_consistent told files (cores, is, right.0)
own_yes told files (No operations) tells zero = absurd cc
own_yes told files (NoBySources operations) tells zero = absurd cc
