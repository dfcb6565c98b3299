-- The records are those of the operations, and nothing but memory is wanting.
use Rattle.std.proofs.Common.{◌≡◌, ◌∙◌, ap, length, map, subst, sym, List}
use Rattle.std.specs.Prelude.{All}
use Rattle.std.proofs.lemmas.List.{length-map}
use Rattle.verdict.specs.VerdictOf.{verdict_of}
use Rattle.merge_judge.specs.Records.{AreOfLog, GivenLog, logs_from, records_of}
use Rattle.tardis_c.specs.Operations.{logs_of, record_of}
use Rattle.tardis_c.specs.Parts.{parts_of}
use Rattle.tardis_c.proofs.Cut.{parts_many}
use Rattle.tardis_c.proofs.Numbers.{sources_are, sources_good, sources_many}
use Rattle.tardis_c.proofs.checking.operations_verdict.Goals as goal

pub records_verdict-requires-clause-sources : goal.records_verdict-requires-clause-sources
records_verdict-requires-clause-sources c =
    let n = length c.args.ends.now in
    let logs = logs_of (parts_of c.args.operations.now c.args.ends.now) in
    let is = c.as_mut_slice.ensures.value ∙ c.in_ok-sources.ensures in
    let long : length c.as_mut_slice.result.now ≡ n = ap length is ∙ sources_many 0 n logs ∙ length-map (parts_of c.args.operations.now c.args.ends.now) (map record_of) ∙ parts_many 0 c.args.operations.now c.args.ends.now in
    let same : records_of c.as_mut_slice.result.now ≡ logs = ap records_of is ∙ sources_are 0 n logs in
    is ∙ ap (λ k. logs_from 0 k logs) (sym long) ∙ ap (logs_from 0 (length c.as_mut_slice.result.now)) (sym same)

pub records_verdict-requires-clause-logs : goal.records_verdict-requires-clause-logs
records_verdict-requires-clause-logs c =
    subst (λ (ss : List GivenLog). All (λ (log : GivenLog). AreOfLog log.records) ss) (sym (c.as_mut_slice.ensures.value ∙ c.in_ok-sources.ensures))
    (sources_good 0 (length c.args.ends.now) (parts_of c.args.operations.now c.args.ends.now) c.in_ok-check_parts.ensures.parts)

pub returns-in-Ok : goal.returns-in-Ok
returns-in-Ok c =
    let n = length c.args.ends.now in
    let logs = logs_of (parts_of c.args.operations.now c.args.ends.now) in
    (c.in_ok-check_parts.ensures.parts, c.in-Ok.ensures.exact ∙ ap verdict_of (ap records_of (c.as_mut_slice.ensures.value ∙ c.in_ok-sources.ensures) ∙ sources_are 0 n logs))
