-- One more run, its outcome counted and its numbers added.
use Rattle.std.proofs.Common.{rules, ◌≡◌, ◌<◌, ◌≤◌, ◌^◌, ℕ, [], Option, subst, arith}
use Rattle.core_machine.specs.Parts.{CoreParts, world}
use Rattle.litmus.specs.Runs.{IsSeededEnd, IsSeededRun, seed_of, seeded_numbers, stress_of}
use Rattle.litmus.proofs.CollectedRuns.{none_so_far, one_more_run}
use Rattle.litmus.proofs.seeded.collect_seeded.Goals as goal

pub add_run-requires : goal.add_run-requires
add_run-requires g c =
    let most : c.args.runs ≤ 100000 = search rules in
    let few : c.loop-run.run < 2 ^ 20 = omega arith in
    (c.loop-run.run, few, c.loop-run.invariant.bounded)

pub loop-run-preserved : goal.loop-run-preserved
loop-run-preserved g c =
    let end = subst (λ (s : Option ℕ). IsSeededEnd c.args.test.now c.args.config.now (seed_of c.args.seed c.loop-run.run) s c.in-Ok.kept.outcome.items c.in-Ok.kept.counts) c.stress_of-between.ensures c.in-Ok.ensures.run in
    one_more_run CoreParts (λ n. IsSeededRun c.args.test.now c.args.config.now (seed_of c.args.seed n) (stress_of c.args.stress n)) world (seeded_numbers c.args.test.now c.args.config.now) c.args.test.now c.loop-run.run
    c.loop-run.tally.entries c.count_outcome.new.tally.entries c.loop-run.totals c.add_run.new.self c.in-Ok.kept.outcome.items c.in-Ok.kept.counts
    c.loop-run.invariant end c.in_ok-count_outcome-in-Ok.ensures c.add_run.ensures.totals
    (c.add_run.ensures.bounded c.loop-run.run c.loop-run.invariant.bounded)

pub loop-run-init : goal.loop-run-init
loop-run-init g c =
    let none : c.new-tally.result.entries ≡ [] = search rules in
    rw none (none_so_far CoreParts (λ n. IsSeededRun c.args.test.now c.args.config.now (seed_of c.args.seed n) (stress_of c.args.stress n)) world (seeded_numbers c.args.test.now c.args.config.now) c.args.test.now c.none-totals.result
    c.none-totals.ensures.totals c.none-totals.ensures.bounded)
