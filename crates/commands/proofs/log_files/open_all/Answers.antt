use Rattle.std.proofs.Common.{rules, ◌≡◌, ◌++◌, ◌∷◌, ◌∙◌, [], Err, length}
use Rattle.verdict.specs.Counts.{IsInRange}
use Rattle.commands.proofs.LogFiles.{not_counted, one_file_more, refused_at}
use Rattle.commands.proofs.log_files.open_all.Goals as goal

pub returns-in_err-check_counts-clause-err : goal.returns-in_err-check_counts-clause-err
returns-in_err-check_counts-clause-err g c =
    let is : c.from_residual.result ≡ Err c.in_err-check_counts.field-0.0 = search rules in
    rw is (not_counted (g.F.Folder.files c.args.folder.now) c.args.names.now c.in_err-check_counts.field-0.0 c.in_err-check_counts.ensures.ok c.in_err-check_counts.ensures.err
    c.in_err-check_counts.ensures.files c.in_err-check_counts.ensures.workers)

pub returns-in-Err-Read-clause-err : goal.returns-in-Err-Read-clause-err
returns-in-Err-Read-clause-err g c =
    let files = g.F.Folder.files in
    let refused = rw c.in-Err-Read.field-0-is at c.in-Err-Read.ensures.refused in
    let range : IsInRange (length c.args.names.now) = search rules in
    (range, refused_at (files c.args.folder.now) (files c.opening.folder) (files c.open_file.new.self) c.args.names.now c.opening.file _ c.opening.invariant.quiet c.opening-test.true refused)

pub opening-preserved : goal.opening-preserved
opening-preserved g c =
    let files = g.F.Folder.files in
    let items : c.push.new.self.items ≡ c.opening.sources.items ++ c.in-Ok.source ∷ [] = search rules in
    record {
      sources = rw items (one_file_more (files c.args.folder.now) (files c.opening.folder) _ _ _ c.opening.file c.in-Ok.source _ c.opening.invariant.quiet c.opening-test.true c.opening.invariant.sources
          c.in-Ok.ensures.opened);
      quiet = c.in-Ok.ensures.refused ∙ c.opening.invariant.quiet;
    }
