use Rattle.std.proofs.Common.{rules, true}
use Rattle.rows.proofs.Told.{next_named, next_other}
use Rattle.rows.proofs.file.find.Goals as goal
use Rattle.rows.proofs.file.find.Goals.{then-eq, else-eq}

pub loop-file-preserved : goal.loop-file-preserved
loop-file-preserved c =
    let files = c.args.files.now in
    elim c.if-eq.branch [
      | then-eq w ↦ next_named files c.loop-file.file-index c.file-item.result c.args.name.now c.loop-file-test.true c.file-item.is (search rules) c.if-eq.found (search rules)
      | else-eq w ↦ next_other files c.loop-file.file-index c.file-item.result c.args.name.now c.loop-file-test.true c.file-item.is (search rules) c.loop-file.found c.if-eq.found c.loop-file.invariant (search rules)
    ]
