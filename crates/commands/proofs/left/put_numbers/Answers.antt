use Rattle.std.proofs.Common.{Some, rules}
use Rattle.std.specs.Prelude.{OnOk}
use Rattle.commands.specs.Numbers.{numbers_of}
use Rattle.commands.specs.Outputs.{PutsAt}
use Rattle.commands.proofs.Numbers.{put_tried, unput}
use Rattle.commands.proofs.left.put_numbers.Goals as goal

pub returns-clause-tried : goal.returns-clause-tried
returns-clause-tried g c =
    let files = g.F.Folder.files in
    let old = files c.args.folder.now in
    let new = files c.put_under.new.folder in
    let text = numbers_of c.args.leaving.now.cores c.args.leaving.now.slices c.args.units.now c.args.managers.now in
    let puts : OnOk c.put_under.result (PutsAt old new (Some c.in-Some.name) text) = search rules in
    rw c.in-Some.is (put_tried old new (Some c.in-Some.name) text _ c.put_under.result puts c.put_under.ensures.err)

pub returns-clause-err : goal.returns-clause-err
returns-clause-err g c = unput _ _ c.put_under.result c.put_under.ensures.err
