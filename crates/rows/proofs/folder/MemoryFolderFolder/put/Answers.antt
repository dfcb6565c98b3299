use Rattle.std.proofs.Common.{ap}
use Rattle.rows.proofs.Told.{others_told, put_told}
use Rattle.rows.proofs.folder.MemoryFolderFolder.put.Goals as goal

pub returns-then-is_err-clause-others : goal.returns-then-is_err-clause-others
returns-then-is_err-clause-others c other differs =
    others_told _ _ _ _ _ _ c.take-taken.result (ap (λ g. g.files.now) c.take-taken.ensures.given) c.take-taken.ensures.ok c.take-taken.ensures.err other differs

pub returns-else-is_err-clause-bytes : goal.returns-else-is_err-clause-bytes
returns-else-is_err-clause-bytes c =
    put_told c.take-taken.new.self.given.files.now c.args.self.now.put.items c.take-taken.new.self.put.items c.args.name.now c.args.bytes.now c.take-taken.result c.take-taken.ensures.ok

pub returns-else-is_err-clause-others : goal.returns-else-is_err-clause-others
returns-else-is_err-clause-others c other differs =
    others_told _ _ _ _ _ _ c.take-taken.result (ap (λ g. g.files.now) c.take-taken.ensures.given) c.take-taken.ensures.ok c.take-taken.ensures.err other differs
