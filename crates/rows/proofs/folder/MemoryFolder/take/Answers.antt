use Rattle.std.proofs.Common.{rules}
use Rattle.rows.proofs.folder.MemoryFolder.take.Goals as goal

pub returns-clause-ok : goal.returns-clause-ok
returns-clause-ok c = (c.in-Ok.file, search rules, search rules, search rules)
