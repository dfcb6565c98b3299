use Rattle.std.proofs.Common.{rules}
use Rattle.memory_stamp.proofs.Maps.{get-lookup}
use Rattle.memory_stamp.proofs.words.Words.get.Goals as goal

pub returns : goal.returns
returns c = rw (← c.self.view_is, get-lookup c.self.inside.words.entries c.args.addr) (search rules)
