use Rattle.command_line.proofs.Reading.{version_asked}
use Rattle.command_line.proofs.words.asks_version.Goals as goal

pub returns-in-len2 : goal.returns-in-len2
returns-in-len2 c = version_asked c.args.words.now _ c.eq.result c.in-len2.len_at_least c.in-len2.len_below c.eq.ensures
