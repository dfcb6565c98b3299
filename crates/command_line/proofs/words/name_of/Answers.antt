use Rattle.clap.proofs.WalkLemmas.{first_value-rows}
use Rattle.command_line.proofs.words.name_of.Goals as goal

pub returns : goal.returns
returns c = rw (← first_value-rows _ _) c.get_str.ensures
