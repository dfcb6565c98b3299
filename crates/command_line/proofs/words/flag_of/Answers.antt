use Rattle.clap.proofs.WalkLemmas.{one_text-rows}
use Rattle.command_line.proofs.words.flag_of.Goals as goal

pub returns : goal.returns
returns c = rw (← one_text-rows _ _) (record { none = c.get_flag.ensures.none; yes = c.get_flag.ensures.value; no = c.get_flag.ensures.other })
