-- What status 0 says, and what is told of refused ends.
use Rattle.std.proofs.Common.{sym, ◌∙◌}
use Rattle.tardis_c.specs.Parts.{parts_of}
use Rattle.tardis_c.proofs.Told.{answer_of_ends, yes_spells}
use Rattle.tardis_c.proofs.checking.tardis_check.Goals as goal

pub returns-clause-sound : goal.returns-clause-sound
returns-clause-sound c = λ zero. yes_spells (parts_of c.args.bytes.now c.args.ends.now) c.text_verdict-answer.result c.text_verdict-answer.ensures.answer (sym c.status_of.ensures ∙ zero)

pub returns-clause-refused : goal.returns-clause-refused
returns-clause-refused c = rw (c.status_of.ensures, c.told_of.ensures) (answer_of_ends c.text_verdict-answer.result)
