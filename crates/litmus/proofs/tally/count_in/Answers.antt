use Rattle.litmus.proofs.Tallied.{count_found}
use Rattle.litmus.proofs.tally.count_in.Goals as goal

pub returns-in-Some : goal.returns-in-Some
returns-in-Some c = count_found c.args.outcome.now c.args.tally.now.entries _ c.in-Some.ensures.value

pub returns-in-None : goal.returns-in-None
returns-in-None c = count_found c.args.outcome.now c.args.tally.now.entries _ c.in-None.ensures.value
