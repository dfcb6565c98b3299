use Rattle.decimal_text.proofs.Meaning.{number_found}
use Rattle.decimal_text.proofs.read.read_number.Goals as goal

pub returns-clause-found : goal.returns-clause-found
returns-clause-found c = number_found c.args.bytes.now c.number.result c.number.ensures
