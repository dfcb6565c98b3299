use Rattle.decimal_text.proofs.Meaning.{field_found}
use Rattle.decimal_text.proofs.read.read_field.Goals as goal

pub returns-clause-found : goal.returns-clause-found
returns-clause-found c = field_found c.args.end c.args.bytes.now c.field.result c.field.ensures
