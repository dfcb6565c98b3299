use Rattle.std.proofs.lemmas.Str.Pattern.{contains_text}
use Rattle.commands.specs.OtherOrders.{another_words}
use Rattle.commands.proofs.explain_files.has_words.Goals as goal

pub returns : goal.returns
returns c = λ has. (contains_text c.contains.result another_words c.args.text.now c.contains.ensures.cases).1 has
