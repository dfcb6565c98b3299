use Rattle.commands.proofs.SourceNumbers.{order_explains}
use Rattle.commands.proofs.sources.orders_explain_words.Goals as goal

pub returns : goal.returns
returns c = order_explains
