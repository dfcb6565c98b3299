use Rattle.std.proofs.Common.{refl}
use Rattle.trace.proofs.Feeding.{fed_nothing}
use Rattle.trace.proofs.reader.TraceReader.new.Goals as goal

pub returns : goal.returns
returns c = fed_nothing _ c.new.ensures refl c.new-2.ensures.items refl
