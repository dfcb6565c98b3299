-- The records of a log that is whole.
use Rattle.std.proofs.Common.{Ok, subst}
use Rattle.log_file.specs.Feeding.{Feeding, Finishes}
use Rattle.log_file.proofs.FedAll.{finishes}
use Rattle.log_file.proofs.log_reader.LogReader.finish.Goals as goal

pub returns : goal.returns
returns c =
    let ended = c.in_ok-check_end.ensures in
    subst (λ (s : Feeding). Finishes s.core s.cores s.fed (Ok c.self.inside.records)) c.self.view_is
    (finishes c.self.inside.reader c.self.inside.records c.self.invariant ended.ends ended.again)
