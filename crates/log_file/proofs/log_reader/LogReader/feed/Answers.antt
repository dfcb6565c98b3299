-- While no fault came, no fault but Truncated holds, and the bytes are no more than a log's.
use Rattle.log_file.proofs.FedAll.{open_after, few_after}
use Rattle.log_file.proofs.log_reader.LogReader.feed.Goals as goal

pub returns-clause-at_once : goal.returns-clause-at_once
returns-clause-at_once c = open_after c.feed_all.result c.feed_all.ensures.fed

pub returns-clause-bounded : goal.returns-clause-bounded
returns-clause-bounded c = few_after c.feed_all.result c.feed_all.ensures.fed
