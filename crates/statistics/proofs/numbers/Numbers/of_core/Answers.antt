use Rattle.statistics.specs.Columns.{column_at}
use Rattle.statistics.specs.Numbers.{by_place}
use Rattle.statistics.proofs.numbers.Numbers.of_core.Goals as goal

pub returns-clause-numbers : goal.returns-clause-numbers
unfolding by_place column_at
returns-clause-numbers c =
    rw (c.count_entries-values.ensures.counts, c.get.ensures.value, c.pts.ensures, c.greatest_rank.ensures, c.transcript.ensures.entries, c.log-log.ensures.records, c.period.ensures.value, c.config.ensures)
