use Rattle.log_file.proofs.one_log.read_log.Goals as goal

pub returns-clause-read : goal.returns-clause-read
returns-clause-read g c = c.read_list.ensures.read

pub returns-clause-quiet : goal.returns-clause-quiet
returns-clause-quiet g c = c.read_list.ensures.quiet
