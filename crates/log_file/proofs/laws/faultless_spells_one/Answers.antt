use Rattle.log_file.proofs.Walk.{faultless_spells}
use Rattle.log_file.proofs.Once.{one_log}
use Rattle.log_file.proofs.laws.faultless_spells_one.Goals as goal

pub returns : goal.returns
returns c = λ core cores bytes none.
    let p = faultless_spells core cores bytes none in
    (p.0, p.1, λ others spells. one_log core cores bytes others p.0 spells p.1)
