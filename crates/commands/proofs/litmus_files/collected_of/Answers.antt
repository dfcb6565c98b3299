use Rattle.std.proofs.Common.{◌≡◌, None, subst, rules}
use Rattle.std.proofs.lemmas.Result.{err_from_is_err_and}
use Rattle.lease_rule.specs.ConfigParts.{ConfigParts}
use Rattle.lease_rule.specs.Ranges.{first_bad}
use Rattle.commands.specs.Programmed.{config_of}
use Rattle.commands.specs.Tabling.{IsTableBy}
use Rattle.commands.proofs.Performed.{of_text}
use Rattle.commands.proofs.litmus_files.collected_of.Goals as goal

pub returns-in_err-collect-clause-err : goal.returns-in_err-collect-clause-err
returns-in_err-collect-clause-err g c =
    let p = err_from_is_err_and c.from_residual-in_err-collect.result c.from_residual-in_err-collect.ensures.1 in
    rw p.1 (of_text _ _ p.0 (p.2 c.in_err-collect.ensures.err))

pub returns-clause-ok : goal.returns-clause-ok
returns-clause-ok g c =
    let asked = c.args.asked.now in
    let t = c.in_ok-test.test in
    let config : c.in_ok-config.config ≡ config_of asked.limits = search rules in
    let sound : first_bad (config_of asked.limits) ≡ None = search rules in
    (sound, t, c.in_ok-test.ensures.ok, subst (λ (made : ConfigParts). IsTableBy asked.threads t made asked.runs asked.seed asked.stress c.in_ok-collect.field-0) config c.in_ok-collect.ensures.ok)
