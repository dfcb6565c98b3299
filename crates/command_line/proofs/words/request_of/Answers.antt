use Rattle.std.proofs.Common.{ap}
use Rattle.std.proofs.lemmas.Result.{IfErr-weaker, IfOk-weaker}
use Rattle.clap.specs.Faults.{fault_of, is_simple_and_free}
use Rattle.clap.specs.Words.{App}
use Rattle.command_line.specs.Asking.{texts}
use Rattle.command_line.proofs.Numbers.{numbers_named}
use Rattle.command_line.proofs.Reading.{asked_by, refused, refused_by}
use Rattle.command_line.proofs.Subcommands.{found_named, subcommand_named}
use Rattle.command_line.proofs.words.request_of.Goals as goal

pub returns-in-Err-clause-usage : goal.returns-in-Err-clause-usage
returns-in-Err-clause-usage c =
    refused (texts c.args.words.now) _ c.in-Err.error c.refusal.result (ap (λ (app : App). fault_of app (texts c.args.words.now)) c.in_ok-tardis.ensures.app)
    (c.in-Err.ensures.kinds (ap is_simple_and_free c.in_ok-tardis.ensures.app)) c.refusal.ensures

pub asked_of-requires-clause-named : goal.asked_of-requires-clause-named
asked_of-requires-clause-named c =
    let words = found_named _ (texts c.args.words.now) c.in-Ok.matches c.in-Some.name.now _ c.in_ok-tardis.ensures.app c.in-Ok.ensures.matches c.in-Ok.ensures.kinds
    c.in-Some.ensures.name c.in-Some.ensures.rows in
    subcommand_named (texts c.args.words.now) _ words.0 words.1

pub asked_of-requires-clause-numbers : goal.asked_of-requires-clause-numbers
asked_of-requires-clause-numbers c =
    let words = found_named _ (texts c.args.words.now) c.in-Ok.matches c.in-Some.name.now _ c.in_ok-tardis.ensures.app c.in-Ok.ensures.matches c.in-Ok.ensures.kinds
    c.in-Some.ensures.name c.in-Some.ensures.rows in
    numbers_named (texts c.args.words.now) _ words.0 words.1

pub returns-clause-request : goal.returns-clause-request
returns-clause-request c =
    let words = found_named _ (texts c.args.words.now) c.in-Ok.matches c.in-Some.name.now _ c.in_ok-tardis.ensures.app c.in-Ok.ensures.matches c.in-Ok.ensures.kinds
    c.in-Some.ensures.name c.in-Some.ensures.rows in
    IfOk-weaker c.asked_of.result _ _ (λ asked is. asked_by (texts c.args.words.now) _ asked words.0 words.1 is) c.asked_of.ensures.request

pub returns-clause-usage : goal.returns-clause-usage
returns-clause-usage c =
    let words = found_named _ (texts c.args.words.now) c.in-Ok.matches c.in-Some.name.now _ c.in_ok-tardis.ensures.app c.in-Ok.ensures.matches c.in-Ok.ensures.kinds
    c.in-Some.ensures.name c.in-Some.ensures.rows in
    IfErr-weaker c.asked_of.result _ _ (λ refusal is. refused_by (texts c.args.words.now) _ refusal words.1 is) c.asked_of.ensures.usage
