use Rattle.std.proofs.Common.{◌≡◌, ◌∙◌, ap, map}
use Rattle.std.specs.Prelude.{IfOk}
use Rattle.std.proofs.lemmas.Result.{IfOk-weaker}
use Rattle.clap.specs.Words.{App, app_of}
use Rattle.command_line.specs.inner.Arguments.{app_with, rule_of, with_rules}
use Rattle.command_line.proofs.Local.{made_of}
use Rattle.command_line.proofs.Plain.{plain_made}
use Rattle.command_line.proofs.grammar.clap_command.Goals as goal

pub returns : goal.returns
returns c =
    let it = c.args.subcommand.now in
    let limits = c.in_ok-command.ensures ∙ ap (λ (app : App). with_rules app (map rule_of it.limits.now)) c.named-command.ensures in
    let all : IfOk c.with_arguments-2.result (λ made. app_of made ≡ app_with it) =
    made_of c.with_arguments-2.result _ (app_with it) (ap (λ (app : App). with_rules app (map rule_of it.arguments.now)) limits) c.with_arguments-2.ensures in
    record {
      app = all;
      plain = IfOk-weaker c.with_arguments-2.result (λ made. app_of made ≡ app_with it) _ (λ made is. ap (λ (app : App). app.top.is_plain) is ∙ plain_made it) all;
    }
