use Rattle.std.proofs.Common.{◌≡◌, ◌∙◌, ap, refl, true}
use Rattle.std.specs.Prelude.{IfOk}
use Rattle.std.proofs.lemmas.Result.{IfOk-weaker}
use Rattle.clap.specs.Simple.{app_of_fields, on_top}
use Rattle.clap.specs.Words.{App, Shape, app_of}
use Rattle.command_line.specs.Grammar.{bare, tardis}
use Rattle.command_line.specs.inner.Arguments.{with_subcommands}
use Rattle.command_line.proofs.Local.{no_globals}
use Rattle.command_line.proofs.Plain.{from_known}
use Rattle.command_line.proofs.grammar.tardis.Goals as goal

pub returns : goal.returns
returns c =
    let start = ap app_of_fields c.subcommand_required-command.ensures ∙ ap (on_top (λ (top : Shape). record top { subcommand_required = true })) c.named.ensures in
    let adds : IfOk c.with_subcommands.result (λ made. app_of made ≡ tardis) =
    from_known c.with_subcommands.result _ bare tardis _ start c.with_subcommands.ensures (unfold with_subcommands in refl) in
    record {
      app = adds;
      local = IfOk-weaker c.with_subcommands.result (λ made. app_of made ≡ tardis) _ (λ made is. no_globals made (ap (λ (app : App). app.top.is_plain) is)) adds;
    }
