-- A subcommand of the table is plain, and a command line with subcommands is known where what they were added to is.
use Rattle.std.proofs.Common.{◌≡◌, ◌∙◌, ap, refl, true, List, [], ◌∷◌, map, Result}
use Rattle.std.specs.Prelude.{IfOk}
use Rattle.std.proofs.lemmas.Result.{IfOk-weaker}
use Rattle.clap.specs.Words.{App, Rule, app_of, new_app, with_rule}
use Rattle.clap.specs.declared.builder.command.Command.{Command}
use Rattle.command_line.specs.declared.subcommand.Subcommand.{Subcommand}
use Rattle.command_line.specs.inner.Arguments.{app_with, rule_of, with_rules, with_subcommands}

-- rules leave it as plain as it was
as_plain : (app : App) (rules : List Rule) → (with_rules app rules).top.is_plain ≡ app.top.is_plain
as_plain app [] = refl
as_plain app (one ∷ more) = as_plain (with_rule app one) more

pub plain_made : (it : Subcommand) → (app_with it).top.is_plain ≡ true
plain_made it = as_plain (with_rules (new_app it.name.now) (map rule_of it.limits.now)) (map rule_of it.arguments.now)
    ∙ as_plain (new_app it.name.now) (map rule_of it.limits.now)

pub from_known : {E : Type 0} (r : Result Command E) (start known whole : App) (subcommands : List Subcommand) → start ≡ known
    → IfOk r (λ made. app_of made ≡ with_subcommands start subcommands) → with_subcommands known subcommands ≡ whole → IfOk r (λ made. app_of made ≡ whole)
from_known r start known whole subcommands is all same = IfOk-weaker r _ _ (λ made it. it ∙ ap (λ (app : App). with_subcommands app subcommands) is ∙ same) all
