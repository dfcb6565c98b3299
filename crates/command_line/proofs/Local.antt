-- What is read of a command, or of an argument, tells that its subcommands take nothing over from it; and what a last call makes.
use Rattle.std.proofs.Common.{◌≡◌, ◌∙◌, not, true, false, is_some, Result}
use Rattle.std.specs.Prelude.{IfOk}
use Rattle.std.proofs.lemmas.Result.{IfOk-weaker}
use Rattle.clap.proofs.SimpleLemmas.{is_false, plain_fields}
use Rattle.clap.proofs.WalkLemmas.{both}
use Rattle.clap.specs.Simple.{App, app_of}
use Rattle.clap.specs.Walk.{is_empty, is_simple_arg}
use Rattle.clap.specs.declared.builder.arg.Arg.{Arg}
use Rattle.clap.specs.declared.builder.command.Command.{Command}
use Rattle.clap.specs.declared.builder.command.Command.TheViews.{out-Command}

-- a plain command has no global argument
pub no_globals : (command : Command) → (app_of command).top.is_plain ≡ true → (out-Command command).has_globals ≡ false
no_globals command plain = (plain_fields command plain).globals

-- a simple argument isn't global
pub not_global : (argument : Arg) → is_simple_arg argument ≡ true → argument.global ≡ false
not_global argument simple =
    let overrides = both (is_empty argument.overrides.items) _ simple in
    let defaults = both (is_empty argument.default_vals_ifs.items) _ overrides.1 in
    let groups = both (is_empty argument.groups.items) _ defaults.1 in
    let delimiter = both (not (is_some argument.val_delim)) _ groups.1 in
    let terminator = both (not (is_some argument.terminator)) _ delimiter.1 in
    let hyphens = both (not argument.allow_hyphen_values) _ terminator.1 in
    let negatives = both (not argument.allow_negative_numbers) _ hyphens.1 in
    let equals = both (not argument.require_equals) _ negatives.1 in
    let last = both (not argument.last) _ equals.1 in
    is_false argument.global last.1

-- what a last call makes, of a command line that is known
pub made_of : {E : Type 0} (r : Result Command E) (a b : App) → a ≡ b → IfOk r (λ made. app_of made ≡ a) → IfOk r (λ made. app_of made ≡ b)
made_of r a b same = IfOk-weaker r (λ made. app_of made ≡ a) (λ made. app_of made ≡ b) (λ made is. is ∙ same)
