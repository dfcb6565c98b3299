-- What the tables of subcommands and of arguments are in the grammar. Private contracts cite these.
use Rattle.std.specs.Prelude.{List, [], ◌∷◌, map}
use Rattle.clap.specs.Words.{App, Rule, new_app, with_rule, with_subcommand}
use Rattle.command_line.specs.Grammar as grammar
use Rattle.command_line.specs.declared.argument.Argument.{Argument}
use Rattle.command_line.specs.declared.argument.Argument.TheVariants.{Number, File, Flag, Name, Files}
use Rattle.command_line.specs.declared.subcommand.Subcommand.{Subcommand}

-- the rule of an argument
abbrev pub rule_of : Argument → Rule
rule_of (Number name help) = grammar.number_option name.now
rule_of (File name help) = grammar.file_option name.now
rule_of (Flag name help) = grammar.flag name.now
rule_of (Name name help) = grammar.name name.now
rule_of (Files help) = grammar.files

-- a command with rules, one after the other
abbrev pub with_rules : App → List Rule → App
with_rules app [] = app
with_rules app (one ∷ more) = with_rules (with_rule app one) more

-- the command of a subcommand: its options of the machine, and its own arguments
abbrev pub app_with : Subcommand → App
app_with subcommand =
    with_rules (with_rules (new_app subcommand.name.now) (map rule_of subcommand.limits.now)) (map rule_of subcommand.arguments.now)

-- a command line with subcommands, one after the other
unfoldable pub with_subcommands : App → List Subcommand → App
with_subcommands app [] = app
with_subcommands app (one ∷ more) = with_subcommands (with_subcommand app (app_with one).top) more
