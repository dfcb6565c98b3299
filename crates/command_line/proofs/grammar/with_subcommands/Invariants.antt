-- With the subcommands that are left it is the command line with all of them.
use Rattle.std.proofs.Common.{◌≡◌, drop}
use Rattle.clap.specs.Words.{app_of}
use Rattle.command_line.specs.inner.Arguments.{with_subcommands}
use Rattle.command_line.proofs.grammar.with_subcommands.Given as goal

abbrev pub invariant-loop-subcommand : goal.invariant-loop-subcommand
invariant-loop-subcommand l =
    with_subcommands (app_of l.made) (drop l.subcommand-index l.subcommands) ≡ with_subcommands (app_of l.fn.command) l.subcommands
