-- With the arguments that are left it is the command with all of them.
use Rattle.std.proofs.Common.{◌≡◌, drop, map}
use Rattle.clap.specs.Words.{app_of}
use Rattle.command_line.specs.inner.Arguments.{rule_of, with_rules}
use Rattle.command_line.proofs.argument.with_arguments.Given as goal

abbrev pub invariant-loop-argument : goal.invariant-loop-argument
invariant-loop-argument l =
    with_rules (app_of l.made) (map rule_of (drop l.argument-index l.arguments)) ≡ with_rules (app_of l.fn.command) (map rule_of l.arguments)
