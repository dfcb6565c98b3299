-- The names of the files so far that were given.
use Rattle.std.proofs.Common.{◌≡◌, take}
use Rattle.command_line.specs.Files.{names_given, texts}
use Rattle.command_line.proofs.apart.names_of.Given as goal

abbrev pub invariant-loop-file : goal.invariant-loop-file
invariant-loop-file l = texts l.names.items ≡ names_given (take l.file-index l.given)
