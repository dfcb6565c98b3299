-- The folder of the call tells the files that were given.
use Rattle.std.proofs.Common.{subst}
use Rattle.host_files.specs.Files.{Files}
use Rattle.command_line.specs.Asking.{texts}
use Rattle.commands.specs.Promises.{AreConsistent, AskFor}
use Rattle.worked_rows.proofs.call.call.Goals as goal

pub returns : goal.returns
returns g c = record {
  sound = λ zero.
      subst (λ (files : Files). AskFor (texts c.args.words.now) (AreConsistent files.told)) c.new-folder.ensures (c.in_ok-done.ensures.sound zero);
}
