-- The files so far are opened, and the folder is as it was.
use Rattle.std.proofs.Common.{◌≡◌, take}
use Rattle.commands.specs.LogFiles.{AreSourcesOf}
use Rattle.commands.proofs.log_files.open_all.Given as goal

abbrev pub invariant-opening : goal.invariant-opening
invariant-opening g l = record {
  sources : AreSourcesOf (g.F.Folder.files l.fn.folder).told g.F.Source.ByteSource.remaining l.sources.items (take l.file l.names);
  quiet : g.F.Folder.files l.folder ≡ g.F.Folder.files l.fn.folder;
}
