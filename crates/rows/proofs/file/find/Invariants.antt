-- The last file of the name among those so far.
use Rattle.std.proofs.Common.{◌≡◌, take, option_map}
use Rattle.rows.specs.Files.{told_in}
use Rattle.rows.proofs.file.find.Given as goal

abbrev pub invariant-loop-file : goal.invariant-loop-file
invariant-loop-file l = option_map (λ file. file.now.bytes.items) l.found ≡ told_in (take l.file-index l.files) l.name
