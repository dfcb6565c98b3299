-- What is known of a folder in memory.
use Rattle.host_files.specs.Files.{Files}
use Rattle.host_files.specs.Names.{names_in}
use Rattle.rows.specs.Files.{files_in}
use Rattle.rows.specs.declared.folder.MemoryFolder.{MemoryFolder}

abbrev pub files_held : MemoryFolder → Files
files_held folder = files_in folder.given.files.now folder.put.items (names_in folder.refused) folder.failures
