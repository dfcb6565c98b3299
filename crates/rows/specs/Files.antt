-- What a folder in memory says of its files.
use Rattle.std.specs.Prelude.{ℕ, List, [], ◌∷◌, ◌||◌, Bool, Option, None, Some, if◌then◌else◌, is_none, is_some, string_bytes}
use Rattle.std.specs.Option.{option_or}
use Rattle.std.specs.Str.{bytes_eq}
use Rattle.host_files.specs.Files.{Files}
use Rattle.rows.specs.declared.file.File.{File}

-- the bytes of a file, if it has this name
abbrev pub told_by : File → List ℕ → Option (List ℕ)
told_by file name = if bytes_eq (string_bytes file.name) name then Some file.bytes.items else None

-- the bytes of the last file with a name
abbrev pub told_in : List File → List ℕ → Option (List ℕ)
told_in [] name = None
told_in (file ∷ files) name = option_or (told_in files name) (told_by file name)

-- a folder that was given some files, and into which others were put later
abbrev pub told_of : List File → List File → List ℕ → Option (List ℕ)
told_of given put name = option_or (told_in put name) (told_in given name)

-- whether the folder may refuse to open a file: one that was put later, or one that wasn't given to it
abbrev pub may_refuse_of : List File → List File → List ℕ → Bool
may_refuse_of given put name = is_some (told_in put name) || is_none (told_in given name)

abbrev pub files_in : List File → List File → List (List ℕ) → ℕ → Files
files_in given put refused failed = record { told = told_of given put; may_refuse = may_refuse_of given put; refused = refused; failed = failed }
