-- What is known of the host's files.
use Rattle.std.specs.Prelude.{ℕ, List, Bool, None, codes, not}
use Rattle.std.specs.Str.{bytes_eq}
use Rattle.host_files.specs.Files.{Files}

-- whether a file isn't the standard input, which is there to be read
abbrev pub is_on_disk : List ℕ → Bool
is_on_disk name = not (bytes_eq name (codes "/dev/stdin"))

-- the folder tells the bytes of no file, and may refuse each but the standard input
abbrev pub files_of_host : List (List ℕ) → ℕ → Files
files_of_host refused failed = record { told = λ name. None; may_refuse = is_on_disk; refused = refused; failed = failed }
