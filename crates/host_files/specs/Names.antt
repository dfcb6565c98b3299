-- The names of files that were refused.
use Rattle.std.specs.Prelude.{ℕ, List, map, string_bytes}
use Rattle.host_files.specs.declared.refused.RefusedNames.{RefusedNames}

-- the bytes of each
abbrev pub names_in : RefusedNames → List (List ℕ)
names_in refused = map string_bytes refused.names.items
