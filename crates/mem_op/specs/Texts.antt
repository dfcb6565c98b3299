-- How an id is written.
use Rattle.std.specs.Prelude.{ℕ, List, ◌++◌, codes}
use Rattle.std.specs.Fmt.{decimal}
use Rattle.mem_op.specs.Parts.{IdParts}

-- as `1.0`
abbrev pub id_text : IdParts → List ℕ
id_text id = decimal id.core ++ codes "." ++ decimal id.index
