-- What an explanation says about another order, one that explains all values, whatever the times say.
use Rattle.std.specs.Prelude.{ℕ, List, Option, codes}
use Rattle.std.specs.Io.KnownBytes.{Appends}
use Rattle.std.specs.Str.Iter.{HasSubslice}
use Rattle.command_line.specs.declared.request.Explain.{Explain}
use Rattle.log_file.specs.Sinks.{Sink}
use Rattle.commands.specs.Checking.{FilesAreConsistent}

-- the words by which it says that there is one
abbrev pub another_words : List ℕ
another_words = codes "so this run is sequentially consistent"

-- the sink took a text that has these words only if the files spell a set whose operations are sequentially consistent
abbrev pub TellsAnother : (List ℕ → Option (List ℕ)) → Explain → Sink → Sink → Type 0
TellsAnother told asked out out' =
    (text : List ℕ) × Appends out.contents out'.contents text × (HasSubslice text another_words → FilesAreConsistent told asked.check)
