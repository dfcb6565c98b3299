-- The names of the subcommands.
use Rattle.std.specs.Prelude.{Bool, List, [], ◌∷◌, codes}
use Rattle.std.specs.List.{list_any}
use Rattle.std.specs.Str.{bytes_eq}
use Rattle.clap.specs.Words.{Text}

abbrev pub subcommand_names : List Text
subcommand_names =
    codes "check" ∷ codes "order" ∷ codes "explain" ∷ codes "sim" ∷ codes "run" ∷ codes "litmus" ∷ codes "upgrade" ∷ codes "search" ∷ codes "confirm" ∷ codes "replay" ∷ []

-- whether it is one of them
abbrev pub is_subcommand : Text → Bool
is_subcommand name = list_any (bytes_eq name) subcommand_names
