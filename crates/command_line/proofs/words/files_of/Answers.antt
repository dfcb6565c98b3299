use Rattle.std.proofs.Common.{◌∙◌, ap, refl, List, [], Option, Bor}
use Rattle.std.specs.Prelude.{unwrap_or}
use Rattle.std.proofs.lemmas.Result.{IfOk-weaker}
use Rattle.clap.proofs.WalkLemmas.{raw_values-rows}
use Rattle.clap.specs.Words.{Text}
use Rattle.command_line.specs.Asking.{texts}
use Rattle.command_line.proofs.Reading.{texts_or_none}
use Rattle.command_line.proofs.words.files_of.Goals as goal

pub returns : goal.returns
returns c =
    rw (← raw_values-rows _ _) (IfOk-weaker c.from_slice.result _ _
    (λ v items. ap texts (items ∙ ap (λ (s : Bor (List (Bor Text))). s.now) c.unwrap_or.ensures) ∙ texts_or_none _ _ refl
    ∙ ap (λ (o : Option (List Text)). unwrap_or o []) c.get_strs.ensures)
    c.from_slice.ensures.items)
