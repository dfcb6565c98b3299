use Rattle.std.proofs.Common.{ℕ, List, Result}
use Rattle.std.specs.Str.Parse.{ExplainsUnsignedError, HasUnsignedDigitsIfOk, ParsesUnsigned}
use Rattle.std.specs.declared.num.ParseIntError.{ParseIntError}
use Rattle.clap.proofs.WalkLemmas.{one_text-rows}
use Rattle.command_line.proofs.Reading.{numbered}
use Rattle.command_line.proofs.words.number_of.Goals as goal

pub returns : goal.returns
returns c =
    rw (← one_text-rows _ _) (numbered
    (λ (t : List ℕ) (x : Result ℕ ParseIntError). ParsesUnsigned 64 10 t x × ExplainsUnsignedError 10 t x × HasUnsignedDigitsIfOk t x)
    (λ t x gives. gives.0) _ _ c.get_one.ensures.none c.get_one.ensures.value
    (λ t at. c.requires.numbers c.args.name.now t c.requires.named (rw (← one_text-rows _ _) at)))
