-- What an explanation comes to, from what its parts answer.
use Rattle.std.proofs.Common.{◌≡◌, ◌≤◌, ◌++◌, ap, arith, refl, inl, ℕ, List, length, length-append, Option, None, Some, option_copied}
use Rattle.std.specs.Prelude.{option_map}
use Rattle.std.specs.Borrow.{Bor}
use Rattle.std.specs.Str.Iter.{HasSubslice}
use Rattle.command_line.specs.declared.request.Explain.{Explain}
use Rattle.command_line.specs.declared.request.Request.TheVariants as request
use Rattle.core_program.specs.SetParts.{SetParts}
use Rattle.verdict.specs.CoreFaultsOf.{given}
use Rattle.log_file.specs.Sinks.{Sink}
use Rattle.commands.specs.OtherOrders.{another_words}
use Rattle.commands.specs.Promises.{IsCutShort}
use Rattle.commands.specs.declared.refusal.Refusal.{Refusal}
use Rattle.commands.specs.declared.refusal.Refusal.TheVariants.{Unwritten}

-- the programs that a reference leads to are those that were read
pub given_is : (lent : Option (Bor SetParts)) (set : Option SetParts) → option_copied lent ≡ set → given lent ≡ option_map (λ s. s.programs) set
given_is None set is = ap (λ (o : Option SetParts). option_map (λ s. s.programs) o) is
given_is (Some lent) set is = ap (λ (o : Option SetParts). option_map (λ s. s.programs) o) is

-- the line of a verdict is too short for the words about another order
pub too_short : (text : List ℕ) → length text ≤ 37 → ¬ (HasSubslice text another_words)
too_short text few (before, after, same) =
    let long : length text ≡ length (before ++ (another_words ++ after)) = ap length same in
    let words : length another_words ≡ 38 = refl in
    omega (arith, few, long, words, length-append before (another_words ++ after), length-append another_words after)

-- nothing was written
pub unwritten : (told : List ℕ → Option (List ℕ)) (sink : Sink) (asked : Explain) (refusal : Refusal) → IsCutShort told sink sink (request.Explain asked) refusal
unwritten told sink asked (Unwritten place) = inl refl
unwritten told sink asked other = tt
