-- What standard output takes of an answer.
use Rattle.std.specs.Prelude.{◌≡◌, IfSome, Result, Ok, Err}
use Rattle.std.specs.Io.KnownBytes.{Appends}
use Rattle.log_file.specs.Devices.{TakesBeginning}
use Rattle.log_file.specs.Sinks.{Sink, line}
use Rattle.commands.specs.Answers.{answer_text}
use Rattle.commands.specs.declared.answer.CommandAnswer.{CommandAnswer}
use Rattle.commands.specs.declared.refusal.Refusal.{Refusal}
use Rattle.commands.specs.declared.refusal.Refusal.TheVariants.{Unwritten, OutOfMemory}

-- it took the line of the answer, or a beginning of that where it failed, or nothing where there was no memory
abbrev pub IsPrinted : CommandAnswer → Sink → Sink → Result CommandAnswer Refusal → Type 0
IsPrinted answer out out' (Ok same) = (same ≡ answer) × IfSome (answer_text answer) (λ text. Appends out.contents out'.contents (line text))
IsPrinted answer out out' (Err (Unwritten place)) = IfSome (answer_text answer) (λ text. TakesBeginning out.contents out'.contents (line text))
IsPrinted answer out out' (Err OutOfMemory) = out' ≡ out
IsPrinted answer out out' (Err other) = ⊥
