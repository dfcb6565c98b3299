-- What a certificate says of a trace.
use Rattle.std.specs.Prelude.{◌≡◌, ℕ, List, Option}
use Rattle.command_line.specs.declared.request.Confirm.{Confirm}
use Rattle.command_line.specs.declared.request.TraceFiles.{TraceFiles}
use Rattle.log_file.specs.Devices.{Tells}
use Rattle.mem_op.specs.Consistency.{Operation}
use Rattle.refutation.specs.Texts.{SpellsRefutation}
use Rattle.telling.specs.FirstLines.{operation_count}
use Rattle.commands.specs.OrderTexts.{SpellsOrder}
use Rattle.commands.specs.SearchAnswers.{no_of}
use Rattle.commands.specs.Traces.{TellsTrace}
use Rattle.commands.specs.declared.search_answer.SearchAnswer.{SearchAnswer}
use Rattle.commands.specs.declared.search_answer.SearchAnswer.TheVariants.{Yes}

-- the text of a sequential order of the trace in these files certifies a Yes, and the text of a refutation a No
abbrev pub Certifies : TraceFiles → List (List Operation) → List ℕ → SearchAnswer → Type 0
Certifies files cores text (Yes operations) = SpellsOrder cores text × (operations ≡ operation_count cores)
Certifies files cores text answer = SpellsRefutation cores text × (answer ≡ no_of files (operation_count cores))

-- the files tell a trace, and this holds of it and of the text of the certificate
abbrev pub TellsBoth : (List ℕ → Option (List ℕ)) → Confirm → (List (List Operation) → List ℕ → Type 0) → Type 0
TellsBoth told asked Holds =
    TellsTrace told asked.trace (λ cores. (text : List ℕ) × Tells (told asked.certificate.now) text × Holds cores text)

-- the text is a certificate of the trace
abbrev pub HasCertificate : (List ℕ → Option (List ℕ)) → Confirm → Type 0
HasCertificate told asked = TellsBoth told asked (λ cores text. (answer : SearchAnswer) × Certifies asked.trace cores text answer)
