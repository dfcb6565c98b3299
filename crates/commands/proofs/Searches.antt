-- What a search and a look at a certificate come to, from what was found.
use Rattle.std.proofs.Common.{◌≡◌, ◌∙◌, refl, subst, sym, ap, ℕ, Bor, List, Option, None, Some}
use Rattle.host_files.specs.Files.{Files, KeepsFiles}
use Rattle.log_file.specs.Devices.{Tells}
use Rattle.log_file.specs.Sinks.{Sink, line}
use Rattle.command_line.specs.declared.request.Confirm.{Confirm}
use Rattle.command_line.specs.declared.request.Request.TheVariants as request
use Rattle.command_line.specs.declared.request.Search.{Search}
use Rattle.command_line.specs.declared.request.TraceFiles.{TraceFiles}
use Rattle.command_line.specs.declared.request.TraceFiles.TheVariants.{One, Logs, Sourced}
use Rattle.mem_op.specs.Consistency.{Operation, IsConsistent}
use Rattle.refutation.proofs.Sound.{refutations_hold}
use Rattle.telling.specs.FirstLines.{operation_count}
use Rattle.commands.proofs.OwnTraces.{own_yes}
use Rattle.commands.proofs.Performed.{right_no}
use Rattle.commands.specs.Confirming.{Certifies, TellsBoth}
use Rattle.commands.specs.Outputs.{HoldsAt, IsNameOf}
use Rattle.commands.specs.Promises.{IsAnswered, IsUnreadThere}
use Rattle.commands.specs.SearchAnswers.{IsRightOf, no_of, search_status, search_text}
use Rattle.commands.specs.Searching.{IsNamedApart, IsRefutationText, Shows}
use Rattle.commands.specs.Traces.{IsTraceIn, TellsTrace}
use Rattle.commands.specs.inner.Performing.{IsReadFault}
use Rattle.verdict.specs.declared.judge_fault.JudgeFault.TheVariants.{Read}
use Rattle.commands.specs.VerdictLines.{IsTraceLine, SaysVerdict}
use Rattle.commands.specs.declared.place.Input.TheVariants as input
use Rattle.commands.specs.declared.refusal.Refusal.{Refusal}
use Rattle.commands.specs.declared.refusal.Refusal.TheVariants.{Judge, Unread}
use Rattle.commands.specs.declared.search_answer.SearchAnswer.{SearchAnswer}
use Rattle.commands.specs.declared.search_answer.SearchAnswer.TheVariants.{Yes, No, NoBySources}

-- ---- which answers are right

-- a no is right of whichever files
no_right : (files : TraceFiles) (cores : List (List Operation)) → ¬ (IsConsistent cores) → IsRightOf cores (no_of files (operation_count cores))
no_right (One name) cores isnt = (isnt, refl)
no_right (Logs names) cores isnt = (isnt, refl)
no_right (Sourced names) cores isnt = (isnt, refl)

pub no_answer : (files : TraceFiles) (cores : List (List Operation)) (operations : ℕ) (answer : SearchAnswer) → answer ≡ no_of files operations → operations ≡ operation_count cores
    → ¬ (IsConsistent cores) → IsRightOf cores answer
no_answer files cores operations answer same many isnt = subst (IsRightOf cores) (sym (same ∙ ap (no_of files) many)) (no_right files cores isnt)

no_status : (files : TraceFiles) (operations : ℕ) → search_status (no_of files operations) ≡ 1
no_status (One name) operations = refl
no_status (Logs names) operations = refl
no_status (Sourced names) operations = refl

certified : (files : TraceFiles) (cores : List (List Operation)) (text : List ℕ) (answer : SearchAnswer) → Certifies files cores text answer → IsRightOf cores answer
certified files cores text (Yes operations) ((order, is, spells), many) = ((order, is), many)
certified files cores text (No operations) ((steps, spells, is), told) = subst (IsRightOf cores) (sym told) (no_right files cores (refutations_hold cores steps is))
certified files cores text (NoBySources operations) ((steps, spells, is), told) = subst (IsRightOf cores) (sym told) (no_right files cores (refutations_hold cores steps is))

-- the answer that a certificate gives is right
pub certificate_right : (told : List ℕ → Option (List ℕ)) (asked : Confirm) (answer : SearchAnswer) → TellsBoth told asked (λ cores text. Certifies asked.trace cores text answer)
    → TellsTrace told asked.trace (λ cores. IsRightOf cores answer)
certificate_right told asked answer (cores, there, (text, tells, certifies)) = (cores, there, certified asked.trace cores text answer certifies)

-- the line of an answer that is right
pub trace_line : (told : List ℕ → Option (List ℕ)) (files : TraceFiles) (answer : SearchAnswer) → TellsTrace told files (λ cores. IsRightOf cores answer)
    → IsTraceLine told files (search_status answer) (line (search_text answer))
trace_line told files answer tells = (answer, tells, refl, refl)

-- ---- what was put

-- a file that holds bytes of one kind holds those of another
pub holds_such : (told : List ℕ → Option (List ℕ)) (given : Option (Bor (List ℕ))) (P Q : List ℕ → Type 0) → ((bytes : List ℕ) → P bytes → Q bytes) → HoldsAt told given P
    → HoldsAt told given Q
holds_such told None P Q turned holds = tt
holds_such told (Some name) P Q turned (bytes, tells, is) = (bytes, tells, turned bytes is)

-- it holds them still after another file was put
pub holds_still : (told told' : List ℕ → Option (List ℕ)) (given : Option (Bor (List ℕ))) (IsPut P : List ℕ → Type 0) → ((name : List ℕ) → IsNameOf given name → ¬ (IsPut name))
    → KeepsFiles told told' IsPut → HoldsAt told given P → HoldsAt told' given P
holds_still told told' None IsPut P apart keeps holds = tt
holds_still told told' (Some name) IsPut P apart keeps (bytes, tells, is) =
    (bytes, subst (λ (o : Option (List ℕ)). Tells o bytes) (sym (keeps name.now (apart name.now refl))) tells, is)

-- after a no a refutation is shown
pub shows_no : (told : List ℕ → Option (List ℕ)) (asked : Search) (cores : List (List Operation)) (operations : ℕ) (answer : SearchAnswer) → answer ≡ no_of asked.trace operations
    → (IsNamedApart asked → HoldsAt told asked.refutation (IsRefutationText cores)) → Shows told asked (search_status answer) cores
shows_no told asked cores operations answer same holds = record {
  order = λ zero. (let one : 0 ≡ 1 = sym zero ∙ ap search_status same ∙ no_status asked.trace operations in cc);
  refutation = λ one. holds;
}

-- ---- what a search comes to

module _ (old new : Files) (out out' : Sink) (asked : Search) (cores : List (List Operation)) (answer : SearchAnswer) where
  pub found : IsTraceIn old.told asked.trace cores → IsRightOf cores answer → Shows new.told asked (search_status answer) cores
      → SaysVerdict old.told out out' (request.Search asked) (search_status answer) → IsAnswered old new out out' (request.Search asked) (search_status answer)
  found there right shows says = record {
    sound = own_yes old.told asked.trace answer (cores, there, right);
    flat = λ zero. tt;
    no = right_no old.told asked.trace answer (cores, there, right);
    order = λ zero. tt;
    printed = says;
    shown = (cores, there, shows);
    counted = tt;
    vetted = λ zero. tt;
    another = tt;
    upgraded = λ zero. tt;
    yes = λ zero apart. tt;
  }

-- ---- what a look at a certificate comes to

vet_unread : (unread : List ℕ → Type 0) (asked : Confirm) (refusal : Refusal) → IsUnreadThere unread (request.Confirm asked) refusal → IsUnreadThere unread (request.Vet asked) refusal
vet_unread unread asked (Judge (Read file)) is = is
vet_unread unread asked (Unread input.Trace) is = is
vet_unread unread asked (Unread input.Certificate) is = is
vet_unread unread asked (Unread place) is = absurd is
vet_unread unread asked other is = tt

-- a refusal to confirm is one to vet
pub vet_fault : (unread : List ℕ → Type 0) (asked : Confirm) (refusal : Refusal) → IsReadFault unread (request.Confirm asked) refusal → IsReadFault unread (request.Vet asked) refusal
vet_fault unread asked refusal why = record { unread = vet_unread unread asked refusal why.unread; of_file = why.of_file }

pub confirmed : (old new : Files) (out out' : Sink) (asked : Confirm) (answer : SearchAnswer) → TellsTrace old.told asked.trace (λ cores. IsRightOf cores answer)
    → SaysVerdict old.told out out' (request.Confirm asked) (search_status answer) → IsAnswered old new out out' (request.Confirm asked) (search_status answer)
confirmed old new out out' asked answer right says = record {
  sound = own_yes old.told asked.trace answer right;
  flat = λ zero. tt;
  no = right_no old.told asked.trace answer right;
  order = λ zero. tt;
  printed = says;
  shown = tt;
  counted = tt;
  vetted = λ zero. tt;
  another = tt;
  upgraded = λ zero. tt;
  yes = λ zero apart. tt;
}

pub vetted : (old new : Files) (out out' : Sink) (asked : Confirm) (answer : SearchAnswer) → TellsBoth old.told asked (λ cores text. Certifies asked.trace cores text answer)
    → IsAnswered old new out out' (request.Vet asked) 0
vetted old new out out' asked answer (cores, there, (text, tells, certifies)) = record {
  sound = λ zero. tt;
  flat = λ zero. tt;
  no = λ one. tt;
  order = λ zero. tt;
  printed = tt;
  shown = tt;
  counted = tt;
  vetted = λ zero. (cores, there, (text, tells, (answer, certifies)));
  another = tt;
  upgraded = λ zero. tt;
  yes = λ zero apart. tt;
}
