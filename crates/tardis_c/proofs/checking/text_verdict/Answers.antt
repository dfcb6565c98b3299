-- The texts that the sources tell are those in the buffer.
use Rattle.std.proofs.Common.{◌≡◌, ◌↔◌, ◌∙◌, sym, ap, subst, length, List, ℕ, Some}
use Rattle.std.specs.List.{AllZip}
use Rattle.std.proofs.lemmas.List.{length-map}
use Rattle.log_file.specs.Devices.{Tells}
use Rattle.log_file.specs.InMemory.{rest_of}
use Rattle.verdict.specs.Counts.{IsOutOfRange}
use Rattle.verdict.specs.Judgement.{IsAnswerTo}
use Rattle.tardis_c.specs.Parts.{parts_of}
use Rattle.tardis_c.specs.Told.{status_of}
use Rattle.tardis_c.proofs.Cut.{parts_many}
use Rattle.tardis_c.proofs.Told.{refused_files, told}
use Rattle.tardis_c.proofs.checking.text_verdict.Goals as goal

pub returns-clause-files : goal.returns-clause-files
returns-clause-files c =
    let sources = c.in_ok-sources.sources.items in
    let many : length sources ≡ length c.args.ends.now = sym (length-map sources rest_of) ∙ ap length c.in_ok-sources.ensures ∙ parts_many 0 c.args.bytes.now c.args.ends.now in
    let e = c.merged_verdict.ensures in
    subst (λ (n : ℕ). status_of c.merged_verdict.result ≡ 3 ↔ IsOutOfRange n) (ap length c.as_mut_slice.ensures.value ∙ many) (refused_files c.merged_verdict.result (length c.as_mut_slice.result.now) e.files e.workers e.programs)

pub returns-clause-answer : goal.returns-clause-answer
returns-clause-answer c =
    let sources = c.in_ok-sources.sources.items in
    let exact = c.merged_verdict.ensures.exact in
    let zip : AllZip (λ source text. Tells (Some source.bytes.now) text) sources exact.0 = subst (λ ss. AllZip (λ source text. Tells (Some source.bytes.now) text) ss exact.0) c.as_mut_slice.ensures.value exact.1 in
    subst (λ (ts : List (List ℕ)). IsAnswerTo ts c.merged_verdict.result) (told sources exact.0 (parts_of c.args.bytes.now c.args.ends.now) zip c.in_ok-sources.ensures) exact.2
