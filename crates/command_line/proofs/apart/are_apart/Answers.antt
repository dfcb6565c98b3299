use Rattle.std.proofs.Common.{rules, ◌≡◌, ◌∙◌, ◌++◌, ◌↔◌, ap, refl, subst, true, false, not, IsTrue, List, None, Some, Bor}
use Rattle.std.specs.Prelude.{Contains}
use Rattle.std.proofs.lemmas.List.{map-append}
use Rattle.clap.specs.Words.{Text}
use Rattle.command_line.specs.Files.{files_put, files_read, logs_put, texts}
use Rattle.command_line.specs.RunFiles.{IsLogName}
use Rattle.command_line.proofs.NamesApart.{tested, unfound, with_logs, without_logs}
use Rattle.command_line.proofs.apart.are_apart.Goals as goal

pub returns-then-not-are_new : goal.returns-then-not-are_new
returns-then-not-are_new c =
    let asked = c.args.request.now in
    let reads : texts c.as_slice-2.result.now ≡ files_read asked = search rules in
    let puts : texts c.as_slice.result.now ≡ files_put asked = search rules in
    let taken : c.are_new.result ≡ false = search rules in (
      λ yes. absurd cc,
      λ apart. absurd (unfound c.are_new.result c.are_new.ensures taken
          ((tested asked (texts c.as_slice-2.result.now) (texts c.as_slice.result.now) reads puts).0 apart).0),
    )

pub returns-in_default : goal.returns-in_default
returns-in_default c =
    let asked = c.args.request.now in
    let reads : texts c.as_slice-2.result.now ≡ files_read asked = search rules in
    let puts : texts c.as_slice.result.now ≡ files_put asked = search rules in
    let new : c.are_new.result ≡ true = search rules in
    let none : None ≡ logs_put asked = search rules in (
      λ yes. without_logs asked (texts c.as_slice-2.result.now) (texts c.as_slice.result.now)
          (tested asked (texts c.as_slice-2.result.now) (texts c.as_slice.result.now) reads puts) none (c.are_new.ensures.0 new),
      λ apart. refl,
    )

pub returns : goal.returns
returns c =
    let asked = c.args.request.now in
    let out = c.in-Some.out.now in
    let has = c.in_ok-has_log_name.field-0 in
    let reads : texts c.as_slice-2.result.now ≡ files_read asked = search rules in
    let puts : texts c.as_slice.result.now ≡ files_put asked = search rules in
    let new : c.are_new.result ≡ true = search rules in
    let some : Some out ≡ logs_put asked = search rules in
    let joined : c.as_slice-4.result.now ≡ c.as_slice-2.result.now ++ c.as_slice.result.now = search rules in
    let all : texts c.as_slice-4.result.now ≡ texts c.as_slice-2.result.now ++ texts c.as_slice.result.now =
    ap texts joined ∙ map-append (λ (word : Bor Text). word.now) c.as_slice-2.result.now c.as_slice.result.now in
    with_logs asked (texts c.as_slice-2.result.now) (texts c.as_slice.result.now) out has (not has)
    (tested asked (texts c.as_slice-2.result.now) (texts c.as_slice.result.now) reads puts) some (c.are_new.ensures.0 new)
    (subst (λ (names : List Text). IsTrue has ↔ ((name : Text) × Contains names name × IsLogName out name)) all c.in_ok-has_log_name.ensures) refl
