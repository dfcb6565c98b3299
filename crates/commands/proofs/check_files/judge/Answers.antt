use Rattle.std.proofs.Common.{rules, ◌≡◌, List, subst, Option, Ok, Err}
use Rattle.std.specs.Prelude.{option_map}
use Rattle.command_line.specs.declared.request.Request.TheVariants as request
use Rattle.core_program.specs.declared.instruction.Instruction.{Instruction}
use Rattle.host_files.specs.Files.{Files, IsUnread}
use Rattle.commands.proofs.Checks.{counted_fault}
use Rattle.commands.proofs.Explained.{given_is}
use Rattle.commands.proofs.Files.{only_read_after}
use Rattle.commands.specs.Checking.{IsJudged}
use Rattle.commands.specs.Refusals.{from_judge}
use Rattle.commands.specs.inner.Performing.{IsReadFault}
use Rattle.commands.specs.inner.ReadLogs.{IsExaminationIn}
use Rattle.commands.proofs.check_files.judge.Goals as goal

pub returns-in_err-check_counts-clause-err : goal.returns-in_err-check_counts-clause-err
returns-in_err-check_counts-clause-err g c =
    let is : c.from_residual.result ≡ Err (from_judge c.in_err-check_counts.field-0.0) = search rules in
    rw is (counted_fault _ c.args.asked.now c.in_err-check_counts.field-0.0 (search rules))

pub returns-in_err-examined-clause-err : goal.returns-in_err-examined-clause-err
returns-in_err-examined-clause-err g c =
    let files = g.F.Folder.files in
    let new = files c.examine_files.new.folder in
    let refusal = c.in_err-examined.field-0.0 in
    let is : c.from_residual-in_err-examined.result ≡ Err refusal = search rules in
    rw is (subst (λ (f : Files). IsReadFault (IsUnread g.F.Source.ByteSource.remaining g.F.Source.ByteSource.failed f new) (request.Check c.args.asked.now) refusal) c.in_ok-programs.ensures.quiet c.in_err-examined.ensures.err)

pub returns-in_err-examined-clause-read : goal.returns-in_err-examined-clause-read
returns-in_err-examined-clause-read g c = only_read_after _ _ _ c.in_ok-programs.ensures.quiet c.in_err-examined.ensures.read

pub returns-clause-verdict : goal.returns-clause-verdict
returns-clause-verdict g c =
    let asked = c.args.asked.now in
    let answer = Ok c.in_ok-examined.examined.verdict in
    let is = given_is c.as_ref.result c.in_ok-programs.programs c.as_ref.ensures.value in (
      option_map (λ s. s.programs) c.in_ok-programs.programs,
      c.in_ok-programs.ensures.ok,
      subst (λ (files : Files). IsJudged files.told (option_map (λ s. s.programs) c.in_ok-programs.programs) asked answer) c.in_ok-programs.ensures.quiet
          (subst (λ (programs : Option (List (List Instruction))). IsJudged (g.F.Folder.files c.read_given.new.folder).told programs asked answer) is c.in_ok-examined.ensures.verdict),
    )

pub returns-clause-examined : goal.returns-clause-examined
returns-clause-examined g c =
    let names = c.args.asked.now.files.items in
    let examined = c.in_ok-examined.examined in
    let is = given_is c.as_ref.result c.in_ok-programs.programs c.as_ref.ensures.value in
    subst (λ (files : Files). IsExaminationIn files.told names (option_map (λ s. s.programs) c.in_ok-programs.programs) examined) c.in_ok-programs.ensures.quiet
    (subst (λ (programs : Option (List (List Instruction))). IsExaminationIn (g.F.Folder.files c.read_given.new.folder).told names programs examined) is c.in_ok-examined.ensures.examined)

pub returns-clause-read : goal.returns-clause-read
returns-clause-read g c = only_read_after _ _ _ c.in_ok-programs.ensures.quiet c.in_ok-examined.ensures.read
