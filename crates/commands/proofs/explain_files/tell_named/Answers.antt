use Rattle.std.proofs.Common.{rules, ◌≡◌, Err, length, subst, sym}
use Rattle.verdict.specs.Bases.{IsExaminationOf}
use Rattle.verdict.specs.declared.answer.Verdict.{Verdict}
use Rattle.commands.specs.Checking.{FilesGet}
use Rattle.commands.specs.inner.ReadLogs.{AreLogsOf}
use Rattle.commands.proofs.Checks.{explained_fault}
use Rattle.commands.proofs.Explained.{given_is}
use Rattle.commands.proofs.explain_files.tell_named.Goals as goal

pub other_order-requires : goal.other_order-requires
other_order-requires g c =
    let (texts, tell, (logs, spell, (is, are))) = c.in_ok-found.ensures.examined in
    let many : c.len.result ≡ length c.args.asked.now.check.files.items = search rules in
    (logs, subst (AreLogsOf logs c.in_ok-found.found.examined.basis) (sym many) are)

pub words-requires : goal.words-requires
words-requires g c =
    let given = given_is c.as_ref.result c.in_ok-found.found.programs c.as_ref.ensures.value in
    let (texts, tell, (logs, spell, (is, are))) = c.in_ok-found.ensures.examined in
    (logs, subst (λ programs. IsExaminationOf programs logs c.in_ok-found.found.examined) (sym given) is)

pub returns-in_err-found-clause-err : goal.returns-in_err-found-clause-err
returns-in_err-found-clause-err g c =
    let refusal = c.in_err-found.field-0.0 in
    let is : c.from_residual.result ≡ Err refusal = search rules in
    rw is (explained_fault _ c.args.asked.now refusal c.in_err-found.ensures.err)

pub returns-clause-ok : goal.returns-clause-ok
returns-clause-ok g c =
    let told = (g.F.Folder.files c.args.folder.now).told in
    let asked = c.args.asked.now in
    let (texts, tell, (logs, spell, (is, are))) = c.in_ok-found.ensures.examined in
    let many : c.len.result ≡ length asked.check.files.items = search rules in
    let consistent = c.in_ok-last.ensures logs (subst (AreLogsOf logs c.in_ok-found.found.examined.basis) (sym many) are) in
    record {
      gets = subst (λ (verdict : Verdict). FilesGet told asked.check verdict) (sym c.in_ok-told.ensures.verdict) c.in_ok-found.ensures.verdict;
      first = c.in_ok-told.ensures.first;
      another = λ has. (texts, tell, (logs, spell, consistent (c.in_ok-told.ensures.another has)));
    }
