-- Where a count is out of range any texts that the readers tell are answered; else those that were read.
use Rattle.std.proofs.Common.{Err, Ok, ◌≡◌, ◌∙◌, length, rules, sym, subst}
use Rattle.std.proofs.lemmas.Slice.Zip.{AllZip-long}
use Rattle.verdict.specs.CoreFaultsOf.{given}
use Rattle.verdict.specs.Counts.{AreAsMany, IsBadCount}
use Rattle.verdict.specs.SetFaults.{from_set}
use Rattle.verdict.specs.declared.judge_fault.JudgeFault.TheVariants.{OutOfMemory}
use Rattle.verdict.proofs.Soundness.{all_read, refused, said, set_refused}
use Rattle.verdict.proofs.examining.examine.Goals as goal

pub returns-in_err-check_counts-clause-exact : goal.returns-in_err-check_counts-clause-exact
returns-in_err-check_counts-clause-exact g c =
    refused g.S.ByteSource.remaining c.args.readers.now (given c.args.programs) c.from_residual.result c.in_err-check_counts.field-0.0 c.from_residual.ensures.1 c.in_err-check_counts.ensures.err

pub returns-in_err-check_programs-clause-exact : goal.returns-in_err-check_programs-clause-exact
returns-in_err-check_programs-clause-exact g c =
    refused g.S.ByteSource.remaining c.args.readers.now (given c.args.programs) c.from_residual-in_err-check_programs.result c.in_err-check_programs.field-0.0 c.from_residual-in_err-check_programs.ensures.1
    (subst IsBadCount (sym c.in_err-check_programs.ensures.err.0) tt)

pub returns-in_err-set-clause-exact : goal.returns-in_err-set-clause-exact
returns-in_err-set-clause-exact g c =
    let (texts, tell, fault) = c.in_err-set.ensures.answer in
    let e = c.in_err-set.field-0.0 in
    let is : c.from_residual-in_err-set.result ≡ Err (from_set e.file e.fault) = search rules in
    rw is (set_refused g.S.ByteSource.remaining c.args.readers.now c.read.new.readers (given c.args.programs) texts e.file e.fault tell fault c.in_err-set.ensures.unread)

pub returns-in_err-examined-clause-exact : goal.returns-in_err-examined-clause-exact
returns-in_err-examined-clause-exact g c =
    let (texts, tell, spell) = c.in_ok-set.ensures.answer in
    let is : c.from_residual-in_err-examined.result ≡ Err OutOfMemory = search rules in
    rw is (said g.S.ByteSource.remaining c.args.readers.now c.read.new.readers (given c.args.programs) texts (Err OutOfMemory) tell tt
    (all_read g.S.ByteSource.remaining c.args.readers.now c.read.new.readers texts c.in_ok-set.set (search rules) tell spell) tt)

pub returns-clause-exact : goal.returns-clause-exact
returns-clause-exact g c =
    let (texts, tell, spell) = c.in_ok-set.ensures.answer in
    let known : AreAsMany (length texts) (given c.args.programs) = subst (λ n. AreAsMany n (given c.args.programs)) (sym (AllZip-long _ _ texts tell)) (search rules) in
    said g.S.ByteSource.remaining c.args.readers.now c.read.new.readers (given c.args.programs) texts (Ok c.in_ok-examined.examined) tell known tt (c.in_ok-set.set, spell, c.in_ok-examined.ensures)
