use Rattle.std.proofs.Common.{rules, ◌≡◌, ◌≤◌, ◌∙◌, length, refl, sym, Err, arith}
use Rattle.std.proofs.lemmas.Slice.Zip.{AllZip-long}
use Rattle.log_record.specs.Entries.{record_lists}
use Rattle.verdict.specs.SetFaults.{from_set}
use Rattle.verdict.specs.declared.judge_fault.JudgeFault.TheVariants.{OutOfMemory}
use Rattle.host_files.specs.Files.{IsUnread}
use Rattle.commands.specs.LogFiles.{AreSourcesOf}
use Rattle.commands.proofs.LogFiles.{faulty, told_by_sources, unopened_files, unread_at}
use Rattle.commands.proofs.log_files.read_log_files.Goals as goal

pub returns-in_err-sources-clause-err : goal.returns-in_err-sources-clause-err
returns-in_err-sources-clause-err g c =
    let files = g.F.Folder.files in
    let is : c.from_residual.result ≡ Err c.in_err-sources.field-0.0 = search rules in
    rw is (unopened_files g.F.Source.ByteSource.remaining g.F.Source.ByteSource.failed (files c.args.folder.now) (files c.open_all.new.folder) c.args.names.now
    c.in_err-sources.field-0.0 c.in_err-sources.ensures.err)

pub read-requires : goal.read-requires
read-requires g c =
    let are : AreSourcesOf (g.F.Folder.files c.args.folder.now).told g.F.Source.ByteSource.remaining c.as_mut_slice.result.now c.args.names.now = search rules in
    let long = AllZip-long _ _ c.args.names.now are in
    let few : length c.as_mut_slice.result.now ≤ 64 = omega (arith, long, c.in_ok-sources.ensures.range.1) in
    search rules

pub returns-in_err-set-clause-err : goal.returns-in_err-set-clause-err
returns-in_err-set-clause-err g c =
    let files = g.F.Folder.files in
    let old = files c.args.folder.now in
    let new = files c.open_all.new.folder in
    let remaining = g.F.Source.ByteSource.remaining in
    let failed = g.F.Source.ByteSource.failed in
    let names = c.args.names.now in
    let are : AreSourcesOf old.told remaining c.as_mut_slice.result.now names = search rules in
    let e = c.in_err-set.field-0.0 in
    let told_so : c.from_residual-in_err-set.result ≡ Err (from_set e.file e.fault) = search rules in
    rw told_so (faulty (IsUnread remaining failed old new) names e.file e.fault (λ fails. unread_at remaining failed old new _ _ names e.file are (c.in_err-set.ensures.read fails)))

pub returns-in_err-logs-clause-err : goal.returns-in_err-logs-clause-err
returns-in_err-logs-clause-err g c =
    let is : c.from_residual-in_err-logs.result ≡ Err OutOfMemory = search rules in
    rw is (λ request reads. record { unread = tt; of_file = tt })

pub returns-clause-ok : goal.returns-clause-ok
returns-clause-ok g c =
    let told = (g.F.Folder.files c.args.folder.now).told in
    let remaining = g.F.Source.ByteSource.remaining in
    let names = c.args.names.now in
    let are : AreSourcesOf told remaining c.as_mut_slice.result.now names = search rules in
    let (texts, tell, spell) = c.in_ok-set.ensures.answer in
    (texts, told_by_sources told remaining _ names texts are tell, (record_lists c.in_ok-logs.field-0.items, rw c.in_ok-logs.ensures.logs spell, refl))

pub returns-clause-count : goal.returns-clause-count
returns-clause-count g c =
    let are : AreSourcesOf (g.F.Folder.files c.args.folder.now).told g.F.Source.ByteSource.remaining c.as_mut_slice.result.now c.args.names.now = search rules in
    c.in_ok-logs.ensures.count ∙ c.in_ok-set.ensures.count ∙ sym (AllZip-long _ _ c.args.names.now are)
