use Rattle.std.proofs.Common.{◌≡◌, ◌<◌, Err, rules}
use Rattle.commands.specs.inner.CoreLogs.{core_log}
use Rattle.commands.specs.Logs.{ArePutAsFar}
use Rattle.commands.proofs.Logs.{keeps_files, put_as_far, put_next}
use Rattle.commands.proofs.writing.write_logs.Goals as goal

pub loop-number-preserved : goal.loop-number-preserved
loop-number-preserved g c =
    let files = g.F.Folder.files in
    let is : c.at-core.result ≡ c.loop-number.number = search rules in
    let few : c.loop-number.number < 64 = search rules in
    record {
      few = search rules;
      put = put_next c.args.format (files c.args.folder.now).told (files c.loop-number.folder).told (files c.write_log_of.new.folder).told c.args.out.now c.args.cores (core_log c.args.of)
          c.loop-number.number c.at-core.result is few c.loop-number.invariant.put c.in_ok-write_log_of.ensures.others
          c.log-records.result.now c.log-records.ensures.records c.in_ok-write_log_of.ensures.ok;
      quiet = search rules;
    }

pub returns-in_err-write_log_of-clause-err : goal.returns-in_err-write_log_of-clause-err
returns-in_err-write_log_of-clause-err g c =
    let refused : c.from_residual.result ≡ Err c.in_err-write_log_of.field-0.0 = search rules in
    rw refused c.in_err-write_log_of.ensures.err.0

pub returns-in_err-write_log_of-clause-far : goal.returns-in_err-write_log_of-clause-far
returns-in_err-write_log_of-clause-far g c =
    let files = g.F.Folder.files in
    let is : c.at-core.result ≡ c.loop-number.number = search rules in
    let few : c.loop-number.number < 64 = search rules in
    put_as_far c.args.format (files c.args.folder.now) (files c.loop-number.folder) (files c.write_log_of.new.folder) c.args.out.now c.args.cores (core_log c.args.of)
    c.loop-number.number c.at-core.result is few c.loop-number.invariant.put c.loop-number.invariant.quiet c.in_err-write_log_of.ensures.others
    c.loop-number-test.true c.in_err-write_log_of.ensures.err.1

pub returns-in_err-write_log_of-clause-others : goal.returns-in_err-write_log_of-clause-others
returns-in_err-write_log_of-clause-others g c =
    let files = g.F.Folder.files in
    keeps_files c.args.format (files c.args.folder.now) (files c.write_log_of.new.folder) c.args.out.now c.args.cores (core_log c.args.of)
    c.requires.cores (returns-in_err-write_log_of-clause-far g c)

pub returns-clause-others : goal.returns-clause-others
returns-clause-others g c =
    let files = g.F.Folder.files in
    let far : ArePutAsFar c.args.format (files c.args.folder.now) (files c.loop-number.folder) c.args.out.now c.args.cores (core_log c.args.of) = search rules in
    keeps_files c.args.format (files c.args.folder.now) (files c.loop-number.folder) c.args.out.now c.args.cores (core_log c.args.of) c.requires.cores far
