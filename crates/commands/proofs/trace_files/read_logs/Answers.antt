use Rattle.commands.proofs.LogReads.{logs_spelled}
use Rattle.commands.proofs.trace_files.read_logs.Goals as goal

pub returns-clause-ok : goal.returns-clause-ok
returns-clause-ok g c =
    let told = (g.F.Folder.files c.args.folder.now).told in
    (c.in_ok-logs.ensures.range, logs_spelled told c.args.names.now c.in_ok-logs.logs.items c.as_slice.result.now c.in_ok-trace_of.field-0 c.as_slice.ensures.value c.in_ok-logs.ensures.ok c.in_ok-trace_of.ensures)
