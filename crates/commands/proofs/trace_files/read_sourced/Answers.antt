use Rattle.commands.proofs.LogReads.{sources_spelled}
use Rattle.commands.proofs.trace_files.read_sourced.Goals as goal

pub returns-clause-ok : goal.returns-clause-ok
returns-clause-ok g c =
    let told = (g.F.Folder.files c.args.folder.now).told in
    (c.in_ok-logs.ensures.range, sources_spelled told c.args.names.now c.in_ok-logs.logs.items c.as_slice-logs.result.now c.in_ok-trace.trace c.as_slice-logs.ensures.value c.in_ok-logs.ensures.ok c.in_ok-trace.ensures)
