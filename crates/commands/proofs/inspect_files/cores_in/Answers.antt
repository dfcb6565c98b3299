use Rattle.std.proofs.Common.{rules, ◌≡◌, refl, Err}
use Rattle.command_line.specs.declared.request.Request.TheVariants as request
use Rattle.commands.proofs.Performed.{input_fault}
use Rattle.commands.specs.declared.place.Input.TheVariants as input
use Rattle.commands.proofs.inspect_files.cores_in.Goals as goal

pub returns-in_err-read_test-in-Litmus-clause-err : goal.returns-in_err-read_test-in-Litmus-clause-err
returns-in_err-read_test-in-Litmus-clause-err g c =
    let refusal = c.in_err-read_test-in-Litmus.field-0.0 in
    let is : c.from_residual.result ≡ Err refusal = search rules in
    rw is (input_fault _ (request.Inspect c.args.asked.now) input.Test c.args.asked.now.file refusal refl c.in_err-read_test-in-Litmus.ensures.err)

pub returns-in_err-read_programs-in-Programs-clause-err : goal.returns-in_err-read_programs-in-Programs-clause-err
returns-in_err-read_programs-in-Programs-clause-err g c =
    let refusal = c.in_err-read_programs-in-Programs.field-0.0 in
    let is : c.from_residual-in_err-read_programs-in-Programs.result ≡ Err refusal = search rules in
    rw is (input_fault _ (request.Inspect c.args.asked.now) input.Programs c.args.asked.now.file refusal refl c.in_err-read_programs-in-Programs.ensures.err)

pub returns-in_err-read_trace-in-Trace-clause-err : goal.returns-in_err-read_trace-in-Trace-clause-err
returns-in_err-read_trace-in-Trace-clause-err g c =
    let refusal = c.in_err-read_trace-in-Trace.field-0.0 in
    let is : c.from_residual-in_err-read_trace-in-Trace.result ≡ Err refusal = search rules in
    rw is (input_fault _ (request.Inspect c.args.asked.now) input.Trace c.args.asked.now.file refusal refl c.in_err-read_trace-in-Trace.ensures.err)
