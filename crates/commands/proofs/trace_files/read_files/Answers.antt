use Rattle.std.proofs.Common.{rules, ◌≡◌, Err}
use Rattle.commands.proofs.Performed.{input_fault}
use Rattle.commands.specs.declared.place.Input.TheVariants as input
use Rattle.commands.proofs.trace_files.read_files.Goals as goal

pub returns-in_err-read_trace-in-One-clause-err : goal.returns-in_err-read_trace-in-One-clause-err
returns-in_err-read_trace-in-One-clause-err g c =
    let refusal = c.in_err-read_trace-in-One.field-0.0 in
    let is : c.from_residual.result ≡ Err refusal = search rules in
    rw (c.in-One.is, is) (λ request logs file. input_fault _ request input.Trace c.in-One.name refusal file c.in_err-read_trace-in-One.ensures.err)
