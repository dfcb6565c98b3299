use Rattle.std.proofs.Common.{rules, ◌≡◌, Err, inl, inr, refl, subst}
use Rattle.std.specs.Prelude.{string_bytes}
use Rattle.std.specs.Io.KnownBytes.{Appends}
use Rattle.command_line.specs.declared.request.Request.TheVariants as request
use Rattle.trace_replay.specs.Texts.{verdict_status, verdict_text}
use Rattle.commands.proofs.Files.{keeps_files}
use Rattle.commands.proofs.Performed.{answered, input_fault, not_printed, read_refused}
use Rattle.commands.proofs.Replays.{right, wrong}
use Rattle.log_file.specs.Devices.{TakesBeginning}
use Rattle.log_file.specs.Sinks.{TookFirst, line, sink_of}
use Rattle.commands.specs.declared.answer.CommandAnswer.TheVariants.{Replayed}
use Rattle.commands.specs.declared.place.Input.TheVariants as input
use Rattle.commands.specs.declared.place.Output.TheVariants as output
use Rattle.commands.specs.declared.refusal.Refusal.TheVariants.{OutOfMemory, Unwritten}
use Rattle.commands.proofs.replay_file.replay.Goals as goal

pub returns-in_err-verdict : goal.returns-in_err-verdict
returns-in_err-verdict g c =
    let refusal = c.in_err-verdict.field-0.0 in
    let is : c.from_residual.result ≡ Err refusal = search rules in
    rw is (read_refused _ _ _ _ _ (request.Replay c.args.asked.now) refusal (input_fault _ (request.Replay c.args.asked.now) input.Trace c.args.asked.now.trace refusal refl c.in_err-verdict.ensures.err) c.in_err-verdict.ensures.read (inl refl))

pub returns-in_err-text : goal.returns-in_err-text
returns-in_err-text g c =
    let is : c.from_residual-in_err-text.result ≡ Err OutOfMemory = search rules in
    rw is (not_printed _ _ _ _ _ (request.Replay c.args.asked.now) OutOfMemory tt (keeps_files _ _ _ c.in_ok-verdict.ensures.read) (inl refl))

pub returns-in_err-write_all : goal.returns-in_err-write_all
returns-in_err-write_all g c =
    let sink = sink_of g.O.ByteSink.contents g.O.ByteSink.failed in
    let verdict = c.in_ok-verdict.verdict in
    let (more, same) = c.in_ok-text.ensures in
    let begun : TakesBeginning (sink c.args.out.now).contents (sink c.write_all.new.sink).contents (string_bytes c.in_ok-text.text) = search rules in
    let is : c.from_residual-in_err-write_all.result ≡ Err (Unwritten output.Standard) = search rules in
    rw is (not_printed _ _ _ _ _ (request.Replay c.args.asked.now) (Unwritten output.Standard) tt (keeps_files _ _ _ c.in_ok-verdict.ensures.read)
    (inr (refl, verdict_status verdict, line (verdict_text verdict), (verdict, c.in_ok-verdict.ensures.ok, refl, refl), (more, subst (TakesBeginning (sink c.args.out.now).contents (sink c.write_all.new.sink).contents) same begun))))

pub returns : goal.returns
returns g c =
    let told = (g.F.Folder.files c.args.folder.now).told in
    let name = c.args.asked.now.trace.now in
    let verdict = c.in_ok-verdict.verdict in
    let sink = sink_of g.O.ByteSink.contents g.O.ByteSink.failed in
    let (more, same) = c.in_ok-text.ensures in
    let took : Appends (g.O.ByteSink.contents c.args.out.now) (g.O.ByteSink.contents c.write_all.new.sink) (string_bytes c.in_ok-text.text) = search rules in
    let first : TookFirst (sink c.args.out.now) (sink c.write_all.new.sink) (line (verdict_text verdict)) =
    (more, subst (Appends (g.O.ByteSink.contents c.args.out.now) (g.O.ByteSink.contents c.write_all.new.sink)) same took) in
    answered _ _ _ _ _ (request.Replay c.args.asked.now) (Replayed verdict) (keeps_files _ _ _ c.in_ok-verdict.ensures.read) (record {
      sound = right told name verdict c.in_ok-verdict.ensures.ok;
      flat = λ zero. tt;
      no = wrong told name verdict c.in_ok-verdict.ensures.ok;
      order = λ zero. tt;
      printed = (line (verdict_text verdict), (verdict, c.in_ok-verdict.ensures.ok, refl, refl), first);
      shown = tt;
      counted = tt;
      vetted = λ zero. tt;
      another = tt;
      upgraded = λ zero. tt;
      yes = λ zero apart. tt;
    }) tt
