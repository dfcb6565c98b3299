-- What a write took goes on where the bytes taken before end.
use Rattle.std.proofs.Common.{arith, ◌∙◌}
use Rattle.std.proofs.Math.Seq.{take-add}
use Rattle.std.proofs.lemmas.List.{length-drop, take_rest}
use Rattle.log_file.proofs.Devices.{appends_more}
use Rattle.log_file.proofs.byte_sink.write_all.Goals as goal

pub loop-at-preserved : goal.loop-at-preserved
loop-at-preserved g c =
    let bytes = c.args.bytes.now in
    let at = c.loop-at.at in
    let e = c.in_ok-at.ensures in
    record {
      within = omega (arith, e.bound, length-drop at bytes);
      taken = rw (take-add at c.in_ok-at.field-0 bytes, ← (take_rest bytes at)) (appends_more _ _ _ _ _ c.loop-at.invariant.taken e.bytes);
      quiet = e.counts ∙ c.loop-at.invariant.quiet;
    }
