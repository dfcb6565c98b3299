use Rattle.std.proofs.Common.{[], refl}
use Rattle.trace_replay.proofs.Feeding.{nothing_cut}
use Rattle.trace_replay.proofs.line_replay.LineReplay.new.Goals as goal

pub returns : goal.returns
returns c = record {
  whole = [];
  cut = nothing_cut;
  said = [];
  says = tt;
  stands = record { replayer = c.new.ensures; number = refl };
}
