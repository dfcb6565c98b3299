use Rattle.std.proofs.Common.{take}
use Rattle.std.specs.Fmt.{HasWritten, IsPlainFormatter}
use Rattle.std.specs.Prelude.{flat_map}
use Rattle.refutation.specs.Grammar.{state_text}
use Rattle.refutation.proofs.print.StateSetDisplay.fmt.Given as goal

abbrev pub invariant-loop-state : goal.invariant-loop-state
invariant-loop-state g l =
    IsPlainFormatter l.initial.f → HasWritten g.W.Write.write_str_gives l.initial.f (flat_map state_text (take l.state-index l.self)) l.f
