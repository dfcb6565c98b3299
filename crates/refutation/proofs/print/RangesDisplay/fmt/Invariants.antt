use Rattle.std.proofs.Common.{take}
use Rattle.std.specs.Fmt.{HasWritten, IsPlainFormatter}
use Rattle.refutation.specs.Grammar.{range_text}
use Rattle.text_lines.specs.Words.{spaced}
use Rattle.refutation.proofs.print.RangesDisplay.fmt.Given as goal

abbrev pub invariant-loop-range : goal.invariant-loop-range
invariant-loop-range g l =
    IsPlainFormatter l.initial.f → HasWritten g.W.Write.write_str_gives l.initial.f (spaced range_text (take l.range-index l.self)) l.f
