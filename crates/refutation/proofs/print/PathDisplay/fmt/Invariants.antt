use Rattle.std.proofs.Common.{take}
use Rattle.std.specs.Fmt.{HasWritten, IsPlainFormatter}
use Rattle.decimal_text.specs.Numbers.{numeral}
use Rattle.text_lines.specs.Words.{spaced}
use Rattle.refutation.proofs.print.PathDisplay.fmt.Given as goal

abbrev pub invariant-loop-number : goal.invariant-loop-number
invariant-loop-number g l =
    IsPlainFormatter l.initial.f → HasWritten g.W.Write.write_str_gives l.initial.f (spaced numeral (take l.number-index l.self)) l.f
