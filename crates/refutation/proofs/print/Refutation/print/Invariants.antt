use Rattle.std.proofs.Common.{◌≡◌, ◌++◌, take}
use Rattle.std.specs.Prelude.{string_bytes}
use Rattle.refutation.specs.Grammar.{header_line, steps_text}
use Rattle.refutation.proofs.print.Refutation.print.Given as goal

abbrev pub invariant-loop-step : goal.invariant-loop-step
invariant-loop-step l = string_bytes l.text ≡ header_line ++ steps_text (take l.step-index l.self)
