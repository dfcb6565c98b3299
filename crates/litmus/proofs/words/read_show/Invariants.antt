-- The registers so far are the words before the rest.
use Rattle.std.proofs.Common.{length}
use Rattle.litmus.specs.TestGrammar.{shown_text, IsRegister}
use Rattle.litmus.proofs.words.read_show.Given as goal
use Rattle.text_lines.proofs.SpacedWords.{WordsSoFar}

abbrev pub invariant-loop-shown : goal.invariant-loop-shown
invariant-loop-shown l = WordsSoFar shown_text (IsRegister l.cores) l.initial.rest l.shown.items l.rest

abbrev pub decreases-loop-shown : goal.decreases-loop-shown
decreases-loop-shown l = length l.rest
