-- The names so far are those of the lines before the rest.
use Rattle.std.proofs.Common.{length, map}
use Rattle.refuted_cases.specs.Names.{line_text, row_of, Fits}
use Rattle.refuted_cases.proofs.names.Names.parse.Given as goal
use Rattle.text_lines.proofs.Items.{SoFar}

abbrev pub invariant-loop-addr : goal.invariant-loop-addr
invariant-loop-addr l = SoFar line_text Fits l.text (map row_of l.rows.items) l.rest

abbrev pub decreases-loop-addr : goal.decreases-loop-addr
decreases-loop-addr l = length l.rest
