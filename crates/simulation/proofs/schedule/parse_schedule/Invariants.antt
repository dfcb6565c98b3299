-- The commands so far are those of the lines before the rest.
use Rattle.std.proofs.Common.{length}
use Rattle.simulation.specs.CommandTexts.{command_text, Fits}
use Rattle.simulation.proofs.schedule.parse_schedule.Given as goal
use Rattle.text_lines.proofs.Items.{SoFar}

abbrev pub invariant-loop-command : goal.invariant-loop-command
invariant-loop-command l = SoFar command_text (Fits l.cores) l.text l.commands.items l.rest

abbrev pub decreases-loop-command : goal.decreases-loop-command
decreases-loop-command l = length l.rest
