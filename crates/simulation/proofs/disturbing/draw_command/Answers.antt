use Rattle.std.proofs.Common.{rules, ◌≡◌, ◌∙◌, ap, None, Some}
use Rattle.core_machine.specs.Parts.{world}
use Rattle.tardis_core.specs.Picks.{one_word_on}
use Rattle.simulation.specs.Drawing.{next_address}
use Rattle.simulation.proofs.Disturbed.{listed_has_address}
use Rattle.simulation.proofs.disturbing.draw_command.Goals as goal

pub unreachable-requires : goal.unreachable-requires
unreachable-requires c =
    let none : next_address (world c.args.machine.now) c.pick-other.result ≡ None = search rules in
    listed_has_address (world c.args.machine.now) _ c.pick-other.result (rw c.requires.all at c.pick-other.ensures.core) none

pub returns-clause-command : goal.returns-clause-command
returns-clause-command c =
    let address : next_address (world c.args.machine.now) c.pick-other.result ≡ Some c.in-Some.addr = search rules in
    let moves = c.pick-other.ensures.moves ∙ ap one_word_on c.pick-core.ensures.moves in
    record {
      core = c.pick-core.result;
      drawn = rw c.requires.all at c.pick-core.ensures.core;
      other = c.pick-other.result;
      other_drawn = rw (c.requires.all, c.pick-core.ensures.moves) at c.pick-other.ensures.core;
      address = c.in-Some.addr;
      address_is = address;
      command_is = rw moves at c.draw_of.ensures.command;
    }
