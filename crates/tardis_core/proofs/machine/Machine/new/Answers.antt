use Rattle.std.proofs.Common.{◌≡◌, ap, length, map, ◌∙◌, rules}
use Rattle.std.specs.Prelude.{vec_len}
use Rattle.core_machine.specs.Opening.{new_seat}
use Rattle.core_machine.proofs.Opened.{opening_kept, opening_world}
use Rattle.tardis_core.proofs.Seating.{all_new}
use Rattle.tardis_core.proofs.machine.Machine.new.Goals as goal

pub invariant_of-result : goal.invariant_of-result
invariant_of-result c =
    let many : c.len.result ≡ length c.in_ok-units.units.items = search rules in
    let seats = all_new c.in_ok-units.units.items c.resize.new.self.items c.new-kept.result.items c.len.result (vec_len c.new-kept.result) c.in_ok-resize.ensures.items c.new-kept.ensures.items c.new-kept.ensures.len many ∙ ap (map new_seat) c.in_ok-units.ensures.units in
    record {
      one_each = search rules;
      machine = rw (seats, c.in_ok-slices.ensures.slices) (opening_kept c.args.programs.now.programs c.args.config.now);
    }

pub returns : goal.returns
returns c =
    let many : c.len.result ≡ length c.in_ok-units.units.items = search rules in
    let seats = all_new c.in_ok-units.units.items c.resize.new.self.items c.new-kept.result.items c.len.result (vec_len c.new-kept.result) c.in_ok-resize.ensures.items c.new-kept.ensures.items c.new-kept.ensures.len many ∙ ap (map new_seat) c.in_ok-units.ensures.units in
    record {
      parts = rw (seats, c.in_ok-slices.ensures.slices);
      opening = rw (seats, c.in_ok-slices.ensures.slices) (opening_world c.args.programs.now.programs c.args.config.now);
      refused = tt;
    }
