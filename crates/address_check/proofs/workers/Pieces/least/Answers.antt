use Rattle.std.proofs.Common.{◌∙◌}
use Rattle.address_check.proofs.Pieces.{whole_from_pieces}
use Rattle.address_check.proofs.workers.Pieces.least.Goals as goal

pub returns : goal.returns
returns g c =
    let check = c.args.self.now.check.now in
    c.least_fault.ensures
    ∙ whole_from_pieces g.C.Fault.Ord.cmp (g.C.LocalCheck.fault_of check) (g.met.C.LocalCheck.joined check) c.args.self.now.items.now c.args.self.now.size
    (g.met.C.LocalCheck.empty check) c.args.found.now c.requires.cover c.requires.each
