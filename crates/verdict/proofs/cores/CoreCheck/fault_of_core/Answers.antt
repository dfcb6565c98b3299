-- The lesser of a core's two faults is its least.
use Rattle.verdict.specs.CoreFaultsOf.{given}
use Rattle.verdict.proofs.CoreFacts.{lesser_of_core}
use Rattle.verdict.proofs.cores.CoreCheck.fault_of_core.Goals as goal

pub returns : goal.returns
returns c = let lesser_is = lesser_of_core (given c.args.self.now.programs) c.args.self.now.logs.now c.args.core in cc
