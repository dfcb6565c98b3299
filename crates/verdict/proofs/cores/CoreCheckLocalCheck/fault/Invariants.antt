-- The least fault so far is that of the cores so far.
use Rattle.std.proofs.Common.{◌≡◌, take}
use Rattle.verdict.specs.CoreFaultsOf.{core_faults, given, least_of_cores}
use Rattle.verdict.proofs.cores.CoreCheckLocalCheck.fault.Given as goal

abbrev pub invariant-loop-core : goal.invariant-loop-core
invariant-loop-core l = l.least ≡ least_of_cores (core_faults (given l.self.programs) l.self.logs.now) (take l.core-index l.cores)
