-- The texts of the faults of rounds: whose it is, a number and a name.
use Rattle.std.specs.Prelude.{ℕ, List}
use Rattle.mem_op.specs.Names.{name_text}
use Rattle.mem_op.specs.declared.fault_name.FaultName.TheVariants as named
use Rattle.audit.specs.Faults.{core_text}
use Rattle.core_machine.specs.Faults as core
use Rattle.tardis_core.specs.declared.rounds.fault.RoundCause.{RoundCause}
use Rattle.tardis_core.specs.declared.rounds.fault.RoundCause.TheVariants as cause
use Rattle.tardis_core.specs.declared.rounds.fault.RoundFault.{RoundFault}

abbrev pub cause_text : RoundCause → List ℕ
cause_text cause.GaveUp = name_text named.GaveUp
cause_text (cause.Core fault) = core.fault_text fault

abbrev pub fault_text : RoundFault → List ℕ
fault_text f = core_text f.core (cause_text f.fault)
