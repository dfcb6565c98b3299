-- A whole simulation.
use Rattle.std.specs.Prelude.{◌≡◌, ◌<◌, ◌⊎◌, ℕ, false, List, Option, None, Some}
use Rattle.simulation.specs.declared.command.Command.{Command}
use Rattle.core_machine.specs.Machine.{World}
use Rattle.core_machine.specs.Parts.{CoreParts}
use Rattle.core_machine.specs.Works.{has_next}
use Rattle.simulation.specs.Commands.{Follows, IsUnfollowed}
use Rattle.simulation.specs.Drawing.{IsDrawFault, IsDrawnOut}
use Rattle.simulation.specs.Finishing.{FinishesAll, IsUnfinished}
use Rattle.simulation.specs.declared.fault.SimulationFault.{SimulationFault}

-- After the schedule all cores come to their ends: by the draws of a seed, or in their order if there is no seed. A second seed draws
-- commands between the rounds, and the rounds too if it is the only one.
abbrev pub IsEnded : Option ℕ → Option ℕ → CoreParts → CoreParts → Type 0
IsEnded None None p q = FinishesAll p q
IsEnded None (Some both) p q = IsDrawnOut both (Some both) p q
IsEnded (Some seed) stress p q = IsDrawnOut seed stress p q

abbrev pub IsUnended : Option ℕ → Option ℕ → CoreParts → CoreParts → SimulationFault → Type 0
IsUnended None None p q fault = IsUnfinished p q fault
IsUnended None (Some both) p q fault = IsDrawFault both (Some both) p q fault
IsUnended (Some seed) stress p q fault = IsDrawFault seed stress p q fault

-- no core has an operation left; there are 64 at most
abbrev pub NoneIsLeft : World → Type 0
NoneIsLeft w = (c : ℕ) → c < 64 → has_next w c ≡ false

-- the schedule's commands and then the ends of all cores lead from p to q
pub record IsSimulated (commands : List Command) (seed stress : Option ℕ) (p q : CoreParts) : Type 0 where
  pub between : CoreParts
  pub followed : Follows p commands between
  pub ended : IsEnded seed stress between q

-- the simulation comes to q, where a command is refused, or the cores don't come to their ends
pub record IsUnendedBehind (commands : List Command) (seed stress : Option ℕ) (p q : CoreParts) (fault : SimulationFault) : Type 0 where
  pub between : CoreParts
  pub followed : Follows p commands between
  pub unended : IsUnended seed stress between q fault

abbrev pub IsSimulationFault : List Command → Option ℕ → Option ℕ → CoreParts → CoreParts → SimulationFault → Type 0
IsSimulationFault commands seed stress p q fault = IsUnfollowed p commands q fault ⊎ IsUnendedBehind commands seed stress p q fault
