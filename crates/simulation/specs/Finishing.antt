-- The cores finished in their order.
use Rattle.std.specs.Prelude.{ℕ, ◌+◌, ◌<◌}
use Rattle.core_machine.specs.Parts.{CoreParts}
use Rattle.tardis_core.specs.Rounds.{IsFinished, IsFinishFault}
use Rattle.simulation.specs.Commands.{IsOfCore}
use Rattle.simulation.specs.declared.fault.SimulationFault.{SimulationFault}

-- The first cores are finished, core 0, then core 1, and so on. One that isn't there has no operation left.
pub data FinishesFirst (p : CoreParts) : ℕ → CoreParts → Type 0 where
  no_core : FinishesFirst p 0 p
  one_more : (c : ℕ) (q t : CoreParts) → FinishesFirst p c q → IsFinished c q t → FinishesFirst p (c + 1) t

-- every core is finished; there are 64 at most
abbrev pub FinishesAll : CoreParts → CoreParts → Type 0
FinishesAll p q = FinishesFirst p 64 q

-- the cores before one are finished, and it isn't
pub record IsUnfinished (p q : CoreParts) (fault : SimulationFault) : Type 0 where
  pub core : ℕ
  pub is_core : core < 64
  pub between : CoreParts
  pub before : FinishesFirst p core between
  pub stopped : IsOfCore (IsFinishFault core between q) fault
