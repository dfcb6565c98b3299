-- The parts of the machine that contracts see.
use Rattle.std.specs.Prelude.{◌≡◌, ℕ, List, length, Some, map, slice_get}
use Rattle.lease_rule.specs.ConfigParts.{ConfigParts}
use Rattle.core_program.specs.declared.instruction.Instruction.{Instruction}
use Rattle.manager_slice.specs.Changes.{slice_of}
use Rattle.manager_slice.specs.Parts.{SliceParts}
use Rattle.core_unit.specs.Parts.{core_of}
use Rattle.core_machine.specs.Machine.{World, Run, opening}
use Rattle.core_machine.specs.SeatParts.{SeatParts}
use Rattle.core_machine.specs.declared.event.Event.{Event}

pub record CoreParts : Type 0 where
  pub config : ConfigParts
  pub seats : List SeatParts
  pub slices : List SliceParts

-- the machine as the relation of its events sees it: without the orders of use and of service
abbrev pub world : CoreParts → World
world p = record { cores = map (λ seat. core_of seat.unit seat.kept) p.seats; slices = map (λ s. slice_of s.state) p.slices }

-- this is core c's seat, with this configuration
pub record IsSeat (g : ConfigParts) (c : ℕ) (seat : SeatParts) : Type 0 where
  pub core : seat.unit.core ≡ c
  pub config : seat.unit.config ≡ g

-- this is slice n, with this configuration
pub record IsSliceAt (g : ConfigParts) (n : ℕ) (s : SliceParts) : Type 0 where
  pub number : s.number ≡ n
  pub config : s.config ≡ g

-- each core and each slice stands at its number, and the configuration says how many slices there are
pub record IsPlaced (p : CoreParts) : Type 0 where
  pub seats : (c : ℕ) (seat : SeatParts) → slice_get p.seats c ≡ Some seat → IsSeat p.config c seat
  pub slices : (n : ℕ) (s : SliceParts) → slice_get p.slices n ≡ Some s → IsSliceAt p.config n s
  pub count : length p.slices ≡ p.config.slices

-- the programs of its cores
abbrev pub programs_of : CoreParts → List (List Instruction)
programs_of p = map (λ seat. seat.unit.program) p.seats

-- some list of events leads to it from the machine's start
abbrev pub IsReached : CoreParts → Type 0
IsReached p = (events : List Event) × Run p.config (opening (programs_of p) p.config.slices) events (world p)

-- each cache has the room that the configuration says
abbrev pub HaveRoom : CoreParts → Type 0
HaveRoom p = (c : ℕ) (seat : SeatParts) → slice_get p.seats c ≡ Some seat → seat.unit.cache.capacity ≡ p.config.cache_lines

-- what the type of the machine keeps
pub record IsMachine (p : CoreParts) : Type 0 where
  pub placed : IsPlaced p
  pub reached : IsReached p
  pub room : HaveRoom p
