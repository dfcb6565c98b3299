-- Seats, where the units and the replies that are kept for them stand in two lists.
use Rattle.std.specs.Prelude.{◌≡◌, List, [], ◌∷◌, length, Option}
use Rattle.line_stamps.specs.declared.message.Reply.{Reply}
use Rattle.lease_rule.specs.ConfigParts.{ConfigParts}
use Rattle.manager_slice.specs.Parts.{SliceParts}
use Rattle.core_unit.specs.Parts.{UnitParts}
use Rattle.core_machine.specs.Parts.{CoreParts, IsMachine}
use Rattle.core_machine.specs.SeatParts.{SeatParts}

abbrev pub seat : UnitParts → Option Reply → SeatParts
seat u kept = record { unit = u; kept = kept }

-- each unit beside what is kept for it
abbrev pub seats_of : List UnitParts → List (Option Reply) → List SeatParts
seats_of [] kept = []
seats_of (u ∷ us) [] = []
seats_of (u ∷ us) (k ∷ kept) = seat u k ∷ seats_of us kept

abbrev pub parts : ConfigParts → List UnitParts → List (Option Reply) → List SliceParts → CoreParts
parts g us kept ss = record { config = g; seats = seats_of us kept; slices = ss }

-- what the type of the machine keeps: each unit has its seat, and they are a machine
pub record IsSeated (g : ConfigParts) (us : List UnitParts) (kept : List (Option Reply)) (ss : List SliceParts) : Type 0 where
  pub one_each : length kept ≡ length us
  pub machine : IsMachine (parts g us kept ss)
