-- The machine when it starts.
use Rattle.std.specs.Prelude.{ℕ, suc, List, [], ◌∷◌, None, map}
use Rattle.lease_rule.specs.ConfigParts.{ConfigParts}
use Rattle.core_program.specs.declared.instruction.Instruction.{Instruction}
use Rattle.core_program.specs.Running.{start_of}
use Rattle.private_cache.specs.Steps.{empty_cache}
use Rattle.manager_slice.specs.Opening.{new_slices}
use Rattle.core_unit.specs.Parts.{UnitParts}
use Rattle.core_machine.specs.Parts.{CoreParts}
use Rattle.core_machine.specs.SeatParts.{SeatParts}

-- core c at the start of its program
abbrev pub new_unit : ConfigParts → ℕ → List Instruction → UnitParts
new_unit g c program = record {
  core = c;
  program = program;
  config = g;
  state = start_of program;
  pts = 0;
  r = 0;
  cache = empty_cache g.cache_lines;
  hand = None;
  transcript = [];
  log = [];
}

-- the units of these programs, from core c on
abbrev pub new_units : ConfigParts → ℕ → List (List Instruction) → List UnitParts
new_units g c [] = []
new_units g c (program ∷ programs) = new_unit g c program ∷ new_units g (suc c) programs

-- a core in its seat
abbrev pub new_seat : UnitParts → SeatParts
new_seat u = record { unit = u; kept = None }

-- the cores of these programs, from core c on, in their seats
abbrev pub new_seats : ConfigParts → ℕ → List (List Instruction) → List SeatParts
new_seats g c programs = map new_seat (new_units g c programs)

abbrev pub opening_parts : List (List Instruction) → ConfigParts → CoreParts
opening_parts programs g = record { config = g; seats = new_seats g 0 programs; slices = new_slices g g.slices }
