-- Laws of core units.
use Rattle.std.specs.Prelude.{◌≡◌, ◌<◌, List, length, map, Some}
use Rattle.mem_op.specs.Consistency.{Operation}
use Rattle.log_record.specs.Entries.{operation_of}
use Rattle.core_program.specs.Conforming.{Reaches, Conforms, program_fault}
use Rattle.core_program.specs.Running.{IsAtRest}
use Rattle.core_program.specs.Shape.{IsProgram}
use Rattle.core_unit.specs.Kept.{Replays}
use Rattle.core_unit.specs.Parts.{UnitParts}

-- the operations that a unit performed, without stamps, ranks and sources
abbrev pub performed_by : UnitParts → List Operation
performed_by p = map operation_of p.log

-- The operations of the log are the first that the program issues, each load and each swap with the word that it read. If the program
-- has ended, they are all of them; else the log's PROGRAM fault is at its length.
pub record IsFront (p : UnitParts) : Type 0 where
  pub reaches : Reaches p.program (performed_by p) p.state
  pub whole : p.state.position ≡ length p.program → Conforms p.program (performed_by p)
  pub proper : p.state.position < length p.program → program_fault p.program (performed_by p) ≡ Some (length p.log)

-- the log of a replay is a front of its program's operations
abbrev pub LogsAreFronts : Type 0
LogsAreFronts = (p : UnitParts) → IsProgram p.program → IsAtRest p.program p.state → Replays p → IsFront p
