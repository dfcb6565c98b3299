use Rattle.std.proofs.Common.{ℕ, ◌≡◌, ◌<◌, Some}
use Rattle.std.specs.Prelude.{slice_get}
use Rattle.core_unit.specs.Parts.{UnitParts}
use Rattle.audit.specs.Runs.{HasEnded}
use Rattle.audit.proofs.accepting.all_ended.Given as goal

abbrev pub invariant-loop-core : goal.invariant-loop-core
invariant-loop-core l = (c : ℕ) (u : UnitParts) → c < l.core → slice_get l.units c ≡ Some u → HasEnded l.programs.programs l.config c u
