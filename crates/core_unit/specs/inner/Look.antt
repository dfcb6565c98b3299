-- What comes of an operation at its core's line.
use Rattle.std.specs.Prelude.{◌≡◌, Option, Some, None, Result, MatchResult}
use Rattle.mem_op.specs.declared.id.Op.{Op}
use Rattle.line_stamps.specs.declared.fault.StampFault.{StampFault}
use Rattle.private_cache.specs.Answers.{hit_fault}
use Rattle.private_cache.specs.Table.{Hit}
use Rattle.private_cache.specs.declared.answer.Read.{Read}
use Rattle.private_cache.specs.declared.answer.Read.TheVariants as read
use Rattle.core_unit.specs.Core.{Core, next_request, tries}
use Rattle.core_unit.specs.Parts.{UnitParts, core_of}

-- the word that a hit finds with its source, and its stamp and rank, or the request of a miss
abbrev pub look_of : Core → Op → Option Hit → Read
look_of u x None = read.Miss (next_request u x)
look_of u x (Some hit) = read.Hit hit.value hit.source hit.stamp hit.rank

-- this is what comes of the operation, or why its hit is refused
abbrev pub IsLook : UnitParts → Op → Result Read StampFault → Type 0
IsLook p x result =
    let u = core_of p None in
    let hit = tries p.core u x in
    MatchResult result (λ look. (look ≡ look_of u x hit) × (hit_fault hit ≡ None)) (λ fault. hit_fault hit ≡ Some fault)
