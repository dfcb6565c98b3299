-- The pieces so far were fed.
use Rattle.std.proofs.Common.{◌≡◌, take, Ok}
use Rattle.std.specs.List.{flat_map}
use Rattle.log_file.proofs.pieces.read_pieces.Given as goal

abbrev pub invariant-loop-piece : goal.invariant-loop-piece
invariant-loop-piece l =
    (l.reader.core ≡ l.fn.core) × (l.reader.cores ≡ l.cores)
    × (l.reader.fed ≡ Ok (flat_map (λ piece. piece.items) (take l.piece-index l.pieces)))
