-- The candidate execution that lists choose: the source of each operation of a core, and the writes, of which one that stands earlier comes before.
use Rattle.std.specs.Prelude.{ℕ, nat_lt, Bool, List, length, option_and_then, position, slice_get, unwrap_or}
use Rattle.std.specs.Global.{Vec}
use Rattle.mem_op.specs.declared.id.OpId.{OpId}
use Rattle.mem_op.specs.declared.id.Source.{Source}
use Rattle.mem_op.specs.declared.id.Source.TheVariants.{Init}
use Rattle.mem_op.specs.Consistency.{is_same_id}
use Rattle.sc_axioms.specs.Axioms.{Candidate}

-- an id that isn't listed has the initial 0 as its source
abbrev pub source_in : List (Vec Source) → OpId → Source
source_in sources id = unwrap_or (option_and_then (λ (own : Vec Source). slice_get own.items id.index) (slice_get sources id.core)) Init

-- one that isn't listed stands behind all that are
abbrev pub place : List OpId → OpId → ℕ
place writes id = unwrap_or (position (is_same_id id) writes) (length writes)

abbrev pub is_earlier : List OpId → OpId → OpId → Bool
is_earlier writes a b = nat_lt (place writes a) (place writes b)

abbrev pub chosen : List (Vec Source) → List OpId → Candidate
chosen sources writes = record { reads_from = source_in sources; comes_before = is_earlier writes }
