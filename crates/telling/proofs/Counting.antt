-- How many operations a trace has, and the line that tells it.
use Rattle.std.proofs.Common.{◌≡◌, ◌≤◌, ◌^◌, ◌++◌, ℕ, List, append_assoc, ap, sym, ◌∙◌, arith, vec_len, sum, sum_by}
use Rattle.std.proofs.lemmas.List.Sums.{sum_by-le, sum-map}
use Rattle.std.specs.Global.{Vec}
use Rattle.mem_op.specs.Consistency.{Operation}
use Rattle.mem_op.specs.Limits.{operation_limit}
use Rattle.flat_replay.specs.Accesses.{operation_lists}
use Rattle.trace.specs.Growing.{IsOfSize}
use Rattle.flat_replay.proofs.Orders.{lengths_are}
use Rattle.trace.proofs.Growth.{size_is}
use Rattle.telling.specs.FirstLines.{operation_count}

-- the lengths of the vectors add up to it
pub count_is : (cores : List (Vec Operation)) → sum_by vec_len cores ≡ operation_count (operation_lists cores)
count_is cores = sym (sum-map vec_len cores) ∙ ap sum (lengths_are cores)

-- and to no more than 64 cores can have
pub count_few : (cores : List (Vec Operation)) → IsOfSize (operation_lists cores) → sum_by vec_len cores ≤ 2 ^ 26
count_few cores size =
    let both = (size_is cores).0 size in
    let few = both.0 in
    let bound = sum_by-le vec_len operation_limit cores both.1 in
    omega arith

-- three texts that are put behind another, one after the other
pub three_parts : (old a n z : List ℕ) {first second third : List ℕ} → first ≡ old ++ a → second ≡ first ++ n → third ≡ second ++ z
    → third ≡ old ++ (a ++ (n ++ z))
three_parts old a n z by_a by_n by_z =
    by_z ∙ ap (λ t. t ++ z) (by_n ∙ ap (λ t. t ++ n) by_a)
    ∙ append_assoc (old ++ a) n z ∙ append_assoc old a (n ++ z)
