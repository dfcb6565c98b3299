-- Logs that were read are few enough, and short enough, for a trace.
use Rattle.std.proofs.Common.{◌≡◌, ◌∙◌, ◌≤◌, ap, sym, subst, refl, ℕ, zero, suc, List, [], ◌∷◌, Option, None, Some, arith, length, get_or, unwrap_or}
use Rattle.std.specs.Prelude.{All, map, option_map, slice_get, slice_index, vec_len}
use Rattle.std.specs.Global.{Vec}
use Rattle.std.proofs.lemmas.List.{length-map}
use Rattle.std.proofs.lemmas.Option.{get_or_from_slice_get, slice_get-map, slice_get_within}
use Rattle.flat_replay.specs.Accesses.{own_operations}
use Rattle.log_record.specs.Entries.{operation_of, operations_of, record_lists}
use Rattle.log_record.specs.declared.record.Record.{Record}
use Rattle.mem_op.specs.Consistency.{Operation}
use Rattle.mem_op.specs.Limits.{operation_limit}
use Rattle.trace.specs.Growing.{IsOfSize}

short_at : (logs : List (Vec Record)) (core : ℕ) → All (λ log. vec_len log ≤ operation_limit) logs → length (own_operations (operations_of (record_lists logs)) core) ≤ operation_limit
short_at logs core short =
    let outer = slice_get-map (map operation_of) (record_lists logs) core in
    let inner = slice_get-map (λ (log : Vec Record). log.items) logs core in
    rw (outer, inner) (go (slice_get logs core) refl)
  where
    go : (o : Option (Vec Record)) → slice_get logs core ≡ o
        → length (unwrap_or (option_map (map operation_of) (option_map (λ (log : Vec Record). log.items) o)) []) ≤ operation_limit
    go None is = omega arith
    go (Some log) is =
        let there = slice_get_within logs core log is in
        let same : get_or logs core log ≡ log = get_or_from_slice_get logs core log log is in
        let few : vec_len log ≤ operation_limit = subst (λ (v : Vec Record). vec_len v ≤ operation_limit) same (short core log there) in
        let long = length-map log.items operation_of in
        omega arith

pub size_of_logs : (logs : List (Vec Record)) → length logs ≤ 64 → All (λ log. vec_len log ≤ operation_limit) logs → IsOfSize (operations_of (record_lists logs))
size_of_logs logs few short = record {
  few = (
      let outer = length-map (record_lists logs) (map operation_of) in
      let inner = length-map logs (λ (log : Vec Record). log.items) in
      omega arith
      );
  short = λ core. short_at logs core short;
}

-- as many operations of each core fit as well
pub same_size : (these those : List (List Operation)) → map length those ≡ map length these → IsOfSize these → IsOfSize those
same_size these those same size = record {
  few = (let a = length-map these length in let b = length-map those length in let c = ap length same in let few = size.few in omega arith);
  short = λ core. (let l = own_length those core ∙ ap (λ ns. slice_index ns core) same ∙ sym (own_length these core) in let short = size.short core in omega arith);
}
  where
    own_length : (cores : List (List Operation)) (core : ℕ) → length (own_operations cores core) ≡ slice_index (map length cores) core
    own_length [] core = refl
    own_length (own ∷ others) zero = refl
    own_length (own ∷ others) (suc core) = own_length others core
