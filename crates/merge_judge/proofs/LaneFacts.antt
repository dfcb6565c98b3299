-- A log of a merge, one record further.
use Rattle.std.specs.Prelude.{◌≡◌, ℕ, ◌+◌, ◌≤◌, List, [], ◌∷◌, ◌++◌, refl, Option, Some, None, Ok, length}
use Rattle.std.proofs.Common.{sym, ◌∙◌, ap, subst, arith, length-append}
use Rattle.log_record.specs.declared.record.Record.{Record}
use Rattle.core_program.specs.Least.{IsLeastWhere}
use Rattle.core_check.specs.CoreOrder.{is_core_fault}
use Rattle.log_file.specs.declared.fault.LogFault.{LogFault}
use Rattle.log_file.specs.declared.fault.LogFault.TheVariants.{Read}
use Rattle.log_file.specs.Devices.{Failed}
use Rattle.merge_judge.specs.LaneParts.{KeptLog, LaneParts}
use Rattle.merge_judge.specs.inner.Following.{FollowsOn, IsNextOn}
use Rattle.merge_judge.specs.inner.Lanes.{IsLaneAt, IsStage, first_to_fall, front_list}
use Rattle.mem_op.specs.Limits.{operation_limit}
use Rattle.log_file.specs.declared.stage.Stage.{Stage}
use Rattle.log_file.specs.declared.stage.Stage.TheVariants as last_read
use Rattle.log_file.specs.Answering.{Answering, HasAnswered}
use Rattle.log_file.specs.Standing.{IsSound}
use Rattle.merge_judge.proofs.Falls.{fall_more}

-- ---- how many records a log has

few_sound : (q : Stage) (core cores : ℕ) (records : List Record) (line : List ℕ) → IsSound q core cores records line → length records ≤ operation_limit
few_sound last_read.Header core cores records line h = omega (arith, ap length h)
few_sound (last_read.Records format) core cores records line h = h.few
few_sound (last_read.Ended format) core cores records line h = h.0.few

pub few_answered : (s : Answering) (bytes : List ℕ) (records : List Record) → HasAnswered s bytes records → length records ≤ operation_limit
few_answered s bytes records h = few_sound s.stage s.core s.cores records s.begun h.sound

-- ---- where a log stands after a read

pub stage_of : (core cores : ℕ) (first still : Option (List ℕ)) (log : KeptLog) (records : List Record) (next : Option Record)
    → IsNextOn core cores first records (Ok next) still log → IsStage core cores first still log records next None
stage_of core cores first still log records None h = h
stage_of core cores first still log records (Some r) h = (refl, h)

module _ {S : Type 0} (remaining : S → Option (List ℕ)) (failed : S → ℕ) (core cores : ℕ) (before old new : S) (log : KeptLog) (next : Option Record) (fault : Option LogFault)
    (read : fault ≡ Some Read → Failed (failed old) (failed new)) (quiet : (fault ≡ Some Read → ⊥) → failed new ≡ failed old) where
  -- one record further
  pub further : (lane : LaneParts) (merged : List Record) (e : Record) (falls : Option ℕ) → lane.front ≡ Some e → IsLaneAt remaining failed core cores before old lane merged
      → ((first : Option (List ℕ)) (records : List Record) → FollowsOn core cores first (remaining old) lane.log records → IsStage core cores first (remaining new) log records next fault)
      → falls ≡ first_to_fall lane.falls (lane.merged + 1) lane.front next
      → IsLaneAt remaining failed core cores before new (record { log = log; front = next; merged = lane.merged + 1; falls = falls; fault = fault }) (merged ++ e ∷ [])
  further lane merged e falls front_is at stands falls_is = record {
    stage = stands (remaining before) (merged ++ e ∷ []) stage.1;
    first_fall = subst (λ o. IsLeastWhere (is_core_fault ((merged ++ e ∷ []) ++ front_list next)) o) (sym (falls_is ∙ ap (λ o. first_to_fall lane.falls (lane.merged + 1) o next) front_is))
        (fall_more merged e (lane.merged + 1) lane.falls next count (subst (λ o. IsLeastWhere (is_core_fault (merged ++ front_list o)) lane.falls) front_is at.first_fall));
    count = count;
    few = few_answered lane.log.log.reader stage.1.0.bytes (merged ++ e ∷ []) stage.1.0.answered;
    read = λ h. subst (λ n. Failed n (failed new)) same (read h);
    quiet = λ h. quiet h ∙ same;
  }
    where
      stage : (lane.fault ≡ None) × FollowsOn core cores (remaining before) (remaining old) lane.log (merged ++ e ∷ [])
      stage = subst (λ o. IsStage core cores (remaining before) (remaining old) lane.log merged o lane.fault) front_is at.stage

      count : lane.merged + 1 ≡ length (merged ++ e ∷ [])
      count = omega (arith, at.count, length-append merged (e ∷ []))

      same : failed old ≡ failed before
      same = at.quiet (λ h. let none : lane.fault ≡ None = stage.0 in cc)
