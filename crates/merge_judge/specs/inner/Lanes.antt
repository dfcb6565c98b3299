-- The logs of a set while they are merged.
use Rattle.std.specs.Prelude.{◌≡◌, ◌↔◌, ℕ, zero, suc, ◌<◌, ◌≤◌, Bool, true, List, [], ◌∷◌, ◌++◌, Option, None, Some, if◌then◌else◌, length, slice_get, slice_index_or}
use Rattle.std.specs.Ordering.{is_lt}
use Rattle.mem_op.specs.Limits.{operation_limit}
use Rattle.line_stamps.specs.Ordered.{In}
use Rattle.log_record.specs.declared.record.Record.{Record}
use Rattle.log_record.specs.declared.record.Entry.{Entry}
use Rattle.log_record.specs.Entries.{entries, entry_cmp}
use Rattle.core_program.specs.Least.{IsLeastWhere}
use Rattle.core_check.specs.CoreOrder.{falls, is_core_fault}
use Rattle.log_file.specs.declared.fault.LogFault.{LogFault}
use Rattle.log_file.specs.declared.fault.LogFault.TheVariants.{Read}
use Rattle.log_file.specs.Devices.{Failed}
use Rattle.verdict.specs.ByKey.{by_key}
use Rattle.merge_judge.specs.LaneParts.{KeptLog, LaneParts}
use Rattle.merge_judge.specs.inner.Following.{EndsAt, EndsWhole, FollowsOn}

-- ---- one log

abbrev pub front_list : Option Record → List Record
front_list None = []
front_list (Some r) = r ∷ []

-- the first index at which a log falls: the known one, or else this one if the later record falls
abbrev pub first_to_fall : Option ℕ → ℕ → Option Record → Option Record → Option ℕ
first_to_fall None at earlier later = if falls earlier later then Some at else None
first_to_fall (Some i) at earlier later = Some i

-- no fault was found in the log
abbrev pub IsSound : LaneParts → Type 0
IsSound lane = (lane.falls ≡ None) × (lane.fault ≡ None)

-- where a log stands: before a record that was read, or at its end
abbrev pub IsStage : ℕ → ℕ → Option (List ℕ) → Option (List ℕ) → KeptLog → List Record → Option Record → Option LogFault → Type 0
IsStage core cores first still log merged (Some r) fault = (fault ≡ None) × FollowsOn core cores first still log (merged ++ r ∷ [])
IsStage core cores first still log merged None None = EndsWhole core cores first merged
IsStage core cores first still log merged None (Some fault) = EndsAt core cores first merged fault

-- this core's log is merged up to and including these records
pub record IsLaneAt {S : Type 0} (remaining : S → Option (List ℕ)) (failed : S → ℕ) (core cores : ℕ) (before after : S) (lane : LaneParts) (merged : List Record) : Type 0 where
  pub stage : IsStage core cores (remaining before) (remaining after) lane.log merged lane.front lane.fault
  pub first_fall : IsLeastWhere (is_core_fault (merged ++ front_list lane.front)) lane.falls
  pub count : lane.merged ≡ length merged
  pub few : length merged ≤ operation_limit
  pub read : lane.fault ≡ Some Read → Failed (failed before) (failed after)
  pub quiet : (lane.fault ≡ Some Read → ⊥) → failed after ≡ failed before

-- ---- all logs

-- the logs with one more record of a core
abbrev pub add : List (List Record) → ℕ → Record → List (List Record)
add [] core r = []
add (log ∷ logs) zero r = (log ++ r ∷ []) ∷ logs
add (log ∷ logs) (suc core) r = log ∷ add logs core r

abbrev pub log_at : List (List Record) → ℕ → List Record
log_at logs core = slice_index_or logs core []

abbrev pub entry_at : ℕ → ℕ → Record → Entry
entry_at core index r = record { id = record { core = core; index = index }; logged = r }

-- the front of a core is none only if the other front is, too, and is before it by key if that is another core's
abbrev pub IsNoLater : ℕ → Option Record → ℕ → Option Record → Type 0
IsNoLater core None k other = other ≡ None
IsNoLater core (Some r) k None = Unit {0}
IsNoLater core (Some r) k (Some f) = (k ≡ core → ⊥) → (i j : ℕ) → is_lt (entry_cmp (entry_at core i r) (entry_at k j f)) ≡ true

-- none of the first n fronts is before that of this core
abbrev pub IsFirstOf : ℕ → ℕ → List LaneParts → Type 0
IsFirstOf n core lanes =
    (lane : LaneParts) → slice_get lanes core ≡ Some lane → (k : ℕ) (l : LaneParts) → k < n → slice_get lanes k ≡ Some l
    → IsNoLater core lane.front k l.front

-- no log falls
abbrev pub NoFalls : List LaneParts → Type 0
NoFalls lanes = (k : ℕ) (lane : LaneParts) → slice_get lanes k ≡ Some lane → lane.falls ≡ None

-- no fault was found in any log
abbrev pub AreSound : List LaneParts → Type 0
AreSound lanes = (k : ℕ) (lane : LaneParts) → slice_get lanes k ≡ Some lane → IsSound lane

-- the front of this core was taken, and no other log was touched
pub record IsTaken (core : ℕ) (r : Record) (old new : List LaneParts) : Type 0 where
  pub many : length new ≡ length old
  pub front : (l : LaneParts) × (slice_get old core ≡ Some l) × (l.front ≡ Some r)
  pub others : (k : ℕ) → (k ≡ core → ⊥) → slice_get new k ≡ slice_get old k

-- the entries that were done come before each front, by key
abbrev pub ComeBefore : List Entry → List LaneParts → List (List Record) → Type 0
ComeBefore done lanes merged =
    (x : Entry) → In x done → (k : ℕ) (lane : LaneParts) (r : Record) → slice_get lanes k ≡ Some lane → lane.front ≡ Some r
    → is_lt (entry_cmp x (entry_at k (length (log_at merged k)) r)) ≡ true

-- all logs have ended
abbrev pub AllEnded : List LaneParts → Type 0
AllEnded lanes = (k : ℕ) (lane : LaneParts) → slice_get lanes k ≡ Some lane → lane.front ≡ None

-- the log of a core is merged up to and including these records, and its source stood at `first` and is now at `now`
pub record IsLaneOf {S : Type 0} (remaining : S → Option (List ℕ)) (failed : S → ℕ) (before after : List S) (core : ℕ) (lane : LaneParts) (merged : List Record) : Type 0 where
  pub first : S
  pub now : S
  pub is_first : slice_get before core ≡ Some first
  pub is_now : slice_get after core ≡ Some now
  pub at : IsLaneAt remaining failed core (length before) first now lane merged

-- the first n logs are merged up to and including these records; `clean` says whether no fault was found in them
pub record AreLanes {S : Type 0} (remaining : S → Option (List ℕ)) (failed : S → ℕ) (before after : List S) (n : ℕ) (lanes : List LaneParts) (clean : Bool) (merged : List (List Record)) : Type 0 where
  pub readers : length after ≡ length before
  pub some : 0 < length before
  pub few : length before ≤ 64
  pub logs : length merged ≡ length before
  pub many : length lanes ≡ n
  pub lane : (k : ℕ) (l : LaneParts) → slice_get lanes k ≡ Some l → IsLaneOf remaining failed before after k l (log_at merged k)
  pub clean_is : (clean ≡ true) ↔ AreSound lanes

-- all logs are merged so far; if no log falls, the records were done in the order of their keys
pub record IsMerged {S : Type 0} (remaining : S → Option (List ℕ)) (failed : S → ℕ) (before after : List S) (lanes : List LaneParts) (clean : Bool) (merged : List (List Record)) (done : List Entry) : Type 0 where
  pub all : AreLanes remaining failed before after (length before) lanes clean merged
  pub total : length done ≡ length (entries merged)
  pub by_key_so_far : NoFalls lanes → done ≡ by_key merged
  pub come_before : NoFalls lanes → ComeBefore done lanes merged
