-- One order of the entries of all lists, and the fault of an audit.
use Rattle.std.specs.Prelude.{ℕ, ◌≡◌, ◌<◌, Bool, true, false, List, [], ◌∷◌, Option, Some, None, length, if◌then◌else◌, ◌==◌, take, slice_get, ◌⊎◌}
use Rattle.line_stamps.specs.Messages.{addr_of}
use Rattle.line_stamps.specs.declared.message.Message.{Message}
use Rattle.line_stamps.specs.declared.message.Reply.{Reply}
use Rattle.manager_slice.specs.declared.managed.HistoryEntry.{HistoryEntry}
use Rattle.manager_slice.specs.declared.managed.HistoryEntry.TheVariants.{Evicted, Served}
use Rattle.core_unit.specs.declared.entry.CoreEntry.{CoreEntry}
use Rattle.core_unit.specs.declared.entry.CoreEntry.TheVariants.{Performed, Dropped, Gave, Got, Bumped}
use Rattle.audit.specs.Lists.{picks, transcript_of, history_of}
use Rattle.audit.specs.Pairs.{slice_of, gots, Agrees, IsFirstDifference}

-- ---- orders

-- One step of an order: an entry that core c makes by itself, an eviction of slice s, or slice s's service of core c's message
-- and, right after it, core c's taking of the reply.
pub data Move : Type 0 where
  alone : ℕ → CoreEntry → Move
  evicts : ℕ → ℕ → Move
  passes : ℕ → ℕ → Message → Reply → Move

-- the entry of core c in a step
abbrev pub core_entry : ℕ → Move → Option CoreEntry
core_entry c (alone d e) = if d == c then Some e else None
core_entry c (evicts s a) = None
core_entry c (passes d s m r) = if d == c then Some (Got m r) else None

-- the entry of slice s in a step
abbrev pub slice_entry : ℕ → Move → Option HistoryEntry
slice_entry s (alone d e) = None
slice_entry s (evicts t a) = if t == s then Some (Evicted a) else None
slice_entry s (passes d t m r) = if t == s then Some (Served d m r) else None

-- the entries of core c in an order
abbrev pub of_core : ℕ → List Move → List CoreEntry
of_core c = picks (core_entry c)

-- the entries of slice s in an order
abbrev pub of_slice : ℕ → List Move → List HistoryEntry
of_slice s = picks (slice_entry s)

-- a core makes every entry by itself but the taking of a reply
abbrev pub is_own : CoreEntry → Bool
is_own Performed = true
is_own (Dropped a) = true
is_own (Gave m) = true
is_own (Got m r) = false
is_own Bumped = true

-- a message is served by the slice of its address
abbrev pub IsMove : ℕ → Move → Type 0
IsMove n (alone c e) = is_own e ≡ true
IsMove n (evicts s a) = Unit {0}
IsMove n (passes c s m r) = slice_of n (addr_of m) ≡ s

abbrev pub AreMoves : ℕ → List Move → Type 0
AreMoves n [] = Unit {0}
AreMoves n (m ∷ ms) = IsMove n m × AreMoves n ms

-- ---- merges

-- the order has all entries, and keeps each list's order
pub record IsMerge (ts : List (List CoreEntry)) (hs : List (List HistoryEntry)) (order : List Move) : Type 0 where
  pub moves : AreMoves (length hs) order
  pub cores : (c : ℕ) → of_core c order ≡ transcript_of ts c
  pub slices : (s : ℕ) → of_slice s order ≡ history_of hs s

-- the whole lists have a merge
pub record HasMerge (ts : List (List CoreEntry)) (hs : List (List HistoryEntry)) : Type 0 where
  pub order : List Move
  pub merges : IsMerge ts hs order

-- the same for fronts of the lists: the first p c entries of each core c and the first q s of each slice s
pub record Merges (ts : List (List CoreEntry)) (hs : List (List HistoryEntry)) (p q : ℕ → ℕ) (order : List Move) : Type 0 where
  pub moves : AreMoves (length hs) order
  pub cores : (c : ℕ) → of_core c order ≡ take (p c) (transcript_of ts c)
  pub slices : (s : ℕ) → of_slice s order ≡ take (q s) (history_of hs s)

-- entry k of core c is in some merged fronts
pub record InFronts (ts : List (List CoreEntry)) (hs : List (List HistoryEntry)) (c k : ℕ) : Type 0 where
  pub p : ℕ → ℕ
  pub q : ℕ → ℕ
  pub order : List Move
  pub merges : Merges ts hs p q order
  pub within : k < p c

-- ---- faults

-- The first entry, by core and then in its transcript, that is in no merged fronts: it is the taking of a reply. Its place is
-- counted among the pairs of its core and slice.
pub record IsFirstUnmerged (ts : List (List CoreEntry)) (hs : List (List HistoryEntry)) (core slice place : ℕ) : Type 0 where
  pub at : ℕ
  pub message : Message
  pub reply : Reply
  pub got : slice_get (transcript_of ts core) at ≡ Some (Got message reply)
  pub slice_is : slice_of (length hs) (addr_of message) ≡ slice
  pub place_is : length (gots (length hs) slice (take at (transcript_of ts core))) ≡ place
  pub out : InFronts ts hs core at → ⊥
  pub before : (k : ℕ) → k < at → InFronts ts hs core k
  pub earlier : (c k : ℕ) → c < core → k < length (transcript_of ts c) → InFronts ts hs c k

-- the first difference, or, if all pairs agree, the first entry that no order reaches
abbrev pub IsAuditFault : List (List CoreEntry) → List (List HistoryEntry) → ℕ → ℕ → ℕ → Type 0
IsAuditFault ts hs core slice place =
    IsFirstDifference ts hs core slice place ⊎ (Agrees ts hs × IsFirstUnmerged ts hs core slice place)
