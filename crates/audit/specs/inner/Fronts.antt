-- Fronts of all lists that move on as far as one order goes.
use Rattle.std.specs.Prelude.{ℕ, ◌≡◌, ◌<◌, ◌≤◌, ◌≢◌, ◌^◌, Bool, false, List, Option, Some, None, length, drop, take, slice_get, slice_index, sum}
use Rattle.std.specs.Option.{option_map_or}
use Rattle.line_stamps.specs.Messages.{addr_of}
use Rattle.line_stamps.specs.declared.message.Message.{Message}
use Rattle.line_stamps.specs.declared.message.Reply.{Reply}
use Rattle.manager_slice.specs.declared.managed.HistoryEntry.{HistoryEntry}
use Rattle.manager_slice.specs.declared.managed.HistoryEntry.TheVariants.{Evicted, Served}
use Rattle.core_unit.specs.declared.entry.CoreEntry.{CoreEntry}
use Rattle.core_unit.specs.declared.entry.CoreEntry.TheVariants.{Performed, Dropped, Gave, Got, Bumped}
use Rattle.audit.specs.Lists.{transcript_of, history_of}
use Rattle.audit.specs.Merges.{Move, Merges, is_own}
use Rattle.audit.specs.Pairs.{slice_of}

-- two lists are the same before place k, and go on with xr and yr
pub record SameSoFar {A : Type 0} (xs ys : List A) (k : ℕ) (xr yr : List A) : Type 0 where
  pub one : drop k xs ≡ xr
  pub other : drop k ys ≡ yr
  pub same : take k xs ≡ take k ys

-- there is an order of these fronts
pub record Reached (ts : List (List CoreEntry)) (hs : List (List HistoryEntry)) (p q : List ℕ) : Type 0 where
  pub order : List Move
  pub merges : Merges ts hs (λ c. slice_index p c) (λ s. slice_index q s) order

-- the fronts are within their lists
pub record FrontsFit (ts : List (List CoreEntry)) (hs : List (List HistoryEntry)) (p q : List ℕ) : Type 0 where
  pub cores : (c : ℕ) → slice_index p c ≤ length (transcript_of ts c)
  pub slices : (s : ℕ) → slice_index q s ≤ length (history_of hs s)

-- the length of each list fits in 64 bits
pub record Small (ts : List (List CoreEntry)) (hs : List (List HistoryEntry)) : Type 0 where
  pub cores : (c : ℕ) → length (transcript_of ts c) < 2 ^ 64
  pub slices : (s : ℕ) → length (history_of hs s) < 2 ^ 64

-- whether an entry that the core makes by itself stands at this place
abbrev pub goes_alone : List CoreEntry → ℕ → Bool
goes_alone t k = option_map_or is_own (slice_get t k) false

-- which of n slices gave the reply that an entry takes, if it takes one
abbrev pub slice_waited : ℕ → CoreEntry → Option ℕ
slice_waited n Performed = None
slice_waited n (Dropped a) = None
slice_waited n (Gave m) = None
slice_waited n (Got m r) = Some (slice_of n (addr_of m))
slice_waited n Bumped = None

-- the same for an entry that may not be there
abbrev pub waits_for : ℕ → Option CoreEntry → Option ℕ
waits_for n None = None
waits_for n (Some e) = slice_waited n e

-- slice s can't go on
pub record SliceStuck (ts : List (List CoreEntry)) (hs : List (List HistoryEntry)) (p q : List ℕ) (s : ℕ) : Type 0 where
  pub no_evicted : (a : ℕ) → slice_get (history_of hs s) (slice_index q s) ≢ Some (Evicted a)
  pub no_pass : (c : ℕ) (m : Message) (r : Reply) → slice_get (history_of hs s) (slice_index q s) ≡ Some (Served c m r) →
      slice_of (length hs) (addr_of m) ≡ s → slice_get (transcript_of ts c) (slice_index p c) ≢ Some (Got m r)

-- no core can go on by itself, and no slice that isn't due for a look can go on
pub record StuckButFor (ts : List (List CoreEntry)) (hs : List (List HistoryEntry)) (p q due : List ℕ) : Type 0 where
  pub cores : (c : ℕ) → goes_alone (transcript_of ts c) (slice_index p c) ≡ false
  pub slices : (s : ℕ) → slice_index due s ≡ 0 → SliceStuck ts hs p q s

-- no list can go on
pub record Stuck (ts : List (List CoreEntry)) (hs : List (List HistoryEntry)) (p q : List ℕ) : Type 0 where
  pub cores : (c : ℕ) → goes_alone (transcript_of ts c) (slice_index p c) ≡ false
  pub slices : (s : ℕ) → SliceStuck ts hs p q s

-- only list c moved on
pub record IsOneOn (c : ℕ) (p q : List ℕ) : Type 0 where
  pub count : length q ≡ length p
  pub more : sum p ≤ sum q
  pub others : (d : ℕ) → d ≢ c → slice_index q d ≡ slice_index p d

-- fronts of 64 cores and 16 slices that have an order
pub record AreFronts (ts : List (List CoreEntry)) (hs : List (List HistoryEntry)) (p q : List ℕ) : Type 0 where
  pub reached : Reached ts hs p q
  pub fit : FrontsFit ts hs p q
  pub cores : length p ≡ 64
  pub slices : length q ≡ 16

-- a slice is due for a look
abbrev pub IsDue : List ℕ → ℕ → Type 0
IsDue due s = (s < 16) × (slice_index due s ≢ 0)

-- nothing but the slices that are due for a look can go on from these fronts
pub record Merging (ts : List (List CoreEntry)) (hs : List (List HistoryEntry)) (p q due_slices : List ℕ) : Type 0 where
  pub fronts : AreFronts ts hs p q
  pub stuck : StuckButFor ts hs p q due_slices
  pub due : length due_slices ≡ 16
