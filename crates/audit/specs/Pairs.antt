-- What a core and a slice say of each other: the messages that the slice served, and those to which the core took a reply.
use Rattle.std.specs.Prelude.{ℕ, ◌%◌, ◌≡◌, ◌<◌, ◌≢◌, List, Option, Some, None, length, if◌then◌else◌, ◌==◌, take, slice_get}
use Rattle.line_stamps.specs.Messages.{addr_of}
use Rattle.line_stamps.specs.declared.message.Message.{Message}
use Rattle.line_stamps.specs.declared.message.Reply.{Reply}
use Rattle.manager_slice.specs.declared.managed.HistoryEntry.{HistoryEntry}
use Rattle.manager_slice.specs.declared.managed.HistoryEntry.TheVariants.{Evicted, Served}
use Rattle.core_unit.specs.declared.entry.CoreEntry.{CoreEntry}
use Rattle.core_unit.specs.declared.entry.CoreEntry.TheVariants.{Performed, Dropped, Gave, Got, Bumped}
use Rattle.audit.specs.Lists.{picks, transcript_of, history_of}

-- which of n slices an address belongs to
abbrev pub slice_of : ℕ → ℕ → ℕ
slice_of n a = a % n

-- the message and its reply in an entry of a core, if they are slice s's
abbrev pub got_at : ℕ → ℕ → CoreEntry → Option (Message × Reply)
got_at n s Performed = None
got_at n s (Dropped a) = None
got_at n s (Gave m) = None
got_at n s (Got m r) = if slice_of n (addr_of m) == s then Some (m, r) else None
got_at n s Bumped = None

-- the message and its reply in an entry of a slice, if they are core c's
abbrev pub served_at : ℕ → HistoryEntry → Option (Message × Reply)
served_at c (Evicted a) = None
served_at c (Served d m r) = if d == c then Some (m, r) else None

-- the messages to slice s to which a core took a reply, with these replies
abbrev pub gots : ℕ → ℕ → List CoreEntry → List (Message × Reply)
gots n s = picks (got_at n s)

-- the messages of core c that a slice served, with its replies
abbrev pub serveds : ℕ → List HistoryEntry → List (Message × Reply)
serveds c = picks (served_at c)

-- core c and slice s say the same of each other
abbrev pub PairAgrees : List (List CoreEntry) → List (List HistoryEntry) → ℕ → ℕ → Type 0
PairAgrees ts hs c s = serveds c (history_of hs s) ≡ gots (length hs) s (transcript_of ts c)

-- so do all cores and slices
abbrev pub Agrees : List (List CoreEntry) → List (List HistoryEntry) → Type 0
Agrees ts hs = (c s : ℕ) → c < 64 → s < length hs → PairAgrees ts hs c s

-- two lists are the same before place k, and differ there; if one ends first, k is its length
abbrev pub DiffersAt : {A : Type 0} → List A → List A → ℕ → Type 0
DiffersAt xs ys k = (take k xs ≡ take k ys) × (slice_get xs k ≢ slice_get ys k)

-- the first difference, by core, then slice, then place
pub record IsFirstDifference (ts : List (List CoreEntry)) (hs : List (List HistoryEntry)) (core slice place : ℕ) : Type 0 where
  pub is_core : core < 64
  pub is_slice : slice < length hs
  pub differs : DiffersAt (serveds core (history_of hs slice)) (gots (length hs) slice (transcript_of ts core)) place
  pub before : (c s : ℕ) → c < core → s < length hs → PairAgrees ts hs c s
  pub earlier : (s : ℕ) → s < slice → PairAgrees ts hs core s
