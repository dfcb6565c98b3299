-- Versions and ranks: what no run of the core machine breaks.
use Rattle.std.specs.Prelude.{◌≡◌, ℕ, ◌<◌, ◌≤◌, ◌⊎◌, true, Some}
use Rattle.mem_op.specs.declared.id.OpId.{OpId}
use Rattle.mem_op.specs.declared.id.Source.{Source}
use Rattle.mem_op.specs.declared.id.Source.TheVariants.{Init, Store}
use Rattle.line_stamps.specs.declared.line.Line.{Line}
use Rattle.log_record.specs.declared.record.Record.{Record}
use Rattle.address_check.specs.AddressFaults.{is_store}
use Rattle.machine_laws.specs.Views.{View, Did, read_of}

-- the pair (ts, rank) is at most the pair (ts', rank')
pub record AtMost (ts rank ts' rank' : ℕ) : Type 0 where
  pub time : ts ≤ ts'
  pub tie : ts ≡ ts' → rank ≤ rank'

-- p, which is operation j of core d, has a lesser key than q, operation i of core c
pub record Earlier (d j : ℕ) (p : Record) (c i : ℕ) (q : Record) : Type 0 where
  pub time : p.ts ≤ q.ts
  pub rank : p.ts ≡ q.ts → p.rank ≤ q.rank
  pub core : p.ts ≡ q.ts → p.rank ≡ q.rank → d ≤ c
  pub index : p.ts ≡ q.ts → p.rank ≡ q.rank → d ≡ c → j < i

-- ---- where a line comes from

-- this id's operation is a store of x to a, at (ts, rank) or before
pub record IsStoreAt (v : View) (id : OpId) (a x ts rank : ℕ) : Type 0 where
  pub store : Record
  pub did : Did v id.core id.index store
  pub act : is_store store.act ≡ true
  pub addr : store.addr ≡ a
  pub value : store.value ≡ x
  pub place : AtMost store.ts store.rank ts rank

-- a version of the word x at a, which was written at (ts, rank) or before, comes from this source
abbrev pub IsSourced : View → Source → ℕ → ℕ → ℕ → ℕ → Type 0
IsSourced v Init a x ts rank = x ≡ 0
IsSourced v (Store id) a x ts rank = IsStoreAt v id a x ts rank

-- ---- which stores are not after a source

-- p, which is operation j of core d, has a lesser key than this id's operation
pub record IsBehind (v : View) (id : OpId) (d j : ℕ) (p : Record) : Type 0 where
  pub store : Record
  pub did : Did v id.core id.index store
  pub earlier : Earlier d j p id.core id.index store

-- p, which is operation j of core d, is the source, or has a lesser key than it
abbrev pub NotAfter : View → Source → ℕ → ℕ → Record → Type 0
NotAfter v Init d j p = ⊥
NotAfter v (Store id) d j p = ((d ≡ id.core) × (j ≡ id.index)) ⊎ IsBehind v id d j p

-- ---- what was read

-- this id's operation is a store of x to the address of q, with a lesser key than q, which is operation i of core c
pub record IsFrom (v : View) (id : OpId) (x c i : ℕ) (q : Record) : Type 0 where
  pub store : Record
  pub did : Did v id.core id.index store
  pub act : is_store store.act ≡ true
  pub addr : store.addr ≡ q.addr
  pub value : store.value ≡ x
  pub earlier : Earlier id.core id.index store c i q

abbrev pub ComesFrom : View → Source → ℕ → ℕ → ℕ → Record → Type 0
ComesFrom v Init x c i q = x ≡ 0
ComesFrom v (Store id) x c i q = IsFrom v id x c i q

-- x is the value of the last store to q's address with a lesser key than q, and this is its source; or 0 and `Init` if there is none
pub record IsRight (v : View) (c i : ℕ) (q : Record) (source : Source) (x : ℕ) : Type 0 where
  pub comes : ComesFrom v source x c i q
  -- each store to the address is not after the source, or is q itself (a swap is a store as well), or is later than q
  pub others : (d j : ℕ) (p : Record) → Did v d j p → p.addr ≡ q.addr → is_store p.act ≡ true → NotAfter v source d j p ⊎ (((d ≡ c) × (j ≡ i)) ⊎ Earlier c i q d j p)

pub record HasVersions (v : View) : Type 0 where
  -- each core's operations ascend in (ts, rank), up to where the core is
  pub reached : (c i : ℕ) (q : Record) → Did v c i q → AtMost q.ts q.rank (v.pts c) (v.r c)
  pub order : (c i j : ℕ) (p q : Record) → Did v c i p → Did v c j q → i < j → AtMost p.ts p.rank q.ts q.rank
  -- each line has the value of its source, which was written at (wts, wr) or before
  pub home_source : (a : ℕ) → IsSourced v (v.home a).source a (v.home a).value (v.home a).stamps.wts (v.home a).stamps.wr
  pub copy_source : (c a : ℕ) (k : Line) → v.copy c a ≡ Some k → IsSourced v k.source a k.value k.stamps.wts k.stamps.wr
  -- a copy is of its line's version, or ends before that was written
  pub version : (c a : ℕ) (k : Line) → v.copy c a ≡ Some k → (k.source ≡ (v.home a).source) ⊎ (k.stamps.rts < (v.home a).stamps.wts)
  -- no store comes after the line's source; and after a copy's source come only stores that are later than the copy's lease
  pub last : (d j : ℕ) (p : Record) → Did v d j p → is_store p.act ≡ true → NotAfter v (v.home p.addr).source d j p
  pub copy_last : (c : ℕ) (k : Line) (d j : ℕ) (p : Record) → v.copy c p.addr ≡ Some k → Did v d j p → is_store p.act ≡ true → NotAfter v k.source d j p ⊎ (k.stamps.rts < p.ts)
  -- each load and each swap has read the last store before it
  pub right : (c i : ℕ) (q : Record) (source : Source) (x : ℕ) → Did v c i q → read_of q ≡ Some (source, x) → IsRight v c i q source x

-- ---- equal stamps

-- two lines have the same word from the same source
pub record AreOneVersion (k l : Line) : Type 0 where
  pub value : k.value ≡ l.value
  pub source : k.source ≡ l.source

-- equal `wts` at one address means equal value and source
pub record AgreeOnVersions (v : View) : Type 0 where
  -- of two copies
  pub copies : (c d a : ℕ) (k l : Line) → v.copy c a ≡ Some k → v.copy d a ≡ Some l → k.stamps.wts ≡ l.stamps.wts → AreOneVersion k l
  -- of a copy and its home
  pub home : (c a : ℕ) (k : Line) → v.copy c a ≡ Some k → k.stamps.wts ≡ (v.home a).stamps.wts → AreOneVersion k (v.home a)
