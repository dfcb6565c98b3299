-- The rules of stamps and ranks.
use Rattle.std.specs.Prelude.{◌≡◌, ℕ, ◌+◌, ◌<◌, ◌≤◌, max, Bool, ◌==◌, if◌then◌else◌, Result, MatchResult}
use Rattle.line_stamps.specs.StampParts.{StampParts}
use Rattle.line_stamps.specs.declared.fault.StampFault.{StampFault}
use Rattle.line_stamps.specs.declared.fault.StampFault.TheVariants.{StampLimit, RankLimit}

abbrev pub load_stamp : ℕ → ℕ → ℕ
load_stamp pts wts = max pts wts

-- a store comes after the line's lease, or at its end if the owner has modified the line already
abbrev pub store_stamp : ℕ → ℕ → Bool → ℕ
store_stamp pts rts modified = max pts (if modified then rts else rts + 1)

-- at the core's own stamp, not below the core's rank; at the stamp of the line's store, above that store's rank
abbrev pub rank_of : ℕ → ℕ → ℕ → ℕ → ℕ → ℕ
rank_of t pts r wts wr = max (if t == pts then r else 0) (if t == wts then wr + 1 else 0)

-- the end of the lease that a slice gives to a core
abbrev pub renewed_rts : StampParts → ℕ → ℕ → ℕ
renewed_rts s pts lease = max (max s.rts (s.wts + lease)) (pts + lease)

-- the end of the lease of a line that is written back
abbrev pub write_back_rts : StampParts → ℕ → ℕ → ℕ
write_back_rts s asked lease = max (max s.rts (s.wts + lease)) asked

abbrev pub self_increment : ℕ → ℕ
self_increment pts = pts + 1

-- this stamp, or the fault exactly if it is above the limit
abbrev pub AnswersStamp : Result ℕ StampFault → ℕ → Type 0
AnswersStamp r t =
    MatchResult r (λ stamp. (stamp ≡ t) × (t ≤ 281474976710656)) (λ fault. (fault ≡ StampLimit) × (281474976710656 < t))

-- this rank, or the fault exactly if it is above the limit
abbrev pub AnswersRank : Result ℕ StampFault → ℕ → Type 0
AnswersRank r k =
    MatchResult r (λ rank. (rank ≡ k) × (k ≤ 4294967295)) (λ fault. (fault ≡ RankLimit) × (4294967295 < k))
