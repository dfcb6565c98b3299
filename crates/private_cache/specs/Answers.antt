-- What each call answers, by what the table makes of its line.
use Rattle.std.specs.Prelude.{ℕ, nat_le, if◌then◌else◌, Option, Some, None}
use Rattle.line_stamps.specs.declared.fault.StampFault.{StampFault}
use Rattle.line_stamps.specs.declared.fault.StampFault.TheVariants.{StampLimit, RankLimit}
use Rattle.line_stamps.specs.declared.line.Line.{Line}
use Rattle.line_stamps.specs.declared.message.Message.{Message}
use Rattle.line_stamps.specs.declared.message.Message.TheVariants.{ShReq, ExReq, WbRep, FlushRep}
use Rattle.line_stamps.specs.declared.message.Recall.{Recall}
use Rattle.line_stamps.specs.declared.message.RecallKind.{RecallKind}
use Rattle.line_stamps.specs.declared.message.RecallKind.TheVariants.{WriteBack, Flush}
use Rattle.private_cache.specs.declared.answer.Evicted.{Evicted}
use Rattle.private_cache.specs.declared.answer.Evicted.TheVariants.{Nothing, Dropped, GiveBack}
use Rattle.private_cache.specs.declared.answer.Read.{Read}
use Rattle.private_cache.specs.declared.answer.Read.TheVariants as read
use Rattle.private_cache.specs.declared.answer.Store.{Store}
use Rattle.private_cache.specs.declared.answer.Store.TheVariants as store
use Rattle.private_cache.specs.declared.held.Held.{Held}
use Rattle.private_cache.specs.declared.held.Held.TheVariants.{Shared, Exclusive}
use Rattle.private_cache.specs.Table.{Hit, copy_of}

-- the limit that a stamp exceeds, or else a rank
abbrev pub past_limit : ℕ → ℕ → Option StampFault
past_limit stamp rank =
    if nat_le stamp 281474976710656 then (if nat_le rank 4294967295 then None else Some RankLimit) else Some StampLimit

-- why a hit is refused
abbrev pub hit_fault : Option Hit → Option StampFault
hit_fault None = None
hit_fault (Some hit) = past_limit hit.stamp hit.rank

-- why a give-back is refused
abbrev pub give_fault : Option Line → Option StampFault
give_fault None = None
give_fault (Some l) = past_limit l.stamps.rts 0

-- the answer to a load by a core of stamp `pts` from an address that had this line before
abbrev pub load_answer : ℕ → ℕ → Option Held → Option Hit → Read
load_answer a pts held None = read.Miss (ShReq a (copy_of held) pts)
load_answer a pts held (Some hit) = read.Hit hit.value hit.source hit.stamp hit.rank

-- the answer to a store to an address that had this line before
abbrev pub store_answer : ℕ → Option Held → Option Hit → Store
store_answer a held None = store.Miss (ExReq a (copy_of held))
store_answer a held (Some hit) = store.Hit hit.stamp hit.rank

-- the answer to a swap at an address that had this line before
abbrev pub swap_answer : ℕ → Option Held → Option Hit → Read
swap_answer a held None = read.Miss (ExReq a (copy_of held))
swap_answer a held (Some hit) = read.Hit hit.value hit.source hit.stamp hit.rank

-- the answer to an eviction of an address that had this line
abbrev pub evict_answer : ℕ → Option Held → Evicted
evict_answer a None = Nothing
evict_answer a (Some (Shared l)) = Dropped
evict_answer a (Some (Exclusive modified l)) = GiveBack (FlushRep a l)

-- the message that gives a line back
abbrev pub give_back : RecallKind → ℕ → Line → Message
give_back WriteBack a l = WbRep a l
give_back Flush a l = FlushRep a l

abbrev pub recall_answer : Recall → Option Line → Option Message
recall_answer recall None = None
recall_answer recall (Some l) = Some (give_back recall.kind recall.addr l)
