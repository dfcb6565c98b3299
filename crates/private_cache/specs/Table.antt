-- The table of the private cache: what each event makes of the line of its address. Every other line stays,
-- and `None` is a line that isn't there (Invalid). The order of use isn't in it: any line may be evicted.
use Rattle.std.specs.Prelude.{ℕ, Bool, true, false, max, nat_le, if◌then◌else◌, Option, Some, None}
use Rattle.std.specs.Option.{option_map}
use Rattle.std.specs.FinMap as map
use Rattle.mem_op.specs.declared.id.Source.{Source}
use Rattle.line_stamps.specs.declared.line.Line.{Line}
use Rattle.line_stamps.specs.declared.message.Recall.{Recall}
use Rattle.line_stamps.specs.declared.message.RecallKind.{RecallKind}
use Rattle.line_stamps.specs.declared.message.RecallKind.TheVariants.{WriteBack, Flush}
use Rattle.line_stamps.specs.declared.message.Reply.{Reply}
use Rattle.line_stamps.specs.declared.message.Reply.TheVariants.{ShRep, ExRep, RenewRep, UpgradeRep}
use Rattle.lease_rule.specs.Lease.{load_stamp, store_stamp, rank_of, write_back_rts}
use Rattle.private_cache.specs.declared.held.Held.{Held}
use Rattle.private_cache.specs.declared.held.Held.TheVariants.{Shared, Exclusive}
use Rattle.private_cache.specs.CacheParts.{Lines}

-- the lines with this one at the address, or with none there
abbrev pub put : Lines → ℕ → Option Held → Lines
put lines a None = map.remove lines a
put lines a (Some held) = map.insert lines a held

abbrev pub line_of : Held → Line
line_of (Shared l) = l
line_of (Exclusive modified l) = l

abbrev pub is_shared : Held → Bool
is_shared (Shared l) = true
is_shared (Exclusive modified l) = false

abbrev pub with_rts : Line → ℕ → Line
with_rts l rts = record l { stamps = record l.stamps { rts = rts } }

-- a hit: the word that the line had and its source, the line after it, and the stamp and the rank of the operation
pub record Hit : Type 0 where
  pub value : ℕ
  pub source : Source
  pub held : Held
  pub stamp : ℕ
  pub rank : ℕ

-- the line after a load at stamp t: an owner extends the lease to t
abbrev pub read_at : Held → ℕ → Held
read_at (Shared l) t = Shared l
read_at (Exclusive modified l) t = Exclusive modified (with_rts l (max l.stamps.rts t))

-- the hit of a load at this line, for a core of stamp `pts` and rank `r`
abbrev pub loaded : ℕ → ℕ → Held → Hit
loaded pts r held =
    let old = line_of held in
    let t = load_stamp pts old.stamps.wts in
    record { value = old.value; source = old.source; held = read_at held t; stamp = t; rank = rank_of t pts r old.stamps.wts old.stamps.wr }

-- the same, or None if it is a miss
abbrev pub load_hit : ℕ → ℕ → Option Held → Option Hit
load_hit pts r None = None
load_hit pts r (Some (Shared l)) = if nat_le pts l.stamps.rts then Some (loaded pts r (Shared l)) else None
load_hit pts r (Some (Exclusive modified l)) = Some (loaded pts r (Exclusive modified l))

-- the line after a store: the word and its source, and the stamp and the rank of the store
abbrev pub stored : ℕ → Source → ℕ → ℕ → Held
stored value source t rank =
    Exclusive true (record { value = value; source = source; stamps = record { wts = t; rts = t; wr = rank } })

-- the hit of a store, for a core of stamp `pts` and rank `r`, or None if it is a miss
abbrev pub store_hit : ℕ → Source → ℕ → ℕ → Option Held → Option Hit
store_hit value source pts r None = None
store_hit value source pts r (Some (Shared l)) = None
store_hit value source pts r (Some (Exclusive modified l)) =
    let t = store_stamp pts l.stamps.rts modified in
    let rank = rank_of t pts r l.stamps.wts l.stamps.wr in
    Some (record { value = l.value; source = l.source; held = stored value source t rank; stamp = t; rank = rank })

-- the hit of a swap is a store's: it reads the word that was there with its source, and leaves the line as the store does
abbrev pub swap_hit : ℕ → Source → ℕ → ℕ → Option Held → Option Hit
swap_hit value source pts r held = store_hit value source pts r held

-- the `wts` of a core's copy, which its request names
abbrev pub copy_of : Option Held → Option ℕ
copy_of None = None
copy_of (Some held) = Some (line_of held).stamps.wts

-- the line as its owner gives it back
abbrev pub given : RecallKind → Line → ℕ → ℕ → Line
given WriteBack l asked lease = with_rts l (write_back_rts l.stamps asked lease)
given Flush l asked lease = l

-- and what the owner keeps of it
abbrev pub left : RecallKind → Line → Option Held
left WriteBack l = Some (Shared l)
left Flush l = None

-- the line that a recall makes its owner give back, or None if the line isn't there as Exclusive
abbrev pub recalled : Recall → ℕ → Option Held → Option Line
recalled recall lease None = None
recalled recall lease (Some (Shared l)) = None
recalled recall lease (Some (Exclusive modified l)) = Some (given recall.kind l recall.rts lease)

-- the copy with a lease that ends at `rts`, or None if it was written after that
abbrev pub renewed : Line → ℕ → Option Line
renewed l rts = if nat_le l.stamps.wts rts then Some (with_rts l rts) else None

-- the line after a reply, or None if the reply doesn't fit it
abbrev pub filled : Option Held → Reply → Option Held
filled None (ShRep l) = Some (Shared l)
filled None (ExRep l) = Some (Exclusive false l)
filled (Some (Shared old)) (ShRep l) = Some (Shared l)
filled (Some (Shared old)) (ExRep l) = Some (Exclusive false l)
filled (Some (Shared old)) (RenewRep rts) = option_map (λ l. Shared l) (renewed old rts)
filled (Some (Shared old)) (UpgradeRep rts) = option_map (λ l. Exclusive false l) (renewed old rts)
filled _ _ = None
