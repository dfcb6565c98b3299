-- Owners, and messages in hand: what no run of the core machine breaks.
use Rattle.std.specs.Prelude.{◌≡◌, ℕ, Bool, true, false, Option, Some, None, slice_get}
use Rattle.std.specs.FinMap as map
use Rattle.line_stamps.specs.declared.line.Line.{Line}
use Rattle.line_stamps.specs.declared.message.Message.{Message}
use Rattle.line_stamps.specs.declared.message.Message.TheVariants.{ShReq, ExReq, WbRep, FlushRep}
use Rattle.line_stamps.specs.declared.message.Recall.{Recall}
use Rattle.line_stamps.specs.declared.message.Reply.{Reply}
use Rattle.line_stamps.specs.declared.message.Reply.TheVariants.{Taken, Busy}
use Rattle.line_stamps.specs.declared.message.RecallKind.TheVariants.{WriteBack, Flush}
use Rattle.line_stamps.specs.Messages.{addr_of}
use Rattle.lease_rule.specs.ConfigParts.{ConfigParts}
use Rattle.private_cache.specs.CacheParts.{Lines}
use Rattle.private_cache.specs.Table.{copy_of, left, filled}
use Rattle.private_cache.specs.declared.held.Held.{Held}
use Rattle.private_cache.specs.declared.held.Held.TheVariants.{Exclusive}
use Rattle.manager_slice.specs.Messages.{is_request}
use Rattle.manager_slice.specs.declared.managed.ManagedLine.TheVariants as managed
use Rattle.core_unit.specs.Core.{Core, has_place, fits}
use Rattle.core_machine.specs.Machine.{World}
use Rattle.machine_laws.specs.Settled.{Settled}

-- a core has a line as Exclusive exactly if the line is managed as its own
pub record AgreeOnOwners (x : Settled) : Type 0 where
  pub owner : (c a : ℕ) (modified : Bool) (l : Line) → x.entry c a ≡ Some (Exclusive modified l) → x.managed a ≡ managed.Exclusive c
  pub owned : (c a : ℕ) → x.managed a ≡ managed.Exclusive c → (modified : Bool) × (l : Line) × (x.entry c a ≡ Some (Exclusive modified l))

-- a message in hand is true of the line: a request names the copy that is there, and after a give-back the core has what such a
-- message leaves
abbrev pub HandTells : Option Message → Lines → Type 0
HandTells None lines = Unit {0}
HandTells (Some (ShReq a copy pts)) lines = copy ≡ copy_of (map.get lines a)
HandTells (Some (ExReq a copy)) lines = copy ≡ copy_of (map.get lines a)
HandTells (Some (WbRep a l)) lines = map.get lines a ≡ left WriteBack l
HandTells (Some (FlushRep a l)) lines = map.get lines a ≡ left Flush l

abbrev pub HandsTell : World → Type 0
HandsTell w = (c : ℕ) (u : Core) → slice_get w.cores c ≡ Some u → HandTells u.hand u.lines

-- the reply that is kept, if there is one, answers the message in hand
pub data ReplyFits (g : ConfigParts) (u : Core) : Type 0 where
  no_message : u.hand ≡ None → u.kept ≡ None → ReplyFits g u
  -- the message isn't served yet; if it is a request, its line is there or one more fits
  unserved : (m : Message) → u.hand ≡ Some m → u.kept ≡ None → (is_request m ≡ true → has_place g u (addr_of m) ≡ true) → ReplyFits g u
  busy : (m : Message) (x : Recall) → u.hand ≡ Some m → u.kept ≡ Some (Busy x) → is_request m ≡ true → ReplyFits g u
  taken : (m : Message) → u.hand ≡ Some m → u.kept ≡ Some Taken → is_request m ≡ false → ReplyFits g u
  fills : (m : Message) (x : Reply) (held : Held) → u.hand ≡ Some m → u.kept ≡ Some x → fits m x ≡ true → has_place g u (addr_of m) ≡ true →
      filled (map.get u.lines (addr_of m)) x ≡ Some held → ReplyFits g u

abbrev pub RepliesFit : ConfigParts → World → Type 0
RepliesFit g w = (c : ℕ) (u : Core) → slice_get w.cores c ≡ Some u → ReplyFits g u
