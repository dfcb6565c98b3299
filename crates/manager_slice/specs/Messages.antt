-- Messages and replies.
use Rattle.std.specs.Prelude.{Bool, true, false}
use Rattle.line_stamps.specs.declared.message.Message.{Message}
use Rattle.line_stamps.specs.declared.message.Message.TheVariants.{ShReq, ExReq, WbRep, FlushRep}
use Rattle.line_stamps.specs.declared.message.Reply.{Reply}
use Rattle.line_stamps.specs.declared.message.Reply.TheVariants.{ShRep, ExRep, RenewRep, UpgradeRep, Taken, Busy}

-- whether a message is a request; the others give a line back
abbrev pub is_request : Message → Bool
is_request (ShReq a copy pts) = true
is_request (ExReq a copy) = true
is_request (WbRep a l) = false
is_request (FlushRep a l) = false

abbrev pub is_busy_reply : Reply → Bool
is_busy_reply (ShRep l) = false
is_busy_reply (ExRep l) = false
is_busy_reply (RenewRep rts) = false
is_busy_reply (UpgradeRep rts) = false
is_busy_reply Taken = false
is_busy_reply (Busy recall) = true
