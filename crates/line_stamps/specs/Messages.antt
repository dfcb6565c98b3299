-- What a message is about.
use Rattle.std.specs.Prelude.{ℕ}
use Rattle.line_stamps.specs.declared.message.Message.{Message}
use Rattle.line_stamps.specs.declared.message.Message.TheVariants.{ShReq, ExReq, WbRep, FlushRep}

-- the address of its line
abbrev pub addr_of : Message → ℕ
addr_of (ShReq a copy pts) = a
addr_of (ExReq a copy) = a
addr_of (WbRep a l) = a
addr_of (FlushRep a l) = a
