-- A state of the core machine with its messages taken away. A core does nothing while a message is in its hand, so what is on its way
-- counts as arrived: a reply that is kept has filled its line. A line that is given back and not yet served counts as still owned.
use Rattle.std.specs.Prelude.{ℕ, Bool, false, ◌==◌, if◌then◌else◌, List, [], Option, Some, None, slice_get}
use Rattle.std.specs.Option.{option_map_or}
use Rattle.std.specs.FinMap as map
use Rattle.mem_op.specs.declared.id.Source.TheVariants.{Init}
use Rattle.line_stamps.specs.declared.line.Line.{Line}
use Rattle.line_stamps.specs.declared.message.Message.{Message}
use Rattle.line_stamps.specs.declared.message.Message.TheVariants.{ShReq, ExReq, WbRep, FlushRep}
use Rattle.line_stamps.specs.declared.message.Reply.{Reply}
use Rattle.line_stamps.specs.Messages.{addr_of}
use Rattle.lease_rule.specs.ConfigParts.{ConfigParts}
use Rattle.log_record.specs.declared.record.Record.{Record}
use Rattle.private_cache.specs.Table.{filled}
use Rattle.private_cache.specs.declared.held.Held.{Held}
use Rattle.private_cache.specs.declared.held.Held.TheVariants.{Shared, Exclusive}
use Rattle.manager_slice.specs.Table.{Slice, met_line}
use Rattle.manager_slice.specs.declared.managed.ManagedLine.{ManagedLine}
use Rattle.manager_slice.specs.declared.managed.ManagedLine.TheVariants as managed
use Rattle.core_unit.specs.Core.{Core}
use Rattle.core_machine.specs.Machine.{World, slice_number}
use Rattle.machine_laws.specs.Views.{View}

-- what each core has at each address, and how the line there is managed; a line in memory counts as Shared
pub record Settled : Type 0 where
  pub entry : ℕ → ℕ → Option Held
  pub managed : ℕ → ManagedLine
  pub pts : ℕ → ℕ
  pub r : ℕ → ℕ
  pub log : ℕ → List Record

-- ---- with its messages taken away

abbrev pub or_else : Option Held → Option Held → Option Held
or_else None entry = entry
or_else (Some held) entry = Some held

-- a line that is given back and not yet served is still there, unmodified; a request changes nothing
abbrev pub unserved : Message → Option Held → Option Held
unserved (ShReq a copy pts) entry = entry
unserved (ExReq a copy) entry = entry
unserved (WbRep a l) entry = Some (Exclusive false l)
unserved (FlushRep a l) entry = Some (Exclusive false l)

-- a reply that is kept has arrived
abbrev pub arrived : Option Reply → Message → Option Held → Option Held
arrived None m entry = unserved m entry
arrived (Some x) m entry = or_else (filled entry x) entry

abbrev pub with_hand : Option Message → Option Reply → ℕ → Option Held → Option Held
with_hand None kept a entry = entry
with_hand (Some m) kept a entry = if addr_of m == a then arrived kept m entry else entry

-- what a core has at an address
abbrev pub entry_of : Core → ℕ → Option Held
entry_of u a = with_hand u.hand u.kept a (map.get u.lines a)

abbrev pub entry_at : Option Core → ℕ → Option Held
entry_at None a = None
entry_at (Some u) a = entry_of u a

abbrev pub pts_at : Option Core → ℕ
pts_at u = option_map_or (λ v. v.pts) u 0

abbrev pub r_at : Option Core → ℕ
r_at u = option_map_or (λ v. v.r) u 0

abbrev pub log_of : Option Core → List Record
log_of u = option_map_or (λ v. v.log) u []

-- the line of an address to which nothing was stored
abbrev pub blank_line : Line
blank_line = record { value = 0; source = Init; stamps = record { wts = 0; rts = 0; wr = 0 } }

abbrev pub managed_at : Option Slice → ℕ → ManagedLine
managed_at None a = managed.Shared blank_line
managed_at (Some s) a = met_line s a

abbrev pub settled : ConfigParts → World → Settled
settled g w = record {
  entry = λ c a. entry_at (slice_get w.cores c) a;
  managed = λ a. managed_at (slice_get w.slices (slice_number g a)) a;
  pts = λ c. pts_at (slice_get w.cores c);
  r = λ c. r_at (slice_get w.cores c);
  log = λ c. log_of (slice_get w.cores c);
}

-- ---- as it is seen at each address

abbrev pub line_in : Option Held → Line
line_in None = blank_line
line_in (Some (Shared l)) = l
line_in (Some (Exclusive modified l)) = l

abbrev pub copy_in : Option Held → Option Line
copy_in None = None
copy_in (Some (Shared l)) = Some l
copy_in (Some (Exclusive modified l)) = None

abbrev pub is_dirty : Option Held → Bool
is_dirty None = false
is_dirty (Some (Shared l)) = false
is_dirty (Some (Exclusive modified l)) = modified

abbrev pub home_from : ManagedLine → (ℕ → Option Held) → Line
home_from (managed.Shared l) entries = l
home_from (managed.Exclusive c) entries = line_in (entries c)

abbrev pub home : Settled → ℕ → Line
home x a = home_from (x.managed a) (λ c. x.entry c a)

abbrev pub view : Settled → View
view x = record {
  home = home x;
  copy = λ c a. copy_in (x.entry c a);
  dirty = λ c a. is_dirty (x.entry c a);
  pts = x.pts;
  r = x.r;
  log = x.log;
}

-- the machine as it is seen at each address
abbrev pub view_of : ConfigParts → World → View
view_of g w = view (settled g w)
