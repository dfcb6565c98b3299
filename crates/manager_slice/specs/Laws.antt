-- Laws of slices.
use Rattle.std.specs.Prelude.{◌≡◌, ◌≢◌, ◌↔◌, ℕ, false, nat_eq, Some}
use Rattle.std.specs.Map.{lookup}
use Rattle.line_stamps.specs.declared.message.Message.{Message}
use Rattle.line_stamps.specs.Messages.{addr_of}
use Rattle.manager_slice.specs.Messages.{is_request}
use Rattle.manager_slice.specs.Outcome.{Refuses, handle_outcome}
use Rattle.manager_slice.specs.Parts.{SliceParts}
use Rattle.manager_slice.specs.declared.fault.SliceFault.TheVariants.{NotOwner}
use Rattle.manager_slice.specs.declared.managed.ManagedLine.TheVariants.{Exclusive}

-- 11 comes exactly if a core gives back a line that it doesn't own
abbrev pub OnlyOwnersGiveBack : Type 0
OnlyOwnersGiveBack =
    (p : SliceParts) (c : ℕ) (m : Message) →
    (handle_outcome p c m ≡ Refuses NotOwner) ↔ ((is_request m ≡ false) × (lookup (nat_eq (addr_of m)) p.state.lines ≢ Some (Exclusive c)))
