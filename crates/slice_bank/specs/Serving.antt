-- What a slice among several does about a message.
use Rattle.std.specs.Prelude.{◌≡◌, ℕ, ◌%◌, List, Some, Result, IfOk, slice_get, slice_set}
use Rattle.lease_rule.specs.ConfigParts.{ConfigParts}
use Rattle.line_stamps.specs.declared.message.Message.{Message}
use Rattle.line_stamps.specs.declared.message.Reply.{Reply}
use Rattle.manager_slice.specs.Outcome.{IsHandled, OutcomeLeads, handle_outcome}
use Rattle.manager_slice.specs.Parts.{SliceParts}
use Rattle.manager_slice.specs.Replay.{Replays}
use Rattle.manager_slice.specs.declared.fault.SliceFault.{SliceFault}

-- slice p served core c's message m with the result r, and was left as q
pub record IsServed (p : SliceParts) (c : ℕ) (m : Message) (r : Result Reply SliceFault) (q : SliceParts) : Type 0 where
  -- the manager's table allows the reply, its entries and what is left
  pub table : IfOk r (λ reply. IsHandled p c m reply q)
  -- the order of service decides which of them it is, and which refusal
  pub outcome : OutcomeLeads (handle_outcome p c m) r p q

-- some slice served it so, from a state that is the replay of its history by its own configuration
pub record IsServedBySome (c : ℕ) (m : Message) (r : Result Reply SliceFault) : Type 0 where
  pub slice : SliceParts
  pub replays : Replays slice
  pub left : SliceParts
  pub served : IsServed slice c m r left

-- the slice of an address
abbrev pub slice_number : ConfigParts → ℕ → ℕ
slice_number g a = a % g.slices

-- slice n of these served it so, and the others stayed as they were
pub record IsServedAt (n : ℕ) (before : List SliceParts) (c : ℕ) (m : Message) (r : Result Reply SliceFault) (after : List SliceParts) : Type 0 where
  pub slice : SliceParts
  pub there : slice_get before n ≡ Some slice
  pub left : SliceParts
  pub served : IsServed slice c m r left
  pub others : after ≡ slice_set before n left
