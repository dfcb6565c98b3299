-- What a call of a slice comes to.
use Rattle.std.specs.Prelude.{◌≡◌, ℕ, ◌+◌, Bool, true, false, if◌then◌else◌, nat_le, nat_eq, List, [], ◌∷◌, ◌++◌, length, Option, Some, None, Result, Ok, Err, MatchResult}
use Rattle.std.specs.Map.{lookup}
use Rattle.line_stamps.specs.declared.message.Message.{Message}
use Rattle.line_stamps.specs.declared.message.Reply.{Reply}
use Rattle.line_stamps.specs.declared.message.Reply.TheVariants.{Busy}
use Rattle.manager_slice.specs.Limits.{entry_limit}
use Rattle.manager_slice.specs.Changes.{after_eviction, entries_of, served, slice_of, spilled}
use Rattle.line_stamps.specs.Messages.{addr_of}
use Rattle.manager_slice.specs.Parts.{SliceParts}
use Rattle.manager_slice.specs.Rows.{row_of}
use Rattle.manager_slice.specs.Table.{Evicts, Handles}
use Rattle.manager_slice.specs.declared.fault.SliceFault.{SliceFault}
use Rattle.manager_slice.specs.declared.fault.SliceFault.TheVariants.{HistoryFull, OutOfMemory}
use Rattle.manager_slice.specs.declared.managed.HistoryEntry.{HistoryEntry}
use Rattle.manager_slice.specs.declared.managed.HistoryEntry.TheVariants.{Evicted}
use Rattle.manager_slice.specs.declared.managed.ManagedLine.{ManagedLine}
use Rattle.manager_slice.specs.declared.managed.ManagedLine.TheVariants.{Shared, Exclusive}
use Rattle.manager_slice.specs.declared.row.Row.{Row}
use Rattle.manager_slice.specs.declared.row.Row.TheVariants.{Recalled, Answered}
use Rattle.manager_slice.specs.declared.state.SliceState.{SliceState}

pub data Outcome (A : Type 0) : Type 0 where
  -- a refusal that is due
  Refuses : SliceFault → Outcome A
  -- an answer that changes nothing and takes no memory
  Answers : A → Outcome A
  -- an answer that appends these entries to the history and leaves this state
  Steps : A → List HistoryEntry → SliceState → Outcome A

-- the call, with this result, led from p to q as the outcome says; a step may be refused only for lack of memory
abbrev pub OutcomeLeads : {A : Type 0} → Outcome A → Result A SliceFault → SliceParts → SliceParts → Type 0
OutcomeLeads (Refuses fault) r p q = (r ≡ Err fault) × (q ≡ p)
OutcomeLeads (Answers x) r p q = (r ≡ Ok x) × (q ≡ p)
OutcomeLeads (Steps x es s) r p q =
    MatchResult r (λ y. (y ≡ x) × (q ≡ record p { state = s; history = p.history ++ es })) (λ fault. (fault ≡ OutOfMemory) × (q ≡ p))

-- a step if its entries fit into the history, or else a refusal
abbrev pub step_of : {A : Type 0} → SliceParts → A → List HistoryEntry → SliceState → Outcome A
step_of p x es s = if nat_le (length p.history + length es) entry_limit then Steps x es s else Refuses HistoryFull

abbrev pub row_outcome : SliceParts → ℕ → Message → Result Row SliceFault → Outcome Reply
row_outcome p c m (Err fault) = Refuses fault
row_outcome p c m (Ok (Recalled x)) = Answers (Busy x)
row_outcome p c m (Ok (Answered evicted r x)) =
    step_of p r (entries_of evicted c m r) (served (after_eviction evicted p.state) (addr_of m) x)

-- core c's message is handled
abbrev pub handle_outcome : SliceParts → ℕ → Message → Outcome Reply
handle_outcome p c m = row_outcome p c m (row_of p.config p.state c m)

abbrev pub line_outcome : SliceParts → ℕ → Option ManagedLine → Outcome Bool
line_outcome p a None = Answers false
line_outcome p a (Some (Exclusive owner)) = Answers false
line_outcome p a (Some (Shared l)) = step_of p true (Evicted a ∷ []) (spilled p.state a l)

-- the line of address a is evicted
abbrev pub evict_outcome : SliceParts → ℕ → Outcome Bool
evict_outcome p a = line_outcome p a (lookup (nat_eq a) p.state.lines)

-- the table allows this reply to core c's message, the entries that were appended, and what is left
pub record IsHandled (p : SliceParts) (c : ℕ) (m : Message) (r : Reply) (q : SliceParts) : Type 0 where
  pub number : q.number ≡ p.number
  pub config : q.config ≡ p.config
  pub entries : List HistoryEntry
  pub history : q.history ≡ p.history ++ entries
  pub handles : Handles p.config (slice_of p.state) c m r entries (slice_of q.state)

-- the Shared line of address a went to memory
pub record IsEvicted (p : SliceParts) (a : ℕ) (q : SliceParts) : Type 0 where
  pub number : q.number ≡ p.number
  pub config : q.config ≡ p.config
  pub history : q.history ≡ p.history ++ Evicted a ∷ []
  pub evicts : Evicts (slice_of p.state) a (slice_of q.state)
