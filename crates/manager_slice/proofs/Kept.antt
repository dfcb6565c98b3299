-- What a slice keeps while it handles messages.
use Rattle.std.proofs.Common.{◌≡◌, ◌≢◌, ◌↔◌, ℕ, ◌+◌, ◌≤◌, Bool, true, false, nat_le, cond, [], ◌∷◌, ◌++◌, length, nat_eq, refl, sym, ap, ◌∙◌, append-nil, length-append, arith}
use Rattle.manager_slice.specs.Limits.{entry_limit}
use Rattle.std.specs.Prelude.{Option, Some, None, Result, Ok, Err, IfSome, is_some}
use Rattle.std.specs.FinMap as map
use Rattle.std.specs.FinMap.{len-empty}
use Rattle.std.specs.Map.{lookup}
use Rattle.std.specs.Ordering.{nat_cmp}
use Rattle.line_stamps.specs.RecallParts.{RecallParts}
use Rattle.line_stamps.specs.declared.line.Line.{Line}
use Rattle.line_stamps.specs.declared.message.Message.{Message}
use Rattle.line_stamps.specs.declared.message.Reply.{Reply}
use Rattle.line_stamps.specs.declared.message.Reply.TheVariants.{Busy}
use Rattle.memory_stamp.proofs.Maps.{get-lookup}
use Rattle.manager_slice.proofs.Entries.{distinct-removed, len-from_entries}
use Rattle.manager_slice.proofs.Leads.{Leads-append, Leads-push}
use Rattle.manager_slice.proofs.Histories.{leads_by_handling, leads_fits, distinct-served, handled_not_busy}
use Rattle.manager_slice.proofs.RowTable.{RowHolds, row_holds, slice_of-spilled}
use Rattle.manager_slice.specs.Changes.{slice_of, after_eviction, served, spilled, entries_of}
use Rattle.line_stamps.specs.Messages.{addr_of}
use Rattle.manager_slice.specs.Messages.{is_busy_reply}
use Rattle.manager_slice.specs.Outcome.{Refuses, Answers, Steps, OutcomeLeads, handle_outcome, row_outcome, IsEvicted, IsHandled}
use Rattle.manager_slice.specs.Parts.{SliceParts}
use Rattle.manager_slice.specs.Replay.{SliceStep, IsKept}
use Rattle.manager_slice.specs.Rows.{row_of}
use Rattle.manager_slice.specs.Table.{opening, Evicts, evicts, is_busy}
use Rattle.manager_slice.specs.declared.managed.HistoryEntry.TheVariants.{Evicted}
use Rattle.manager_slice.specs.declared.managed.ManagedLine.{ManagedLine}
use Rattle.manager_slice.specs.declared.managed.ManagedLine.TheVariants.{Shared}
use Rattle.manager_slice.specs.declared.fault.SliceFault.{SliceFault}
use Rattle.manager_slice.specs.declared.fault.SliceFault.TheVariants.{HistoryFull}
use Rattle.manager_slice.specs.declared.state.SliceState.{SliceState}
use Rattle.manager_slice.specs.declared.row.Row.{Row}
use Rattle.manager_slice.specs.declared.row.Row.TheVariants.{Recalled, Answered}

module _ (p : SliceParts) (kept : IsKept p) where
  -- no more lines than fit
  fits : length p.state.lines ≤ p.config.slice_lines
  fits =
      let none : map.len opening.lines ≤ p.config.slice_lines = rw (len-empty nat_cmp ManagedLine) (omega arith) in
      let some = leads_fits p.config opening p.history (slice_of p.state) kept.replay none in
      rw (len-from_entries p.state.lines kept.distinct) at some

  module _ (c : ℕ) (m : Message) where
    row_kept : (row : Row) → row_of p.config p.state c m ≡ Ok row → RowHolds p.config p.state c kept.distinct kept.room fits m row
    row_kept row h = row_holds p.config p.state c kept.distinct kept.room fits m row h

    -- Busy is of the table
    pub handled_busy : (x : RecallParts) → row_of p.config p.state c m ≡ Ok (Recalled x) → IsHandled p c m (Busy x) p
    handled_busy x h = record { number = refl; config = refl; entries = []; history = sym (append-nil p.history); handles = is_busy x (row_kept (Recalled x) h) }

    module _ (evicted : Option (ℕ × Line)) (r : Reply) (x : ManagedLine) (h : row_of p.config p.state c m ≡ Ok (Answered evicted r x)) where
      abbrev pub after : SliceParts
      after = record p { state = served (after_eviction evicted p.state) (addr_of m) x; history = p.history ++ entries_of evicted c m r }

      pub evicts_another : IfSome evicted (λ e. (lookup (nat_eq (addr_of m)) p.state.lines ≡ None) × (lookup (nat_eq e.0) p.state.lines ≡ Some (Shared e.1)))
      evicts_another = (row_kept (Answered evicted r x) h).1

      -- so is an answer
      pub handled_answer : IsHandled p c m r after
      handled_answer = record { number = refl; config = refl; entries = entries_of evicted c m r; history = refl; handles = (row_kept (Answered evicted r x) h).0 }

      -- and the slice is kept
      pub kept_answer : length p.history + length (entries_of evicted c m r) ≤ entry_limit → IsKept after
      kept_answer few =
          let on = leads_by_handling p.config (slice_of p.state) c m r (entries_of evicted c m r) (slice_of after.state) (row_kept (Answered evicted r x) h).0 in
          record {
            replay = Leads-append (SliceStep p.config) opening p.history (entries_of evicted c m r) (slice_of p.state) (slice_of after.state) kept.replay on;
            distinct = distinct-served p.state evicted (addr_of m) x kept.distinct;
            short = rw length-append few;
            room = kept.room;
          }

    some_entries : (evicted : Option (ℕ × Line)) (r : Reply) → entries_of evicted c m r ≢ []
    some_entries None r e = cc
    some_entries (Some e) r h = cc

    -- Busy is answered just where the outcome is Busy
    module _ (q : SliceParts) (result : Result Reply SliceFault) (met : OutcomeLeads (handle_outcome p c m) result p q) (x : RecallParts) where
      busy_met : handle_outcome p c m ≡ Answers (Busy x) → result ≡ Ok (Busy x)
      busy_met e = (rw e at met).0

      busy_due : result ≡ Ok (Busy x) → handle_outcome p c m ≡ Answers (Busy x)
      busy_due e = go (row_of p.config p.state c m) refl (rw e at met)
        where
          go : (o : Result Row SliceFault) → row_of p.config p.state c m ≡ o → OutcomeLeads (row_outcome p c m o) (Ok (Busy x)) p q → row_outcome p c m o ≡ Answers (Busy x)
          go (Err fault) i k = let bad = k.0 in absurd cc
          go (Ok (Recalled y)) i k = let same : Busy y ≡ Busy x = cc (k.0) in ap (λ (r : Reply). Answers r) same
          go (Ok (Answered evicted r line)) i k = stepped (nat_le (length p.history + length (entries_of evicted c m r)) entry_limit) k
            where
              not_busy : is_busy_reply r ≡ false
              not_busy = handled_not_busy p.config (slice_of p.state) c m r (entries_of evicted c m r) _ (row_kept (Answered evicted r line) i).0 (some_entries evicted r)

              after : SliceState
              after = served (after_eviction evicted p.state) (addr_of m) line

              stepped : (b : Bool) → OutcomeLeads (cond b (Steps r (entries_of evicted c m r) after) (Refuses HistoryFull)) (Ok (Busy x)) p q → cond b (Steps r (entries_of evicted c m r) after) (Refuses HistoryFull) ≡ Answers (Busy x)
              stepped true z = let same : Busy x ≡ r = z.0 in let bad = rw (← same) at not_busy in absurd cc
              stepped false z = let bad = z.0 in absurd cc

      pub busy_exactly : (result ≡ Ok (Busy x)) ↔ (handle_outcome p c m ≡ Answers (Busy x))
      busy_exactly = (busy_due, busy_met)

  module _ (a : ℕ) (l : Line) (h : lookup (nat_eq a) p.state.lines ≡ Some (Shared l)) where
    abbrev pub after_spill : SliceParts
    after_spill = record p { state = spilled p.state a l; history = p.history ++ Evicted a ∷ [] }

    goes : Evicts (slice_of p.state) a (slice_of after_spill.state)
    goes = rw (slice_of-spilled p.state a l kept.distinct) (evicts l (get-lookup p.state.lines a ∙ h))

    -- an eviction is of the table
    pub evicted_spill : IsEvicted p a after_spill
    evicted_spill = record { number = refl; config = refl; history = refl; evicts = goes }

    pub kept_spill : length p.history + 1 ≤ entry_limit → IsKept after_spill
    kept_spill few = record {
      replay = Leads-push (SliceStep p.config) opening p.history (slice_of p.state) (Evicted a) (slice_of after_spill.state) kept.replay goes;
      distinct = distinct-removed a p.state.lines kept.distinct;
      short = rw length-append few;
      room = kept.room;
    }

-- how many entries a message has that is answered
pub length-entries_of : (evicted : Option (ℕ × Line)) (c : ℕ) (m : Message) (r : Reply) → length (entries_of evicted c m r) ≡ cond (is_some evicted) 2 1
length-entries_of None c m r = refl
length-entries_of (Some e) c m r = refl
