-- What a slice refuses with 11.
use Rattle.std.proofs.Common.{◌≡◌, ◌≢◌, ◌+◌, ℕ, List, length, Bool, true, false, refl, inl, inr, ap}
use Rattle.std.specs.Prelude.{◌↔◌, Option, Some, None, Result, Ok, Err, ◌==◌, if◌then◌else◌, nat_eq, nat_le}
use Rattle.std.specs.Map.{lookup}
use Rattle.std.proofs.lemmas.Bool.{eq-eqb}
use Rattle.std.proofs.lemmas.Bool.Decides.{eqb_tells}
use Rattle.line_stamps.specs.declared.line.Line.{Line}
use Rattle.line_stamps.specs.declared.message.Message.{Message}
use Rattle.line_stamps.specs.declared.message.Message.TheVariants.{ShReq, ExReq, WbRep, FlushRep}
use Rattle.line_stamps.specs.Messages.{addr_of}
use Rattle.lease_rule.specs.ConfigParts.{ConfigParts}
use Rattle.manager_slice.specs.Messages.{is_request}
use Rattle.manager_slice.specs.Outcome.{Outcome, Refuses, Steps, step_of, row_outcome, handle_outcome}
use Rattle.manager_slice.specs.Parts.{SliceParts}
use Rattle.manager_slice.specs.Rows.{within_limit, give_back_row, recall_row, answer_row, absent_row, request_row, makes_way}
use Rattle.manager_slice.specs.declared.fault.SliceFault.{SliceFault}
use Rattle.manager_slice.specs.declared.fault.SliceFault.TheVariants.{NotOwner, StampLimit, HistoryFull}
use Rattle.manager_slice.specs.declared.managed.HistoryEntry.{HistoryEntry}
use Rattle.manager_slice.specs.declared.managed.ManagedLine.{ManagedLine}
use Rattle.manager_slice.specs.declared.managed.ManagedLine.TheVariants.{Shared, Exclusive}
use Rattle.manager_slice.specs.declared.row.Access.{Access}
use Rattle.manager_slice.specs.declared.row.Access.TheVariants.{Read, Write}
use Rattle.manager_slice.specs.declared.row.Request.{Request}
use Rattle.manager_slice.specs.declared.row.Row.{Row}
use Rattle.manager_slice.specs.declared.row.Row.TheVariants.{Recalled, Answered}
use Rattle.manager_slice.specs.declared.state.SliceState.{SliceState}

pub step_passes : {A : Type 0} (p : SliceParts) (x : A) (es : List HistoryEntry) (s : SliceState) → step_of p x es s ≡ Refuses NotOwner → ⊥
step_passes {A} p x es s h = go (nat_le (length p.history + length es) 1048576) h
  where
    go : (b : Bool) → ◌≡◌ {A = Outcome A} (if b then Steps x es s else Refuses HistoryFull) (Refuses NotOwner) → ⊥
    go true h = cc
    go false h = cc

-- the row is what refuses
row_refuses : (p : SliceParts) (c : ℕ) (m : Message) (r : Result Row SliceFault) → row_outcome p c m r ≡ Refuses NotOwner → r ≡ Err NotOwner
row_refuses p c m (Err f) h = cc
row_refuses p c m (Ok (Recalled x)) h = absurd cc
row_refuses p c m (Ok (Answered evicted r x)) h = absurd (step_passes p r _ _ h)

-- ---- requests

limited : (t : ℕ) (row : Row) → within_limit t row ≡ Err NotOwner → ⊥
limited t row h = go (nat_le t 281474976710656) h
  where
    go : (b : Bool) → (if b then Ok row else Err StampLimit) ≡ Err NotOwner → ⊥
    go true h = cc
    go false h = cc

recall_passes : (g : ConfigParts) (a : ℕ) (access : Access) (o : ℕ) → recall_row g a access o ≡ Err NotOwner → ⊥
recall_passes g a (Read pts) o h = limited _ _ h
recall_passes g a Write o h = cc

answer_passes : (g : ConfigParts) (q : Request) (evicted : Option (ℕ × Line)) (access : Access) (l : Line) → answer_row g q evicted access l ≡ Err NotOwner → ⊥
answer_passes g q evicted (Read pts) l h = limited _ _ h
answer_passes g q evicted Write l h = cc

absent_passes : (g : ConfigParts) (s : SliceState) (q : Request) (o : Option (ℕ × ManagedLine)) → absent_row g s q o ≡ Err NotOwner → ⊥
absent_passes g s q None h = answer_passes g q None q.access _ h
absent_passes g s q (Some (b, Shared k)) h = answer_passes g q (Some (b, k)) q.access _ h
absent_passes g s q (Some (b, Exclusive o)) h = cc

request_passes : (g : ConfigParts) (s : SliceState) (q : Request) (o : Option ManagedLine) → request_row g s q o ≡ Err NotOwner → ⊥
request_passes g s q (Some (Exclusive o)) h = recall_passes g q.addr q.access o h
request_passes g s q (Some (Shared l)) h = answer_passes g q None q.access l h
request_passes g s q None h = absent_passes g s q (makes_way g s) h

-- ---- lines that are given back

gives_from : (c : ℕ) (l : Line) (o : Option ManagedLine) → give_back_row c l o ≡ Err NotOwner → o ≢ Some (Exclusive c)
gives_from c l None h e = cc
gives_from c l (Some (Shared k)) h e = cc
gives_from c l (Some (Exclusive o)) h e =
    let same : o ≡ c = cc in
    let owner : (o == c) ≡ true = eq-eqb o c same in
    let row : Ok (Answered None _ (Shared l)) ≡ Err NotOwner = rw owner at h in
    cc

gives_to : (c : ℕ) (l : Line) (o : Option ManagedLine) → o ≢ Some (Exclusive c) → give_back_row c l o ≡ Err NotOwner
gives_to c l None n = refl
gives_to c l (Some (Shared k)) n = refl
gives_to c l (Some (Exclusive o)) n = elim (eqb_tells o c) [
  | inl same ↦ absurd (n (ap (λ z. Some (Exclusive z)) same.1))
  | inr other ↦ rw other.0 refl
]

pub only_owners : (p : SliceParts) (c : ℕ) (m : Message) → (handle_outcome p c m ≡ Refuses NotOwner) ↔ ((is_request m ≡ false) × (lookup (nat_eq (addr_of m)) p.state.lines ≢ Some (Exclusive c)))
only_owners p c (ShReq a copy pts) = (λ h. absurd (request_passes p.config p.state (record { from = c; addr = a; copy = copy; access = Read pts }) (lookup (nat_eq a) p.state.lines) (row_refuses p c _ _ h)), λ h. absurd (let e = h.0 in cc))
only_owners p c (ExReq a copy) = (λ h. absurd (request_passes p.config p.state (record { from = c; addr = a; copy = copy; access = Write }) (lookup (nat_eq a) p.state.lines) (row_refuses p c _ _ h)), λ h. absurd (let e = h.0 in cc))
only_owners p c (WbRep a l) = (λ h. (refl, gives_from c l _ (row_refuses p c (WbRep a l) _ h)), λ h. ap (row_outcome p c (WbRep a l)) (gives_to c l _ h.1))
only_owners p c (FlushRep a l) = (λ h. (refl, gives_from c l _ (row_refuses p c (FlushRep a l) _ h)), λ h. ap (row_outcome p c (FlushRep a l)) (gives_to c l _ h.1))
