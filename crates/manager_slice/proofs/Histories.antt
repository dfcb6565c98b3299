-- Histories that grow, and what the table keeps along them.
use Rattle.std.proofs.Common.{◌≡◌, ◌≢◌, ℕ, ◌+◌, ◌-◌, ◌<◌, ◌≤◌, Bool, true, false, cond, List, [], ◌∷◌, ◌++◌, nat_eq, refl, subst, ◌⊎◌, inl, inr, arith}
use Rattle.std.specs.Prelude.{Option, Some, None}
use Rattle.std.specs.Cmp.{nat_cmp_total}
use Rattle.std.specs.FinMap as map
use Rattle.std.specs.FinMap.{len-insert, len-remove}
use Rattle.std.specs.List.{IsDistinct}
use Rattle.std.specs.Map.{keys_of}
use Rattle.line_stamps.specs.declared.line.Line.{Line}
use Rattle.line_stamps.specs.declared.message.Message.{Message}
use Rattle.line_stamps.specs.declared.message.Reply.{Reply}
use Rattle.lease_rule.specs.ConfigParts.{ConfigParts}
use Rattle.manager_slice.proofs.Entries.{distinct-front, distinct-removed}
use Rattle.manager_slice.specs.Changes.{after_eviction, served}
use Rattle.manager_slice.specs.Leads.{Leads}
use Rattle.manager_slice.specs.Replay.{SliceStep, SliceLeads}
use Rattle.manager_slice.specs.Messages.{is_busy_reply}
use Rattle.manager_slice.specs.Table.{Slice, is_copy, share_reply, own_reply, leased, evicts, Serves, takes_written_back, takes_flushed, shares, gives, Handles, serves, makes_room, is_busy}
use Rattle.manager_slice.specs.declared.managed.HistoryEntry.{HistoryEntry}
use Rattle.manager_slice.specs.declared.managed.HistoryEntry.TheVariants.{Evicted, Served}
use Rattle.manager_slice.specs.declared.managed.ManagedLine.{ManagedLine}
use Rattle.manager_slice.specs.declared.state.SliceState.{SliceState}

-- what handles a message leads by its entries
pub leads_by_handling : (g : ConfigParts) (s : Slice) (c : ℕ) (m : Message) (r : Reply) (es : List HistoryEntry) (t : Slice) → Handles g s c m r es t → SliceLeads g s es t
leads_by_handling g s c m r es t (serves r' t' step) = (t', step, refl)
leads_by_handling g s c m r es t (makes_room a r' between t' absent full out step) = (between, out, (t', step, refl))
leads_by_handling g s c m r es t (is_busy x busy) = refl

-- ---- Busy is never a reply of a service
shared_reply : (b : Bool) (copy : Option ℕ) (l : Line) → is_copy copy l ≡ b → is_busy_reply (share_reply copy l) ≡ false
shared_reply true copy l e = rw e refl
shared_reply false copy l e = rw e refl

owned_reply : (b : Bool) (copy : Option ℕ) (l : Line) → is_copy copy l ≡ b → is_busy_reply (own_reply copy l) ≡ false
owned_reply true copy l e = rw e refl
owned_reply false copy l e = rw e refl

served_not_busy : (g : ConfigParts) (s : Slice) (c : ℕ) (m : Message) (r : Reply) (t : Slice) → Serves g s c m r t → is_busy_reply r ≡ false
served_not_busy g s c m r t (takes_written_back a l own) = refl
served_not_busy g s c m r t (takes_flushed a l own) = refl
served_not_busy g s c m r t (shares a copy pts l met room) = shared_reply _ copy (leased l pts g) refl
served_not_busy g s c m r t (gives a copy l met room) = owned_reply _ copy l refl

pub handled_not_busy : (g : ConfigParts) (s : Slice) (c : ℕ) (m : Message) (r : Reply) (es : List HistoryEntry) (t : Slice) → Handles g s c m r es t → es ≢ [] → is_busy_reply r ≡ false
handled_not_busy g s c m r es t (serves r' t' step) some = served_not_busy g s c m r t step
handled_not_busy g s c m r es t (makes_room a r' between t' absent full out step) some = served_not_busy g between c m r t step
handled_not_busy g s c m r es t (is_busy x busy) some = absurd (some refl)

-- ---- a slice never has more lines than fit
grown : (b : Bool) (n k : ℕ) → (b ≡ true) ⊎ (n < k) → n ≤ k → cond b n (n + 1) ≤ k
grown true n k h f = f
grown false n k (inl there) f = absurd cc
grown false n k (inr lt) f = omega arith

shrunk : (b : Bool) (n k : ℕ) → n ≤ k → cond b (n - 1) n ≤ k
shrunk true n k f = omega arith
shrunk false n k f = f

module _ (g : ConfigParts) where
  served_fits : (s : Slice) (c : ℕ) (m : Message) (r : Reply) (t : Slice) → Serves g s c m r t → map.len s.lines ≤ g.slice_lines → map.len t.lines ≤ g.slice_lines
  served_fits s c m r t (takes_written_back a l own) f = rw (len-insert nat_cmp_total s.lines a _) (grown _ (map.len s.lines) g.slice_lines (inl (rw own refl)) f)
  served_fits s c m r t (takes_flushed a l own) f = rw (len-insert nat_cmp_total s.lines a _) (grown _ (map.len s.lines) g.slice_lines (inl (rw own refl)) f)
  served_fits s c m r t (shares a copy pts l met room) f = rw (len-insert nat_cmp_total s.lines a _) (grown _ (map.len s.lines) g.slice_lines room f)
  served_fits s c m r t (gives a copy l met room) f = rw (len-insert nat_cmp_total s.lines a _) (grown _ (map.len s.lines) g.slice_lines room f)

  step_fits : (s : Slice) (e : HistoryEntry) (t : Slice) → SliceStep g s e t → map.len s.lines ≤ g.slice_lines → map.len t.lines ≤ g.slice_lines
  step_fits s (Evicted a) t (evicts l at) f = rw (len-remove nat_cmp_total s.lines a) (shrunk _ (map.len s.lines) g.slice_lines f)
  step_fits s (Served c m r) t step f = served_fits s c m r t step f

  pub leads_fits : (s : Slice) (es : List HistoryEntry) (t : Slice) → SliceLeads g s es t → map.len s.lines ≤ g.slice_lines → map.len t.lines ≤ g.slice_lines
  leads_fits s [] t h f = rw h f
  leads_fits s (e ∷ es) t h f = leads_fits h.0 es t h.2 (step_fits s e h.0 h.1 f)

-- no address gets two lines
pub distinct-served : (s : SliceState) (evicted : Option (ℕ × Line)) (a : ℕ) (x : ManagedLine) → IsDistinct nat_eq (keys_of s.lines) → IsDistinct nat_eq (keys_of (served (after_eviction evicted s) a x).lines)
distinct-served s None a x d = distinct-front a s.lines x d
distinct-served s (Some e) a x d = distinct-front a _ x (distinct-removed e.0 s.lines d)
