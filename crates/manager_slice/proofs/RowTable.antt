-- The row that a message meets is a row of the table.
use Rattle.std.proofs.Common.{◌≡◌, ℕ, ◌-◌, ◌<◌, ◌≤◌, Bool, true, false, cond, length, nat_eq, nat_lt, refl, sym, ap, subst, ◌∙◌, inl, inr, arith}
use Rattle.std.specs.Prelude.{Option, Some, None, Ok, Err, IfSome}
use Rattle.std.proofs.lemmas.Bool.{eqb-true}
use Rattle.std.proofs.lemmas.Bool.Decides.{nat_tests}
use Rattle.std.specs.Cmp.{nat_cmp_total}
use Rattle.std.specs.FinMap as map
use Rattle.std.specs.FinMap.{get-remove, len-remove}
use Rattle.std.specs.List.{IsDistinct}
use Rattle.std.specs.Map.{lookup, keys_of}
use Rattle.std.specs.Ordering.{eq_by_cmp, nat_cmp}
use Rattle.line_stamps.specs.declared.line.Line.{Line}
use Rattle.line_stamps.specs.declared.message.Message.{Message}
use Rattle.line_stamps.specs.declared.message.Message.TheVariants.{ShReq, ExReq, WbRep, FlushRep}
use Rattle.line_stamps.specs.declared.message.RecallKind.TheVariants.{Flush}
use Rattle.line_stamps.specs.declared.message.Reply.{Reply}
use Rattle.line_stamps.specs.declared.message.Reply.TheVariants.{Taken}
use Rattle.lease_rule.specs.ConfigParts.{ConfigParts}
use Rattle.memory_stamp.specs.Memory.{filled_line, with_line}
use Rattle.memory_stamp.proofs.Maps.{get-lookup}
use Rattle.manager_slice.proofs.Entries.{from_entries-front, from_entries-removed, len-from_entries}
use Rattle.manager_slice.proofs.Giving.{lookup-giving_way, none_shared, no_lines}
use Rattle.manager_slice.specs.Changes.{slice_of, spilled, after_eviction, served, entries_of}
use Rattle.manager_slice.specs.Lines.{giving_way}
use Rattle.line_stamps.specs.Messages.{addr_of}
use Rattle.manager_slice.specs.Messages.{is_request}
use Rattle.manager_slice.specs.Rows.{row_of, give_back_row, request_row, absent_row, recall_row, answer_row, makes_way}
use Rattle.manager_slice.specs.Table.{Slice, met_line, with_managed, without_line, HasRoom, IsFull, evicts, Serves, takes_written_back, takes_flushed, shares, gives, IsBusy, owned_to_read, owned_to_write, full, Handles, serves, makes_room}
use Rattle.manager_slice.specs.declared.managed.ManagedLine.{ManagedLine}
use Rattle.manager_slice.specs.declared.managed.ManagedLine.TheVariants.{Shared, Exclusive}
use Rattle.manager_slice.specs.declared.row.Access.{Access}
use Rattle.manager_slice.specs.declared.row.Access.TheVariants.{Read, Write}
use Rattle.manager_slice.specs.declared.row.Request.{Request}
use Rattle.manager_slice.specs.declared.row.Row.{Row}
use Rattle.manager_slice.specs.declared.row.Row.TheVariants.{Recalled, Answered}
use Rattle.manager_slice.specs.declared.state.SliceState.{SliceState}

-- the message of a request
abbrev request_of : ℕ → Option ℕ → Access → Message
request_of a copy (Read pts) = ShReq a copy pts
request_of a copy Write = ExReq a copy

abbrev asks : ℕ → ℕ → Option ℕ → Access → Request
asks c a copy access = record { from = c; addr = a; copy = copy; access = access }

row_is : {E : Type 0} (b : Bool) (x y : Row) (e : E) → cond b (Ok x) (Err e) ≡ Ok y → x ≡ y
row_is true x y e h = cc
row_is false x y e h = absurd cc

chosen : {E : Type 0} (b : Bool) (x y : Row) (e : E) → cond b (Ok x) (Err e) ≡ Ok y → b ≡ true
chosen true x y e h = refl
chosen false x y e h = absurd cc

-- a service in the order of service is one of the table
slice_of-served : (s : SliceState) (a : ℕ) (x : ManagedLine) → slice_of (served s a x) ≡ with_managed (slice_of s) a x
slice_of-served s a x = ap (λ lines. record { lines = lines; memory = s.memory }) (from_entries-front a s.lines x)

-- and so is an eviction
pub slice_of-spilled : (s : SliceState) (a : ℕ) (l : Line) → IsDistinct nat_eq (keys_of s.lines) → slice_of (spilled s a l) ≡ without_line (slice_of s) a l
slice_of-spilled s a l d = ap (λ lines. record { lines = lines; memory = with_line s.memory a l }) (from_entries-removed a s.lines d)

-- what a request is answered that meets a Shared line
record IsAnswer (g : ConfigParts) (u : Slice) (c a : ℕ) (copy : Option ℕ) (access : Access) (evicted : Option (ℕ × Line)) (row : Row) : Type 0 where
  reply : Reply
  line : ManagedLine
  is : row ≡ Answered evicted reply line
  table : Serves g u c (request_of a copy access) reply (with_managed u a line)

module _ (g : ConfigParts) (u : Slice) (c a : ℕ) (copy : Option ℕ) (evicted : Option (ℕ × Line)) (l : Line) (met : met_line u a ≡ Shared l) (room : HasRoom g u a) where
  answer_holds : (access : Access) (row : Row) → answer_row g (asks c a copy access) evicted access l ≡ Ok row → IsAnswer g u c a copy access evicted row
  answer_holds (Read pts) row h = record { reply = _; line = _; is = sym (row_is _ _ row _ h); table = shares a copy pts l met room }
  answer_holds Write row h = record { reply = _; line = _; is = cc; table = gives a copy l met room }

module _ (g : ConfigParts) (s : SliceState) (c : ℕ) (distinct : IsDistinct nat_eq (keys_of s.lines)) (one : 1 ≤ g.slice_lines) (fits : length s.lines ≤ g.slice_lines) where
  -- the row is of the table, and where a line is evicted, it is there and the message's isn't
  abbrev pub RowHolds : Message → Row → Type 0
  RowHolds m (Recalled x) = IsBusy g (slice_of s) m x
  RowHolds m (Answered evicted r x) =
      Handles g (slice_of s) c m r (entries_of evicted c m r) (slice_of (served (after_eviction evicted s) (addr_of m) x))
      × IfSome evicted (λ e. (lookup (nat_eq (addr_of m)) s.lines ≡ None) × (lookup (nat_eq e.0) s.lines ≡ Some (Shared e.1)))

  at : (a : ℕ) (o : Option ManagedLine) → lookup (nat_eq a) s.lines ≡ o → map.get (slice_of s).lines a ≡ o
  at a o h = get-lookup s.lines a ∙ h

  -- a service with no eviction
  served_at : (m : Message) (r : Reply) (x : ManagedLine) → Serves g (slice_of s) c m r (with_managed (slice_of s) (addr_of m) x) → RowHolds m (Answered None r x)
  served_at m r x t = (rw (slice_of-served s (addr_of m) x) (serves r (with_managed (slice_of s) (addr_of m) x) t), tt)

  written_back : (a : ℕ) (l : Line) (row : Row) → give_back_row c l (lookup (nat_eq a) s.lines) ≡ Ok row → RowHolds (WbRep a l) row
  written_back a l row h = go (lookup (nat_eq a) s.lines) refl h
    where
      go : (o : Option ManagedLine) → lookup (nat_eq a) s.lines ≡ o → give_back_row c l o ≡ Ok row → RowHolds (WbRep a l) row
      go None i e = absurd cc
      go (Some (Shared k)) i e = absurd cc
      go (Some (Exclusive o)) i e =
          let owner : o ≡ c = eqb-true o c (chosen _ _ row _ e) in
          subst (RowHolds (WbRep a l)) (row_is _ _ row _ e) (served_at (WbRep a l) Taken (Shared l) (takes_written_back a l (at a _ (rw owner at i))))

  flushed : (a : ℕ) (l : Line) (row : Row) → give_back_row c l (lookup (nat_eq a) s.lines) ≡ Ok row → RowHolds (FlushRep a l) row
  flushed a l row h = go (lookup (nat_eq a) s.lines) refl h
    where
      go : (o : Option ManagedLine) → lookup (nat_eq a) s.lines ≡ o → give_back_row c l o ≡ Ok row → RowHolds (FlushRep a l) row
      go None i e = absurd cc
      go (Some (Shared k)) i e = absurd cc
      go (Some (Exclusive o)) i e =
          let owner : o ≡ c = eqb-true o c (chosen _ _ row _ e) in
          subst (RowHolds (FlushRep a l)) (row_is _ _ row _ e) (served_at (FlushRep a l) Taken (Shared l) (takes_flushed a l (at a _ (rw owner at i))))

  module _ (a : ℕ) (copy : Option ℕ) where
    -- the line is another's
    owned : (access : Access) (o : ℕ) (row : Row) → lookup (nat_eq a) s.lines ≡ Some (Exclusive o) → recall_row g a access o ≡ Ok row → RowHolds (request_of a copy access) row
    owned (Read pts) o row i e = subst (RowHolds (ShReq a copy pts)) (row_is _ _ row _ e) (owned_to_read a copy pts o (at a _ i))
    owned Write o row i e =
        let is : Recalled (record { rts = 0; addr = a; owner = o; kind = Flush }) ≡ row = cc in
        subst (RowHolds (ExReq a copy)) is (owned_to_write a copy o (at a _ i))

    -- the address of a request
    address : (access : Access) → addr_of (request_of a copy access) ≡ a
    address (Read pts) = refl
    address Write = refl

    asked : (access : Access) → is_request (request_of a copy access) ≡ true
    asked (Read pts) = refl
    asked Write = refl

    -- the line is there, or is filled with room for it
    answered : (access : Access) (l : Line) (row : Row) → met_line (slice_of s) a ≡ Shared l → HasRoom g (slice_of s) a → answer_row g (asks c a copy access) None access l ≡ Ok row → RowHolds (request_of a copy access) row
    answered access l row met room e =
        let z = answer_holds g (slice_of s) c a copy None l met room access row e in
        let m = request_of a copy access in
        let there : Serves g (slice_of s) c m z.reply (with_managed (slice_of s) (addr_of m) z.line) = rw (address access) z.table in
        subst (RowHolds m) (sym z.is) (served_at m z.reply z.line there)

    -- the line is absent, and another was evicted for it
    module _ (absent : lookup (nat_eq a) s.lines ≡ None) (is_full : g.slice_lines ≤ length s.lines) where
      full_slice : IsFull g (slice_of s)
      full_slice = rw (len-from_entries s.lines distinct) is_full

      -- the evicted line leaves room
      room_left : (b : ℕ) (k : Line) → lookup (nat_eq b) s.lines ≡ Some (Shared k) → HasRoom g (without_line (slice_of s) b k) a
      room_left b k i =
          let was = len-from_entries s.lines distinct in
          let left : map.len (map.remove (slice_of s).lines b) ≡ length s.lines - 1 = len-remove nat_cmp_total (slice_of s).lines b ∙ rw (at b _ i, was) refl in
          inr (rw left (omega arith))

      still_absent : (b : ℕ) (k : Line) → map.get (without_line (slice_of s) b k).lines a ≡ None
      still_absent b k = get-remove nat_cmp_total (slice_of s).lines b a ∙ rw (at a _ absent) (same (eq_by_cmp nat_cmp a b))
        where
          same : (x : Bool) → ◌≡◌ {A = Option ManagedLine} (cond x None None) None
          same true = refl
          same false = refl

      way_made : (access : Access) (b : ℕ) (k : Line) (row : Row) → lookup (nat_eq b) s.lines ≡ Some (Shared k) → answer_row g (asks c a copy access) (Some (b, k)) access (filled_line (with_line s.memory b k) a) ≡ Ok row → RowHolds (request_of a copy access) row
      way_made access b k row i e =
          let u = without_line (slice_of s) b k in
          let m = request_of a copy access in
          let met : met_line u a ≡ Shared (filled_line u.memory a) = rw (still_absent b k) refl in
          let z = answer_holds g u c a copy (Some (b, k)) (filled_line u.memory a) met (room_left b k i) access row e in
          let after : slice_of (served (spilled s b k) (addr_of m) z.line) ≡ with_managed u a z.line = slice_of-served (spilled s b k) (addr_of m) z.line ∙ ap (λ (v : Slice). with_managed v (addr_of m) z.line) (slice_of-spilled s b k distinct) ∙ ap (λ (q : ℕ). with_managed u q z.line) (address access) in
          subst (RowHolds m) (sym z.is) (rw after (makes_room b z.reply u (with_managed u a z.line) (rw (address access) (at a _ absent)) full_slice (evicts k (at b _ i)) z.table), (rw (address access) absent, i))

      recalled : (access : Access) (b o : ℕ) → giving_way s.lines ≡ Some (b, Exclusive o) → RowHolds (request_of a copy access) (Recalled (record { rts = 0; addr = b; owner = o; kind = Flush }))
      recalled access b o w =
          full (request_of a copy access) b o (asked access) (rw (address access) (at a _ absent)) full_slice (λ q l h. none_shared s.lines b o w q l (sym (get-lookup s.lines q) ∙ h)) (at b _ (lookup-giving_way s.lines distinct (b, Exclusive o) w))

    -- the line is absent
    filled : (access : Access) (row : Row) → lookup (nat_eq a) s.lines ≡ None → absent_row g s (asks c a copy access) (makes_way g s) ≡ Ok row → RowHolds (request_of a copy access) row
    filled access row absent h = go (nat_lt (length s.lines) g.slice_lines) refl
      where
        met : met_line (slice_of s) a ≡ Shared (filled_line s.memory a)
        met = rw (at a _ absent) refl

        fits_one : length s.lines < g.slice_lines → HasRoom g (slice_of s) a
        fits_one lt = inr (rw (len-from_entries s.lines distinct) lt)

        yields : g.slice_lines ≤ length s.lines → (w : Option (ℕ × ManagedLine)) → giving_way s.lines ≡ w → absent_row g s (asks c a copy access) w ≡ Ok row → RowHolds (request_of a copy access) row
        yields is_full None i e = let none : length s.lines ≡ 0 = ap length (no_lines s.lines i) in absurd (omega arith)
        yields is_full (Some (b, Shared k)) i e = way_made absent is_full access b k row (lookup-giving_way s.lines distinct (b, Shared k) i) e
        yields is_full (Some (b, Exclusive o)) i e =
            let is : Recalled (record { rts = 0; addr = b; owner = o; kind = Flush }) ≡ row = cc in
            subst (RowHolds (request_of a copy access)) is (recalled absent is_full access b o i)

        go : (x : Bool) → nat_lt (length s.lines) g.slice_lines ≡ x → RowHolds (request_of a copy access) row
        go true t = let room : length s.lines < g.slice_lines = grind (arith, nat_tests) in answered access (filled_line s.memory a) row met (fits_one room) (rw t at h)
        go false t = let is_full : g.slice_lines ≤ length s.lines = grind (arith, nat_tests) in yields is_full (giving_way s.lines) refl (rw t at h)

    requested : (access : Access) (row : Row) → request_row g s (asks c a copy access) (lookup (nat_eq a) s.lines) ≡ Ok row → RowHolds (request_of a copy access) row
    requested access row h = go (lookup (nat_eq a) s.lines) refl h
      where
        go : (o : Option ManagedLine) → lookup (nat_eq a) s.lines ≡ o → request_row g s (asks c a copy access) o ≡ Ok row → RowHolds (request_of a copy access) row
        go None i e = filled access row i e
        go (Some (Shared l)) i e = answered access l row (rw (at a _ i) refl) (inl (rw (at a _ i) refl)) e
        go (Some (Exclusive o)) i e = owned access o row i e

  pub row_holds : (m : Message) (row : Row) → row_of g s c m ≡ Ok row → RowHolds m row
  row_holds (ShReq a copy pts) row h = requested a copy (Read pts) row h
  row_holds (ExReq a copy) row h = requested a copy Write row h
  row_holds (WbRep a l) row h = written_back a l row h
  row_holds (FlushRep a l) row h = flushed a l row h
