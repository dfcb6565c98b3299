-- A run that the machine has: one core performs one store.
use Rattle.std.proofs.Common.{◌≡◌, ◌∷◌, [], ℕ, ◌<◌, refl, arith, inr, false}
use Rattle.std.specs.Prelude.{Option, Some, None}
use Rattle.std.specs.Ordering.{nat_cmp}
use Rattle.std.specs.FinMap as map
use Rattle.std.specs.FinMap.{get-empty, len-empty}
use Rattle.mem_op.specs.declared.id.Op.{Op}
use Rattle.mem_op.specs.declared.id.Op.TheVariants as op
use Rattle.mem_op.specs.declared.id.Source.TheVariants as source
use Rattle.line_stamps.specs.declared.line.Line.{Line}
use Rattle.line_stamps.specs.declared.message.Message.{Message}
use Rattle.line_stamps.specs.declared.message.Reply.{Reply}
use Rattle.memory_stamp.specs.Memory.{filled_line}
use Rattle.core_program.specs.declared.instruction.Instruction.TheVariants as instruction
use Rattle.private_cache.specs.Table.{Hit, stored, copy_of}
use Rattle.private_cache.specs.declared.held.Held.{Held}
use Rattle.private_cache.specs.declared.held.Held.TheVariants.{Exclusive}
use Rattle.manager_slice.specs.Table.{Slice, opening as new_slice, own_reply, gives, serves as answers, with_managed}
use Rattle.manager_slice.specs.declared.managed.HistoryEntry.TheVariants.{Served}
use Rattle.manager_slice.specs.declared.managed.ManagedLine.{ManagedLine}
use Rattle.manager_slice.specs.declared.managed.ManagedLine.TheVariants as managed
use Rattle.core_unit.specs.Core.{Core, new_core, next_request, has_asked, has_taken, after_hit}
use Rattle.core_machine.specs.Machine.{World, with_core, with_slice, turn_asks, turn_hits, takes, by_core, serves, Leads, start, next, opening}
use Rattle.core_machine.specs.declared.event.Event.TheVariants as event
use Rattle.machine_laws.specs.Laws.{one_store, one_slice, OneStoreRuns}
use Rattle.machine_laws.proofs.Maps.{get-insert_same}
use Rattle.machine_laws.proofs.Replies.{own_fits}

pub one_store_runs : OneStoreRuns
one_store_runs =
    let x : Op = op.Store 5 7 in
    let u0 : Core = new_core (instruction.Store 5 7 ∷ []) in
    let m : Message = next_request u0 x in
    let w0 : World = opening one_store 1 in
    let u1 : Core = has_asked u0 m in
    let w1 : World = with_core w0 0 u1 in
    let l : Line = filled_line new_slice.memory 5 in
    let copy : Option ℕ = copy_of (map.get u0.lines 5) in
    let reply : Reply = own_reply copy l in
    let u2 : Core = record u1 { kept = Some reply } in
    let s2 : Slice = with_managed new_slice 5 (managed.Exclusive 0) in
    let w2 : World = with_slice one_slice (with_core w1 0 u2) 5 s2 in
    let u3 : Core = has_taken u2 5 (Exclusive false l) in
    let w3 : World = with_core w2 0 u3 in
    let hit : Hit = record { value = l.value; source = l.source; held = stored 7 (source.Store (record { core = 0; index = 0 })) 1 0; stamp = 1; rank = 0 } in
    let w4 : World = with_core w3 0 (after_hit one_slice u3 x hit) in
    let no_line : map.get u0.lines 5 ≡ None = get-empty {X = Held} nat_cmp 5 in
    let asks : Leads one_slice w0 (event.Turn 0) _ w1 = by_core 0 _ _ u0 u1 refl (turn_asks x refl refl (rw no_line refl) (rw (len-empty nat_cmp Held) refl)) in
    let room : map.len new_slice.lines < 64 = rw (len-empty nat_cmp ManagedLine) (omega arith) in
    let served : Leads one_slice w1 (event.Serve 0) _ w2 = serves 0 u1 m reply (Served 0 m reply ∷ []) new_slice s2 refl refl refl refl (answers reply s2 (gives 5 copy l (rw (get-empty {X = ManagedLine} nat_cmp 5) refl) (inr room))) in
    let taken : Leads one_slice w2 (event.Take 0) _ w3 = by_core 0 _ _ u2 u3 refl (takes m reply (Exclusive false l) refl refl (own_fits 5 copy l) (rw (len-empty nat_cmp Held) refl) (rw no_line refl)) in
    let performed : Leads one_slice w3 (event.Turn 0) _ w4 = by_core 0 _ _ u3 (after_hit one_slice u3 x hit) refl (turn_hits x hit refl refl (rw (get-insert_same u0.lines 5 (Exclusive false l)) refl)) in (
      w4,
      next (event.Turn 0 ∷ event.Serve 0 ∷ event.Take 0 ∷ []) (event.Turn 0) _ w3 w4
          (next (event.Turn 0 ∷ event.Serve 0 ∷ []) (event.Take 0) _ w2 w3 (next (event.Turn 0 ∷ []) (event.Serve 0) _ w1 w2 (next [] (event.Turn 0) _ w0 w1 start asks) served) taken) performed,
      refl,
    )
