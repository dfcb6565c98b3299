-- What its line makes of an operation.
use Rattle.std.proofs.Common.{◌≡◌, ℕ, refl}
use Rattle.std.specs.Prelude.{Option, Some, None, Result, MatchResult, IsSomeAnd}
use Rattle.std.specs.FinMap as map
use Rattle.mem_op.specs.Consistency.{word_answered}
use Rattle.mem_op.specs.declared.id.Op.{Op}
use Rattle.mem_op.specs.declared.id.Op.TheVariants as op
use Rattle.mem_op.specs.declared.id.Source.{Source}
use Rattle.line_stamps.specs.declared.fault.StampFault.{StampFault}
use Rattle.log_record.specs.Entries.{operation_of}
use Rattle.log_record.specs.declared.record.Record.{Record}
use Rattle.private_cache.specs.Answers.{hit_fault, swap_answer}
use Rattle.private_cache.specs.Table.{Hit}
use Rattle.private_cache.specs.declared.answer.Read.{Read}
use Rattle.private_cache.specs.declared.answer.Read.TheVariants as read
use Rattle.private_cache.specs.declared.held.Held.{Held}
use Rattle.core_unit.specs.Core.{Core, answer_of, record_of}
use Rattle.core_unit.specs.inner.Look.{look_of}

abbrev pub Tells : Result Read StampFault → Read → Option Hit → Type 0
Tells r look hit = MatchResult r (λ read. (read ≡ look) × (hit_fault hit ≡ None)) (λ fault. hit_fault hit ≡ Some fault)

-- a store or a swap is looked at as a swap
pub store_looks : (u : Core) (a value : ℕ) (hit : Option Hit) (r : Result Read StampFault) → Tells r (swap_answer a (map.get u.lines a) hit) hit → Tells r (look_of u (op.Store a value) hit) hit
store_looks u a value None r h = h
store_looks u a value (Some hit) r h = h

pub swap_looks : (u : Core) (a value : ℕ) (hit : Option Hit) (r : Result Read StampFault) → Tells r (swap_answer a (map.get u.lines a) hit) hit → Tells r (look_of u (op.Swap a value) hit) hit
swap_looks u a value None r h = h
swap_looks u a value (Some hit) r h = h

-- a hit that is looked at is the operation's, and its record is made of it
pub look_hits : (u : Core) (x : Op) (hit : Option Hit) (value : ℕ) (source : Source) (t rank : ℕ) (made : Record)
    → read.Hit value source t rank ≡ look_of u x hit → hit_fault hit ≡ None
    → ((held : Held) → made ≡ record_of x (record { value = value; source = source; held = held; stamp = t; rank = rank }))
    → IsSomeAnd hit (λ found. (made ≡ record_of x found) × (hit_fault (Some found) ≡ None))
look_hits u x None value source t rank made e within is = absurd cc
look_hits u x (Some found) value source t rank made e within is =
    let v : value ≡ found.value = cc in
    let s : source ≡ found.source = cc in
    let w : t ≡ found.stamp = cc in
    let k : rank ≡ found.rank = cc in
    (rw (v, s, w, k) at is found.held, within)

-- the operation of a record answers its program as the hit did
pub record_answer : (x : Op) (hit : Hit) → word_answered (operation_of (record_of x hit)) ≡ answer_of x hit
record_answer (op.Load a) hit = refl
record_answer (op.Store a value) hit = refl
record_answer (op.Swap a value) hit = refl
