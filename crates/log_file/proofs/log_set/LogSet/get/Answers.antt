-- The entries of a log are those from its start to its end.
use Rattle.std.proofs.Common.{rules, ◌≡◌, ◌≤◌, ◌-◌, List, None, ap, sym, arith, drop, length, option_map, slice_get}
use Rattle.std.proofs.lemmas.List.{length-take}
use Rattle.log_record.specs.declared.record.Record.{Record}
use Rattle.log_record.specs.Entries.{core_entries}
use Rattle.log_file.proofs.Joined.{Found, ends_many, found, not_found, part_of, part_short, set_kept}
use Rattle.log_file.proofs.log_set.LogSet.get.Goals as goal

pub returns-then-place-len-clause-log : goal.returns-then-place-len-clause-log
returns-then-place-len-clause-log c =
    let kept = set_kept c.self.inside c.self.view_is c.self.invariant in
    let none : slice_get c.args.self.now c.get-place.result ≡ None = not_found kept.0 c.get-place.result (omega (arith, c.if-place-len.true, c.len.ensures, c.self.inside.ends.ok.0)) in
    sym (ap (option_map (λ (log : List Record). core_entries c.args.core 0 log)) (rw c.get-place.ensures.value at none))

pub start_of-start-requires : goal.start_of-start-requires
start_of-start-requires c =
    let kept = set_kept c.self.inside c.self.view_is c.self.invariant in
    omega (arith, c.if-place-len.false, c.len.ensures, c.self.inside.ends.ok.0, ends_many kept.0)

at : (c : goal.After-deref) → Found c.self.inside.entries.items c.args.self.now c.get-place.result c.index-end.result.now
at c =
    let kept = set_kept c.self.inside c.self.view_is c.self.invariant in
    found kept.0 c.get-place.result c.index-end.result.now (omega (arith, c.if-place-len.false, c.len.ensures, c.self.inside.ends.ok.0)) c.index-end.ensures

pub offset_bounds-deref-start : goal.offset_bounds-deref-start
offset_bounds-deref-start c = let f = at c in omega (arith, f.within, f.end_is, c.start_of-start.ensures, c.deref.type_inv.1, ap length c.deref.ensures.value)

pub slice_bounds-result-count : goal.slice_bounds-result-count
slice_bounds-result-count c = let f = at c in omega (arith, f.end_is, c.start_of-start.ensures)

pub slice_bounds-result-start : goal.slice_bounds-result-start
slice_bounds-result-start c =
    let f = at c in
    let h : c.start_of-start.result ≤ length c.deref.result.now = omega (arith, f.within, f.end_is, c.start_of-start.ensures, ap length c.deref.ensures.value) in
    search rules

pub slice_bounds-result-end : goal.slice_bounds-result-end
slice_bounds-result-end c =
    let f = at c in
    let h : c.index-end.result.now ≤ length c.deref.result.now = omega (arith, f.within, ap length c.deref.ensures.value) in
    let g : c.start_of-start.result ≤ c.index-end.result.now = omega (arith, f.end_is, c.start_of-start.ensures) in
    search rules

pub returns-clause-log : goal.returns-clause-log
returns-clause-log c =
    let kept = set_kept c.self.inside c.self.view_is c.self.invariant in
    let f = found kept.0 c.get-place.result c.index-end.result.now (omega (arith, c.if-place-len.false, c.len.ensures, c.self.inside.ends.ok.0)) c.index-end.ensures in
    rw (c.deref.ensures.value, sym c.get-place.ensures.value) (part_of c.get-place.result c.index-end.result.now c.start_of-start.result f c.start_of-start.ensures)

pub returns-clause-short : goal.returns-clause-short
returns-clause-short c =
    let kept = set_kept c.self.inside c.self.view_is c.self.invariant in
    let f = found kept.0 c.get-place.result c.index-end.result.now (omega (arith, c.if-place-len.false, c.len.ensures, c.self.inside.ends.ok.0)) c.index-end.ensures in
    omega (arith, length-take (c.index-end.result.now - c.start_of-start.result) (drop c.start_of-start.result c.deref.result.now), part_short kept.1 f, c.start_of-start.ensures)
