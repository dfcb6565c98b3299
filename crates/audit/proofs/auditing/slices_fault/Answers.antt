use Rattle.std.proofs.Common.{slice_index, ap, ◌∙◌}
use Rattle.std.specs.Prelude.{slice_get}
use Rattle.std.proofs.lemmas.List.{length-map}
use Rattle.audit.specs.Lists.{transcripts, histories}
use Rattle.audit.proofs.Maximal.{merged_agrees, no_slice_left}
use Rattle.audit.proofs.Orders.{all_merged, past_all}
use Rattle.audit.proofs.Progress.{entry_there, list_there}
use Rattle.audit.proofs.auditing.slices_fault.Goals as goal

pub returns-in_default : goal.returns-in_default
returns-in_default c =
    let ts = transcripts c.args.units.now in
    let hs = histories c.args.slices.now in
    let p = c.args.places.now.cores in
    let q = c.args.places.now.slices in
    let merge = all_merged ts hs p q c.requires.fronts.reached
    (past_all ts 64 (λ k. slice_index p k) (rw length-map c.requires.units) c.requires.used)
    (past_all hs 16 (λ k. slice_index q k) (rw length-map c.requires.most) c.in_default.ensures) in
    (merged_agrees ts hs merge, merge)

pub unreachable-requires : goal.unreachable-requires
unreachable-requires c =
    let ts = transcripts c.args.units.now in
    let hs = histories c.args.slices.now in
    let p = c.args.places.now.cores in
    let q = c.args.places.now.slices in
    let s = c.in-Some.slice in
    let e = entry_there _ (slice_index q s) c.in-Some.ensures.1 in
    no_slice_left ts hs p q c.requires.fronts.reached c.requires.stuck c.requires.used c.in-None.ensures s
    (λ d m r at. c.server_in_range.ensures d m r (ap (λ h. slice_get h (slice_index q s)) c.history_at.ensures ∙ at))
    e.0 (list_there hs s (slice_index q s) c.in-Some.ensures.1) e.1
