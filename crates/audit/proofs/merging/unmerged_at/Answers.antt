use Rattle.std.proofs.Common.{◌≡◌, length, take, slice_index, ap, sym, ◌∙◌}
use Rattle.std.specs.Prelude.{Some, slice_get}
use Rattle.std.proofs.lemmas.List.{length-map}
use Rattle.line_stamps.specs.Messages.{addr_of}
use Rattle.core_unit.specs.declared.entry.CoreEntry.TheVariants.{Got}
use Rattle.audit.specs.Lists.{transcripts, histories, transcript_of}
use Rattle.audit.specs.Pairs.{gots, slice_of}
use Rattle.audit.proofs.Progress.{first_unmerged}
use Rattle.audit.proofs.merging.unmerged_at.Goals as goal

pub returns : goal.returns
returns c =
    let hs = histories c.args.slices.now in
    let ts = transcripts c.args.units.now in
    let T = transcript_of ts c.args.core in
    let m = c.in-Some-Got.message in
    let r = c.in-Some-Got.field-0-1 in
    let k = slice_index c.args.places.now.cores c.args.core in
    let got : slice_get T k ≡ Some (Got m r) = sym c.entry_at.ensures ∙ c.in-Some-Got.is ∙ ap (λ x. Some x) c.in-Some-Got.field-0-is in
    let n : length c.args.slices.now ≡ length hs = sym (length-map c.args.slices.now (λ s. s.history)) in
    let slice : c.slice_of-slice.result ≡ slice_of (length hs) (addr_of m) =
    c.slice_of-slice.ensures.value ∙ (ap (λ a. slice_of (length c.args.slices.now) a) c.addr.ensures ∙ ap (λ x. slice_of x (addr_of m)) n) in
    let count = c.gots_before-place.ensures ∙ (ap (λ x. length (gots x c.slice_of-slice.result (take k T))) n
    ∙ ap (λ x. length (gots (length hs) x (take k T))) slice) in
    rw slice
    (first_unmerged ts hs c.args.places.now.cores c.args.places.now.slices c.args.core m r c.gots_before-place.result c.requires.reached c.requires.stuck c.requires.earlier
    got (sym count))
