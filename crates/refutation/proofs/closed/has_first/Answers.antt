use Rattle.std.proofs.Common.{◌∙◌, ap, sym, length, refl}
use Rattle.std.proofs.lemmas.Simd.{splat_is_map}
use Rattle.trace.proofs.Growth.{length_lists}
use Rattle.refutation.proofs.closed.has_first.Goals as goal

pub returns : goal.returns
returns c =
    let many = ap length (sym c.cores.ensures.value) ∙ length_lists c.cores.result.now in
    let next = c.deref.ensures.value ∙ c.in_ok-next.ensures.items_if_clones_equal (λ y e. e) ∙ splat_is_map c.args.trace.now _ 0 many in
    rw (next, c.in_ok-words.ensures.items_if_clones_equal (λ y e. e) ∙ splat_is_map c.args.addresses.now _ 0 refl) at c.is_in.ensures
