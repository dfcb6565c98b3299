use Rattle.std.proofs.Common.{◌≡◌, ◌<◌, Some, length, slice_get, refl, ap, ◌∙◌, arith}
use Rattle.std.proofs.lemmas.Option.{slice_get_read}
use Rattle.slice_bank.specs.Serving.{slice_number}
use Rattle.slice_bank.proofs.local.LocalPortPort.serve.Goals as goal

pub returns-clause-served : goal.returns-clause-served
returns-clause-served c =
    let slices = c.self.inside.slices.items in
    let config = c.self.inside.config in
    let asked = c.index_mut-slice.result.now in
    let below : c.slice_of-number.result < length slices = omega (arith, c.slice_of-number.ensures.in_range, c.self.invariant) in
    let there : slice_get slices c.slice_of-number.result ≡ Some asked =
    slice_get_read slices (length slices) c.slice_of-number.result asked refl below c.index_mut-slice.ensures.value in
    let number = c.slice_of-number.ensures.value ∙ ap (λ a. slice_number config a) c.addr.ensures in
    rw (← c.self.view_is, ← number) (record {
      slice = asked;
      there = there;
      left = c.serve.new.slice;
      served = c.serve.ensures.served;
      others = refl;
    })
