use Rattle.std.proofs.Common.{◌≡◌, Some, arith}
use Rattle.std.specs.Prelude.{slice_get}
use Rattle.std.proofs.lemmas.Option.{gets}
use Rattle.refutation.proofs.indexed.Indexed.last.Goals as goal

pub returns-in_err-get : goal.returns-in_err-get
returns-in_err-get c = λ operations at.
    let has = (rw c.self.view_is at c.self.invariant) c.args.core operations at in
    grind (arith, gets)

pub returns : goal.returns
returns c = λ operations at.
    let has = (rw c.self.view_is at c.self.invariant) c.args.core operations at in
    let found : slice_get c.self.inside.lasts.items c.args.core ≡ Some c.in_ok-get.field-0.now = grind (arith, gets) in
    rw (c.copied.ensures, c.get-2.ensures.value) ((rw found at has) c.args.addr c.args.word)
