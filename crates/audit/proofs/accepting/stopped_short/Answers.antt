use Rattle.std.proofs.Common.{Some, sym, ap, ◌∙◌, arith}
use Rattle.std.proofs.lemmas.Option.{slice_get-get_or}
use Rattle.core_unit.specs.Parts.{UnitParts}
use Rattle.audit.proofs.accepting.stopped_short.Goals as goal

pub returns : goal.returns
returns c =
    let u : UnitParts = c.index-units-core.result in
    record {
      unit = u;
      stands = slice_get-get_or c.args.units.now c.args.core u (omega (arith, c.if-core-units.false)) ∙ ap (λ x. Some x) (sym c.index-units-core.is);
      short = c.if-not-is_short.ensures;
    }
