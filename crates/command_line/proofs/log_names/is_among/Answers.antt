use Rattle.std.proofs.Common.{◌≡◌, ◌∙◌, ap, arith, sym, refl, true, false, Bor}
use Rattle.std.specs.List.{list_any}
use Rattle.std.specs.Str.{bytes_eq}
use Rattle.std.proofs.lemmas.List.{take_all}
use Rattle.clap.specs.Words.{Text}
use Rattle.command_line.proofs.NamesApart.{among, here}
use Rattle.command_line.proofs.log_names.is_among.Goals as goal

pub returns-then-eq : goal.returns-then-eq
returns-then-eq c =
    (λ yes. here c.args.name.now c.args.names.now c.loop-other.other-index _ c.loop-other-test.true (sym c.eq.ensures ∙ c.if-eq.true), λ has. refl)

pub returns : goal.returns
returns c =
    let name = c.args.name.now in
    let names = c.args.names.now in
    let none : list_any (λ (y : Bor Text). bytes_eq y.now name) names ≡ false =
    ap (list_any (λ (y : Bor Text). bytes_eq y.now name)) (sym (take_all c.loop-other.other-index names (omega arith))) ∙ c.loop-other.invariant in
    (λ yes. absurd cc, λ has. let finds : true ≡ false = sym ((among name names).1 has) ∙ none in absurd cc)
